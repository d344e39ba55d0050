-- What the contract of `write_all` promises, said of any writer whose bytes are known; and that this is what it says, of its own arguments
-- (`Contract`).
use Rattle.std.proofs.Common.{◌≡◌, ℕ, ◌≤◌, ◌∙◌, List, ◌++◌, length, take, take_all, Some, Result, Ok, Err, ap, sym, arith}
use Rattle.output.specs.Writing.{Wrote}
use Rattle.output.specs.declared.Stuck.{Stuck}
use contract.BorrowLft.{◌⊑◌}
use denote.Param.Laws.{Laws}
use denote.RattleType.{RattleType}
use mir.Syntax.{Dict}
use Rattle.std.specs.declared.io.traits.Write as writer
use Rattle.words.proofs.Contracts.{Contract}
use Rattle.output.proofs.write_all.Kinds as write_all_kinds
use Rattle.output.proofs.write_all.Reads as write_all

-- A text that was written whole stands behind what the writer held before, and nothing besides.
pub whole_stands_behind : (t xs ys : List ℕ) (x : Unit) → Wrote t (Some xs) (Ok x) (Some ys) → ys ≡ xs ++ t
whole_stands_behind t xs ys x p = p

-- Whatever is answered, the first bytes of the text stand behind what the writer held before, as many as were taken, and nothing besides.
pub front_stands_behind : (t xs ys : List ℕ) (w : Result Unit Stuck) → Wrote t (Some xs) w (Some ys) →
    (n : ℕ) × (n ≤ length t) × (ys ≡ xs ++ take n t)
front_stands_behind t xs ys (Ok x) p = (length t, omega arith, p ∙ ap (λ (l : List ℕ). xs ++ l) (sym (take_all (length t) t (omega arith))))
front_stands_behind t xs ys (Err e) p = p

module _ (W : RattleType) (laws : Laws W) (ghosts : writer.Ghosts W.Denot) (dict : Dict) where
  -- `write_all` takes any text and any writer of any type, if what the writer borrows outlives the loan of it, which the language sees to;
  -- and all that its contract allows is `Wrote` of them.
  pub write_all_contract : Contract (write_all_kinds.ps W laws) (write_all_kinds.r W laws)
      (λ κs args. κs.1.1.0 ⊑ W.lives → write_all.Pre W laws ghosts dict κs args)
      (write_all.Post W laws ghosts dict)
      (λ κs args w left.
      let text = args.0 in
      let to = args.1.0 in
      let to' = left.1.0 in
      Wrote text.now (ghosts.contents to.now) w (ghosts.contents to'.now))
  write_all_contract = record { takes_any = λ κs args outlives. outlives; says = λ κs args w left p. p }
