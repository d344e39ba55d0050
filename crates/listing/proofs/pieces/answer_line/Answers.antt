-- `listing::pieces::answer_line` meets its contract: the access, then the text of its answer, whose number has one digit.
use native.Mathlib.Omega.{arith}
use mathlib.Core.Path.{ap, subst}
use Rattle.port_spec.specs.declared.Answer.{Answer}
use Rattle.port_spec.specs.declared.Outcome.{Outcome}
use Rattle.port_spec.proofs.Numbers.{numbered}
use Rattle.listing.specs.Answer.{answer_text}
use Rattle.listing.specs.Parts.{Put}
use Rattle.listing.proofs.pieces.answer_line.Goals as goal

pub put_answer-requires : goal.put_answer-requires
put_answer-requires c =
    let a = c.args in
    let listed = (numbered a.r a.memory.now a.a).listed in
    let same = ap (λ (o : Outcome). o.answer.number) c.host_access-done.ensures.outcome in
    (c.requires, omega (arith, listed, same))

pub returns : goal.returns
returns c =
    let put = c.put_answer in
    let a = c.args in
    let outcome = c.host_access-done.ensures.outcome in
    record {
      registers = ap (λ (o : Outcome). o.registers) outcome;
      memory = c.host_access-done.ensures.memory;
      text =
          subst
          (λ (x : Answer). Put a.output.now a.wrote (answer_text a.a x) put.result put.new.output)
          (ap (λ (o : Outcome). o.answer) outcome)
          put.ensures;
    }
