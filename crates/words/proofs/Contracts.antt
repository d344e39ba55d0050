-- A call's contract, taken from the contract itself. The check makes `Pre` of a function's `requires` and `Post` of its `ensures`, both
-- over the arguments, in the order in which the call takes them, and `Post` also over the result and over what is left of the arguments.
-- A law on a record binds a call only if its `ensures` states that record of its own arguments, each in its place. The laws named
-- after calls (`Promised`, in each crate of calls) say so, and a `requires` would break them.
use Rattle.std.proofs.Common.{ℕ, List}
use borrow.Fn.Kinds.{ParamKind, ResultKind, In, Out, Dens, ended_of, res_t}
use contract.Lifetimes.{Lfts}
use denote.Triple.Clauses.{AtExit}

-- A call with parameters ps and result r takes any arguments, and all that its `ensures` allows is as `claim` says.
pub record Contract {n : ℕ} (ps : List (ParamKind n)) (r : ResultKind n) (pre : In n ps) (post claim : Out n ps r) : Type 0 where
  pub takes_any : (κs : Lfts n) (args : Dens κs ps) → pre κs args
  pub says : (κs : Lfts n) (args : Dens κs ps) (x : (res_t r κs).Denot) (left : AtExit (ended_of n ps r) κs) →
      post κs args x left → claim κs args x left
