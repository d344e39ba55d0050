-- `trial::port_calls::call_host` meets its contract, by what either access ensures: by value and by lending they state the same.
use Prim.Native.Nat.{ℕ}
use mathlib.Core.List.{List}
use mathlib.Core.Path.{◌≡◌, ap, ◌∙◌}
use Rattle.port_spec.specs.Host.{access, access_memory, Accessed}
use Rattle.port_spec.specs.declared.Access.{Access}
use Rattle.port_spec.specs.declared.Outcome.{Outcome}
use Rattle.script.specs.declared.Call.{Call}
use Rattle.script.specs.declared.State.{State}
use Rattle.script.specs.declared.Done.{Done}
use Rattle.trial.specs.Calls.{access_in, host_done, HostDone}
use Rattle.trial.proofs.port_calls.call_host.Goals as goal

carried-out : (s : State) (m : List ℕ) (call : Call) {a : Access} {o : Outcome} {m' : List ℕ} {d : Done} →
    a ≡ access_in call → Accessed s.registers m a o m' → d ≡ host_done s o → HostDone s m call d m'
carried-out s m call made e said =
    record {
      answer = said ∙ ap (host_done s) (e.outcome ∙ (λ i. access s.registers m (made i)));
      memory = e.memory ∙ (λ i. access_memory s.registers m (made i));
    }

pub returns-then-is_in_place_letter : goal.returns-then-is_in_place_letter
returns-then-is_in_place_letter c =
    carried-out _ _ _ c.access_of-access.ensures
    c.host_access_by_lending.ensures c.host_done.ensures

pub returns : goal.returns
returns c =
    carried-out _ _ _ c.access_of-access.ensures c.host_access.ensures c.host_done-2.ensures
