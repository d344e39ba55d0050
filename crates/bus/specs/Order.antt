-- The five sources and the order of their grants: document 01, 'Bus order', with 7, 8 and 9 of 'Numbers returned'.
--   quiet               nothing waits
--   waits b s           source s waits
--   with_source b s v   source s waiting or not, as v says, and the others as in b
--   highest b           the highest source that waits; 5 where none does
--   asked b s           what asking for source s answers
--   granted b           what a grant answers
--   released b          what releasing hold answers
use Rattle.std.specs.Prelude.{ℕ, Bool, true, false, cond, eqb, ltb}
use Rattle.bus.specs.declared.Bus.{Bus}
use Rattle.bus.specs.declared.BusAnswer.{BusAnswer}
use Rattle.bus.specs.declared.Granted.{Granted}

-- "Reset: .. no bus request waiting" ('The processor's side')
abbrev pub quiet : Bus
quiet = record { hold = false; screen = false; dram = false; host = false; processor = false }

-- "0 hold, 1 screen refresh, 2 DRAM refresh, 3 host, 4 processor. Each waits or doesn't"
unfoldable pub waits : Bus → ℕ → Bool
waits b s =
    cond (eqb s 0) b.hold
    (cond (eqb s 1) b.screen
    (cond (eqb s 2) b.dram
    (cond (eqb s 3) b.host
    (cond (eqb s 4) b.processor false))))

-- how asking marks a source and how a grant or a release "clears it"
unfoldable pub with_source : Bus → ℕ → Bool → Bus
with_source b s v =
    record {
      hold = cond (eqb s 0) v b.hold;
      screen = cond (eqb s 1) v b.screen;
      dram = cond (eqb s 2) v b.dram;
      host = cond (eqb s 3) v b.host;
      processor = cond (eqb s 4) v b.processor;
    }

-- "Sources, highest first"
unfoldable pub highest : Bus → ℕ
highest b = cond b.hold 0 (cond b.screen 1 (cond b.dram 2 (cond b.host 3 (cond b.processor 4 5))))

-- "7: that source already waits", "9: source not 0 to 4", "Tested in this order"
unfoldable pub asked : Bus → ℕ → BusAnswer
asked b s =
    cond (waits b s) (record { number = 7; bus = b })
    (cond (ltb 4 s) (record { number = 9; bus = b })
    (record { number = 0; bus = with_source b s true }))

-- "A grant answers the highest waiting source and clears it, except hold, which stays until released";
-- "8: grant with nothing waiting", and then source 0, for "A refusal returns zeros"
unfoldable pub granted : Bus → Granted
granted b =
    cond (eqb (highest b) 5) (record { number = 8; source = 0; bus = b })
    (record {
      number = 0;
      source = highest b;
      bus = cond (eqb (highest b) 0) b (with_source b (highest b) false);
    })

-- "Hold may be released whether or not it was granted"; "8: .. release with no hold": none that waits (docs/DECISIONS.md)
unfoldable pub released : Bus → BusAnswer
released b = cond b.hold (record { number = 0; bus = with_source b 0 false }) (record { number = 8; bus = b })
