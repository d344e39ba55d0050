-- `transcript::records::count_groups` meets its contract: the tests are those by which a number is put in groups.
use mathlib.Core.Path.{sym, ap}
use lib.ListN.{length}
use Rattle.transcript_spec.proofs.Groups.{one_group, two_groups, three_groups}
use Rattle.transcript.proofs.records.count_groups.Goals as goal

pub returns-then-v-lt128 : goal.returns-then-v-lt128
returns-then-v-lt128 c = sym (ap length (one_group _ c.if-v-lt128.true))

pub returns-then-v-lt16384 : goal.returns-then-v-lt16384
returns-then-v-lt16384 c = sym (ap length (two_groups _ c.if-v-lt128.false c.if-v-lt16384.true))

pub returns : goal.returns
returns c = sym (ap length (three_groups _ c.if-v-lt16384.false))
