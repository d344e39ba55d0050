-- `field::putting::put_in` meets its contract, by the definitions of its answer and of the memory after it.
use Rattle.std.proofs.Common.{rules}
use Rattle.field_spec.specs.Answers.{put_answer, put_memory}
use Rattle.field_spec.proofs.Accepted.{none_applies}
use Rattle.field.proofs.putting.put_in.Goals as goal

pub returns-in-Err : goal.returns-in-Err
unfolding put_answer put_memory
returns-in-Err c = search (rules, none_applies)

pub returns : goal.returns
unfolding put_answer put_memory
returns c = search (rules, none_applies)
