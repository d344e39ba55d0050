-- Document 01's ten checked examples, proved over the definitions as one table with a single statement: replayed by the definitions, the
-- table is what it was. By computation.
use mathlib.Core.Path.{◌≡◌, refl}
use mathlib.Core.List.{map}
use Rattle.words.specs.Bytes.{bit, takes_low, takes_high, are_lanes, lay}
use Rattle.words.specs.Memory.{fetch_at, store_at}
use Rattle.bus.specs.Order.{highest, with_source, granted, released}
use Rattle.control.specs.Control.{bare, low_parts, host_low, processor_low, closes, fetches}
use Rattle.registers.specs.Registers.{register_word, half_written, written}
use Rattle.registers.specs.Processor.{processor_written, processor_writes}
use Rattle.port_spec.specs.Cycle.{stepped, cycle_of, after_fetch, after_store, carried, memory_after}
use Rattle.port_spec.specs.Host.{read_due, write_due, begin_access, refusal, done, access, access_memory}
use Rattle.port_spec.specs.Sequences.{answer_of, after}
use Rattle.field_spec.specs.Field.{memory_bit, with_bit, set_memory_bit, field_at, with_field, signed}
use Rattle.field_spec.specs.Count.{touched, wholly_covered, sum_over, take_cost, take_cycles, put_cost, put_cycles}
use Rattle.field_spec.specs.Answers as fields
use Rattle.field_spec.specs.Answers.{no_size, taken, taken_signed, put_answer, put_memory}
use Rattle.checked_spec.specs.Acts.{seen, later, replay, replayed, after_all}
use Rattle.checked_spec.specs.Examples.{row_1, row_2, row_3, row_4, row_5, row_6, row_7, row_8, row_9, row_10, examples}

-- Document 01's ten checked examples, replayed by the definitions, are the table that specs/Examples has, row by row.
pub examples_hold : map replayed examples ≡ examples
unfolding
    examples row_1 row_2 row_3 row_4 row_5 row_6 row_7 row_8 row_9 row_10 replayed replay after_all seen later
    answer_of after access access_memory done refusal begin_access read_due write_due
    carried memory_after after_fetch after_store cycle_of stepped written half_written register_word processor_writes processor_written
    closes fetches bare low_parts host_low processor_low bit takes_low takes_high are_lanes lay fetch_at store_at
    granted released highest with_source
    put_answer put_memory taken taken_signed no_size fields.refusal
    touched wholly_covered sum_over take_cost take_cycles put_cost put_cycles
    memory_bit with_bit set_memory_bit field_at with_field signed
examples_hold = refl
