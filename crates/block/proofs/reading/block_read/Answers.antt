-- `block::reading::block_read` meets its contract: a refused block by its number, an accepted one by its reads, whose words lie
-- where the lent part of the list came back.
use Rattle.std.proofs.Common.{◌≡◌, ℕ, ◌+◌, ◌≤◌, ◌≢◌, List, length, sym, ap, ◌∙◌, arith}
use Rattle.port_spec.specs.Sequences.{machine}
use Rattle.port_spec.proofs.Named.{never_0}
use Rattle.block_spec.specs.Block.{block_number}
use Rattle.block_spec.specs.Parts.{ReadInto}
use Rattle.block_spec.proofs.Numbers.{when, read_barred, list_barred}
use Rattle.block_spec.proofs.Whole.{read_block}
use Rattle.block_spec.proofs.Lent.{part_length, put_back}
use Rattle.block.proofs.reading.block_read.Goals as goal

-- the numbers of a block that is accepted fit
fits : (m l : List ℕ) (place count : ℕ) → 0 ≡ block_number m l place count →
    (length m ≤ 32768) × (count ≤ 4096) × (place + count ≤ length l)
fits m l place count e = (when _ _ _ _).done.0 (sym e)

pub returns-in-Err : goal.returns-in-Err
returns-in-Err c =
    let a = c.args in
    let e = c.from.ensures ∙ c.in-Err.ensures in
    let n : block_number a.memory.now a.list.now a.place a.count ≢ 0 = λ q. never_0 _ (c.in-Err.ensures ∙ q) in
    record {
      outcome = ap (λ (x : ℕ). record { number = x; hollows = 0; registers = a.r }) e ∙ sym (read_barred a.r _ _ _ _ n);
      list = sym (list_barred a.r _ _ _ _ n);
    }

pub overflow_add-end : goal.overflow_add-end
overflow_add-end c = omega (arith, (fits c.args.memory.now c.args.list.now c.args.place c.args.count c.in_default.ensures).2)

pub offset_bounds-list-place : goal.offset_bounds-list-place
offset_bounds-list-place c = omega (arith, (fits c.args.memory.now c.args.list.now c.args.place c.args.count c.in_default.ensures).2)

pub slice_bounds-read_words-end : goal.slice_bounds-read_words-end
slice_bounds-read_words-end c = (fits c.args.memory.now c.args.list.now c.args.place c.args.count c.in_default.ensures).2

pub read_words-run-requires : goal.read_words-run-requires
read_words-run-requires c =
    let f = fits c.args.memory.now c.args.list.now c.args.place c.args.count c.in_default.ensures in
    rw (part_length _ _ _ f.2) (f.0, f.1)

pub returns : goal.returns
returns c =
    let a = c.args in
    let run = c.read_words-run in
    let f = fits a.memory.now a.list.now a.place a.count c.in_default.ensures in
    let read : ReadInto (machine a.r a.memory.now) a.count run.result run.new.part =
    rw (part_length a.place a.count a.list.now f.2) at run.ensures in
    rw (put_back a.place a.count a.list.now run.new.part)
    (read_block a.r a.memory.now a.list.now a.place a.count (sym c.in_default.ensures) run.result run.new.part read)
