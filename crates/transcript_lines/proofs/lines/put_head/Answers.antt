-- `transcript_lines::lines::put_head` meets its contract: what is copied over the part from the place on is laid there (`copied_over`).
use Rattle.std.proofs.Common.{refl, arith}
use Rattle.listing.proofs.Laying.{copied_over}
use Rattle.transcript_lines.proofs.lines.put_head.Goals as goal

pub returns : goal.returns
returns c =
    record {
      end = refl;
      output = copied_over c.args.text.now c.args.at _ _ _ (omega arith) c.copy_from_slice.ensures.after;
    }
