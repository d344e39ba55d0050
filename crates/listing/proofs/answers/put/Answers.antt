-- `listing::answers::put` meets its contract: what is copied over the part from the place on is laid there (`copied_over`).
use Rattle.std.proofs.Common.{refl, arith}
use Rattle.listing.proofs.Laying.{copied_over}
use Rattle.listing.proofs.answers.put.Goals as goal

pub returns : goal.returns
returns c =
    record {
      end = refl;
      output = copied_over c.args.output.now c.args.at _ c.args.text.now _ (omega arith) c.copy_from_slice.ensures.after;
    }
