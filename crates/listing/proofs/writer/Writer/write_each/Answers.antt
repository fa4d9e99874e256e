-- The bytes passed are written as quoted text has them. Assumes nothing.
use native.Mathlib.Omega.{arith}
use mathlib.Core.Path.{refl}
use Rattle.listing.specs.Quoted.{escaped}
use Rattle.listing.proofs.Writes as writes
use Rattle.listing.proofs.writer.Writer.write_each.Goals as goal

pub loop-b-init : goal.loop-b-init
unfolding escaped
loop-b-init c = (refl, writes.written_none _ _ (omega arith))

pub loop-b-preserved : goal.loop-b-preserved
loop-b-preserved c =
    let l = c.loop-b in
    (l.invariant.0, writes.escaped_more c.args.text.now l.b-index (omega arith) (omega arith) l.invariant.1 c.store_escaped-p.ensures)
