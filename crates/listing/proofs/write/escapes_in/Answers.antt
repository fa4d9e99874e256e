-- `listing::write::escapes_in` meets its contract: the invariant says how many of the bytes passed have an escape. Assumes nothing.
use native.Mathlib.Omega.{arith}
use Rattle.listing.specs.Quoted.{escaped}
use Rattle.listing.proofs.Writes as writes
use Rattle.listing.proofs.write.escapes_in.Goals as goal

pub loop-b-init : goal.loop-b-init
unfolding escaped
loop-b-init c = omega arith

pub loop-b-preserved : goal.loop-b-preserved
loop-b-preserved c =
    let l = c.loop-b in
    let k = writes.escape_adds _ c.has_escape.result c.has_escape.ensures c.from-n.ensures in
    (omega arith, writes.escapes_byte c.args.block.now l.b-index (omega arith) l.invariant.1 k)
