-- `listing::write::escapes` meets its contract: the invariant says how many bytes have an escape of those passed and those behind the last whole block.
use mathlib.Core.Path.{◌∙◌}
use Rattle.listing.proofs.Writes as writes
use Rattle.listing.proofs.write.escapes.Goals as goal

pub loop-block-preserved : goal.loop-block-preserved
loop-block-preserved c =
    let b = c.in-Some.ensures.steps in
    let i = c.loop-block.invariant in
    (b.0 ∙ i.0, rw b.2 (writes.counted_more i.1 c.in-Some.block.now _ (b.1.1 ∙ i.0) b.1.0 c.escapes_in-n-in-loop-block.ensures))
