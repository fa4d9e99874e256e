-- The bytes passed are written as quoted text has them; a turn writes a block. Assumes nothing.
use mathlib.Core.Path.{ap, ◌∙◌}
use Rattle.std.specs.Slice.Iter.{chunks_rest, chunks_size}
use Rattle.listing.specs.Quoted.{escaped}
use Rattle.listing.proofs.Writers as writers
use Rattle.listing.proofs.Writes as writes
use Rattle.listing.proofs.writer.Writer.write_blocks.Goals as goal

pub loop-block-init : goal.loop-block-init
unfolding escaped
loop-block-init c =
    let e = c.into_iter-block-iterator.ensures.into_iter_gives in
    let n = c.chunks-block-items.ensures in
    (ap chunks_size e ∙ n.size, writes.passed_none _ (ap chunks_rest e ∙ n.rest) (writers.wrote_none _))

pub loop-block-preserved : goal.loop-block-preserved
loop-block-preserved c =
    let b = c.in-Some.ensures.steps in
    let i = c.loop-block.invariant in
    (b.0 ∙ i.0, writers.escaped_block i.1 c.in-Some.block.now _ b.1.0 c.write_block.ensures)
