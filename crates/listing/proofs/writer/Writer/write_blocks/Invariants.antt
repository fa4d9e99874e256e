-- The bytes passed are written as quoted text has them; a turn writes a block. Assumes nothing.
use mathlib.Core.Path.{◌≡◌}
use Rattle.std.specs.Slice.Iter.{chunks_rest, chunks_size}
use Rattle.listing.specs.Quoted.{escaped}
use Rattle.listing.specs.Wrote.{Wrote}
use Rattle.listing.proofs.Writes as writes
use Rattle.listing.proofs.writer.Writer.write_blocks.Given as goal

abbrev pub invariant-loop-block : goal.invariant-loop-block
invariant-loop-block l = (chunks_size l.block-iterator ≡ 64) × writes.Passed (λ s. Wrote (escaped s) l.initial.self l.self) l.text (chunks_rest l.block-iterator)
