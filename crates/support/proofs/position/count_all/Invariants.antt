-- The counts so far and those of the bytes left make the text's. Assumes nothing.
use Prim.Native.Nat.{◌+◌}
use mathlib.Core.Path.{◌≡◌}
use Rattle.std.specs.Slice.Iter.{chunks_rest, chunks_size}
use Rattle.support.specs.Code.Blocks.{count, is_feed, is_first}
use Rattle.support.proofs.position.count_all.Given as goal

abbrev pub invariant-loop-block : goal.invariant-loop-block
invariant-loop-block l =
    (chunks_size l.block-iterator ≡ 64)
    × (l.feeds + count is_feed (chunks_rest l.block-iterator) ≡ count is_feed l.bytes)
    × (l.firsts + count is_first (chunks_rest l.block-iterator) ≡ count is_first l.bytes)
