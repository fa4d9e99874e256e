-- `listing::write::escapes` meets its contract: the invariant says how many bytes have an escape of those passed and those behind the last whole block.
use mathlib.Core.Path.{◌≡◌}
use Rattle.std.specs.Slice.Iter.{chunks_exact_rest, chunks_exact_size, chunks_exact_remainder}
use Rattle.listing.proofs.Writes as writes
use Rattle.listing.proofs.write.escapes.Given as goal

abbrev pub invariant-loop-block : goal.invariant-loop-block
invariant-loop-block l =
    let i = l.block-iterator in
    (chunks_exact_size i ≡ 128) × writes.Counted l.text (chunks_exact_rest i) (chunks_exact_remainder i) l.n
