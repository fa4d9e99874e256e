-- Of the first `i` bytes those before `stop` have no escape. Assumes nothing.
use native.Mathlib.Omega.{arith}
use Rattle.listing.proofs.Writes as writes
use Rattle.listing.proofs.write.plain_front.Goals as goal

pub returns : goal.returns
returns c = (omega arith, writes.plain_escaped c.args.block.now c.min.result (omega arith) (λ k h. c.loop-i.invariant.2 k (omega arith) (omega arith)))
