-- `listing::requote::block_cost` meets its contract: the invariant says that `n` is what the first `i` bytes take, at most four each. Assumes nothing.
use native.Mathlib.Omega.{arith}
use Rattle.listing.specs.Code.Cost.{cost_to}
use Rattle.listing.proofs.RequoteCounts as counts
use Rattle.listing.proofs.requote.block_cost.Goals as goal

pub loop-i-init : goal.loop-i-init
unfolding cost_to
loop-i-init c = omega arith

pub loop-i-preserved : goal.loop-i-preserved
loop-i-preserved c = (omega arith, omega (arith, counts.cost_more c.args.block.now c.loop-i.i))
