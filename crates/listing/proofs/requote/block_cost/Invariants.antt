-- `listing::requote::block_cost` meets its contract: the invariant says that `n` is what the first `i` bytes take, at most four each. Assumes nothing.
use Prim.Native.Nat.{◌*◌, ◌≤◌}
use mathlib.Core.Path.{◌≡◌}
use Rattle.listing.specs.Code.Cost.{cost_to}
use Rattle.listing.proofs.requote.block_cost.Given as goal

abbrev pub invariant-loop-i : goal.invariant-loop-i
invariant-loop-i l = (l.n ≤ 4 * l.i) × (l.n ≡ cost_to l.block l.i)
