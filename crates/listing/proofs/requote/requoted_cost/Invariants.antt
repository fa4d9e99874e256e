-- `listing::requote::requoted_cost` meets its contract: the invariant says that `n` is what the last byte and those passed take; a turn counts a block. Assumes nothing.
use mathlib.Core.Path.{◌≡◌}
use lib.ListN.{length, get_or}
use Prim.Native.Nat.{◌-◌}
use Rattle.listing.specs.Code.Cost.{cost_alone, cost_to}
use Rattle.listing.specs.Written.{onward}
use Rattle.listing.proofs.RequoteCounts as counts
use Rattle.listing.proofs.requote.requoted_cost.Given as goal

abbrev pub invariant-loop-rest : goal.invariant-loop-rest
invariant-loop-rest l = counts.Behind (λ i. l.n ≡ onward (cost_alone (get_or l.inner (length l.inner - 1) 0)) (cost_to l.inner i)) l.inner l.rest

abbrev pub decreases-loop-rest : goal.decreases-loop-rest
decreases-loop-rest l = length l.rest
