-- The loop holds the keys of the parts that it has passed. Assumes nothing.
use Prim.Native.Nat.{◌-◌}
use mathlib.Core.Path.{◌≡◌}
use lib.ListN.{length}
use Rattle.listing.proofs.HeldKeys as laws
use Rattle.listing.proofs.keys.hold_keys.Given as goal

abbrev pub invariant-loop-x : goal.invariant-loop-x
invariant-loop-x l = laws.Holding l.text l.words l.initial.rest l.rest l.held l.count × (length l.held ≡ length l.initial.held)

abbrev pub decreases-loop-x : goal.decreases-loop-x
decreases-loop-x l = length l.words - l.rest.from
