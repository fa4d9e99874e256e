-- Of the first `i` bytes those before `stop` have no escape. Assumes nothing.
use Prim.Native.Nat.{ℕ, ◌≤◌, ◌<◌}
use mathlib.Core.Path.{◌≡◌}
use mathlib.Core.List.{[], ◌∷◌}
use lib.ListN.{length, get_or}
use Rattle.listing.specs.Quoted.{escape}
use Rattle.listing.proofs.write.plain_front.Given as goal

abbrev pub invariant-loop-i : goal.invariant-loop-i
invariant-loop-i l = (l.i ≤ length l.block) × (l.stop ≤ 64) × ((k : ℕ) → k < l.i → k < l.stop → escape (get_or l.block k 0) ≡ get_or l.block k 0 ∷ [])
