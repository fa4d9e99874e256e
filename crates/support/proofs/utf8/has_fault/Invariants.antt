-- If none was found, the first `i` bytes may stand where they do. Assumes nothing.
use Prim.Native.Nat.{ℕ, suc, ◌<◌}
use mathlib.Core.Bool.{false}
use mathlib.Core.Path.{◌≡◌}
use lib.ListN.{get_or}
use Rattle.support.specs.Code.Blocks.{Follows}
use Rattle.support.proofs.utf8.has_fault.Given as goal

abbrev pub invariant-loop-i : goal.invariant-loop-i
invariant-loop-i l =
    l.found ≡ false → (k : ℕ) → suc (suc (suc k)) < l.i → Follows (get_or l.s k 0) (get_or l.s (suc k) 0) (get_or l.s (suc (suc k)) 0) (get_or l.s (suc (suc (suc k))) 0)
