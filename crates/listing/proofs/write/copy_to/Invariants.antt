-- The first `i` bytes are written; a turn stores one more. Assumes nothing.
use Prim.Native.Nat.{◌+◌, ◌≤◌}
use mathlib.Core.Path.{◌≡◌}
use lib.ListN.{length, take}
use Rattle.listing.specs.Written.{Written}
use Rattle.listing.proofs.write.copy_to.Given as goal

abbrev pub invariant-loop-i : goal.invariant-loop-i
invariant-loop-i l = (l.i ≤ length l.bytes) × (length l.out ≡ length l.initial.out) × Written (take l.i l.bytes) l.initial.out l.at l.out (l.at + l.i)
