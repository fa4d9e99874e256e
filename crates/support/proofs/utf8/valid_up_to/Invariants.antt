-- Whole characters lead up to `i`; a turn passes those of a block, or one. Assumes nothing.
use Prim.Native.Nat.{◌-◌}
use lib.ListN.{length}
use Rattle.support.specs.Utf8.{char_length}
use Rattle.support.proofs.Pieces as pieces
use Rattle.support.proofs.utf8.valid_up_to.Given as goal

abbrev pub invariant-loop-i : goal.invariant-loop-i
invariant-loop-i l = pieces.Reached char_length l.s l.i

abbrev pub decreases-loop-i : goal.decreases-loop-i
decreases-loop-i l = length l.s - l.i
