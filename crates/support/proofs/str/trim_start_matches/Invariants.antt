-- A turn passes one mark; what is left trims to the same. Assumes nothing.
use Prim.Native.Nat.{◌<◌}
use mathlib.Core.Path.{◌≡◌}
use lib.ListN.{length}
use Rattle.support.specs.TextRules.{trim_start_matches}
use Rattle.support.proofs.str.trim_start_matches.Given as goal

abbrev pub invariant-loop-rest : goal.invariant-loop-rest
invariant-loop-rest l = (0 < length l.p) × (trim_start_matches l.p l.left ≡ trim_start_matches l.p l.s)

abbrev pub decreases-loop-rest : goal.decreases-loop-rest
decreases-loop-rest l = length l.left
