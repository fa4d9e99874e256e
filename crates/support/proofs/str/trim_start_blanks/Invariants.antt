-- A turn passes one blank; what is left trims to the same. Assumes nothing.
use mathlib.Core.Path.{◌≡◌}
use lib.ListN.{drop}
use Rattle.support.specs.TextRules.{trim_start_blanks}
use Rattle.support.proofs.str.trim_start_blanks.Given as goal

abbrev pub invariant-loop-i : goal.invariant-loop-i
invariant-loop-i l = trim_start_blanks (drop l.i l.s) ≡ trim_start_blanks l.s
