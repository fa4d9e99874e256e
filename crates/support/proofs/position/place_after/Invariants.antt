-- The place so far and the bytes left give the place asked for. Assumes nothing.
use mathlib.Core.Path.{◌≡◌}
use lib.ListN.{drop}
use Rattle.support.specs.Position.{place_of, line_col}
use Rattle.support.proofs.position.place_after.Given as goal

abbrev pub invariant-loop-b : goal.invariant-loop-b
invariant-loop-b l = line_col (place_of l.initial.p) l.bytes ≡ line_col (place_of l.p) (drop l.b-index l.bytes)
