-- A character stands at each offset from `from` up to `i`. Assumes nothing.
use Prim.Native.Nat.{◌+◌, ◌-◌}
use mathlib.Core.Path.{◌≡◌}
use lib.ListN.{drop}
use Rattle.support.specs.Utf8.{valid_length}
use Rattle.support.proofs.utf8.ascii_end.Given as goal

abbrev pub invariant-loop-i : goal.invariant-loop-i
invariant-loop-i l = valid_length (drop l.from l.s) ≡ (l.i - l.from) + valid_length (drop l.i l.s)
