-- The loop keeps that the escapes before `k` and those from `k` on are all; each turn takes one escape further. Assumes nothing.
use Prim.Native.Nat.{◌-◌}
use lib.ListN.{length}
use Rattle.template.proofs.RawEscapes as escapes
use Rattle.template.proofs.raw.last_escape.Given as goal

abbrev pub invariant-loop-x : goal.invariant-loop-x
invariant-loop-x l = escapes.Counting l.words l.limit l.from l.k

abbrev pub decreases-loop-x : goal.decreases-loop-x
decreases-loop-x l = length l.words - l.k
