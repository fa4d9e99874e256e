-- The loop keeps the least key: it is the lesser of the least so far and that of the parts left. Assumes nothing.
use Prim.Native.Nat.{◌-◌}
use lib.ListN.{length}
use Rattle.expression.proofs.AgainLaws as laws
use Rattle.expression.proofs.again.next_key.Given as goal

abbrev pub invariant-loop-x : goal.invariant-loop-x
invariant-loop-x l = laws.Seeking l.text l.words l.initial.rest l.bound l.rest l.least

abbrev pub decreases-loop-x : goal.decreases-loop-x
decreases-loop-x l = length l.words - l.rest.from
