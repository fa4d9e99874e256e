-- The loop keeps the parameters: the parts taken so far gave none. Assumes nothing.
use Prim.Native.Nat.{◌-◌}
use lib.ListN.{length}
use Rattle.expression.proofs.AgainLaws as laws
use Rattle.expression.proofs.again.next_param.Given as goal

abbrev pub invariant-loop-x : goal.invariant-loop-x
invariant-loop-x l = laws.Passing l.text l.words l.initial.rest l.rest

abbrev pub decreases-loop-x : goal.decreases-loop-x
decreases-loop-x l = length l.words - l.rest.from
