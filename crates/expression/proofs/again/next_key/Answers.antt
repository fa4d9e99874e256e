-- The loop keeps the least key: it is the lesser of the least so far and that of the parts left. Assumes nothing.
use Rattle.expression.proofs.AgainLaws as laws
use Rattle.expression.proofs.again.next_key.Goals as goal

pub loop-x-preserved : goal.loop-x-preserved
loop-x-preserved c = laws.seeking_on c.loop-x.invariant (rw c.in-Some.is at c.in_ok-x.ensures).means c.least_then-least.ensures

pub returns : goal.returns
returns c = laws.seeking_ends c.loop-x.invariant (rw c.in_default.is at c.in_ok-x.ensures).means
