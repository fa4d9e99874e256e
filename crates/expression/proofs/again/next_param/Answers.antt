-- The loop keeps the parameters: the parts taken so far gave none. Assumes nothing.
use Rattle.expression.proofs.AgainLaws as laws
use Rattle.expression.proofs.again.next_param.Goals as goal

pub returns-in-Param : goal.returns-in-Param
returns-in-Param c = laws.passing_found c.loop-x.invariant (rw c.in-Some.is at c.in_ok-x.ensures).means c.in-Param.is

pub loop-x-preserved : goal.loop-x-preserved
loop-x-preserved c = laws.passing_on c.loop-x.invariant (rw c.in-Some.is at c.in_ok-x.ensures).means c.in_default-x.not-Param

pub returns : goal.returns
returns c = laws.passing_end c.loop-x.invariant (rw c.in_default.is at c.in_ok-x.ensures).means
