-- By the test of the head. Assumes nothing.
use borrow.Author.Tests.{eq-eqb, ne_eqb}
use Rattle.template.specs.Turn.{head_of}
use Rattle.template.proofs.turn.chain_head.Goals as goal

pub returns-then-head-eq0 : goal.returns-then-head-eq0
unfolding head_of
returns-then-head-eq0 c = rw (eq-eqb _ 0 c.if-head-eq0.true)

pub returns-else-head-eq0 : goal.returns-else-head-eq0
unfolding head_of
returns-else-head-eq0 c = rw (ne_eqb _ 0 c.if-head-eq0.false)
