-- By cases of what is added. Assumes nothing.
use Rattle.template.specs.Turn.{add_plan}
use Rattle.template.proofs.turn.plan_add.Goals as goal

pub returns-in-Leaf : goal.returns-in-Leaf
unfolding add_plan
returns-in-Leaf c = rw (c.plain.ensures, c.in-Leaf.is)

pub returns-in-Block : goal.returns-in-Block
unfolding add_plan
returns-in-Block c = rw (c.begin.ensures, c.in-Block.is)

pub returns-in-ElseIf : goal.returns-in-ElseIf
unfolding add_plan
returns-in-ElseIf c = rw (c.chain.ensures, c.in-ElseIf.is)
