-- By cases of the act. Assumes nothing.
use Rattle.template.specs.Turn.{act_plan}
use Rattle.template.proofs.turn.plan_act.Goals as goal

pub returns-in-Skip : goal.returns-in-Skip
unfolding act_plan
returns-in-Skip c = rw (c.still.ensures, c.in-Skip.is)

pub returns-in-Add : goal.returns-in-Add
unfolding act_plan
returns-in-Add c = rw (c.plan_add.ensures, c.in-Add.is)

pub returns-in-Else : goal.returns-in-Else
unfolding act_plan
returns-in-Else c = rw (c.set_chain_template.ensures, c.in-Else.is)

pub returns-in-Close : goal.returns-in-Close
unfolding act_plan
returns-in-Close c = rw (c.close.ensures, c.in-Close.is)
