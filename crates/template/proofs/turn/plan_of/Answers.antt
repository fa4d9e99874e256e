-- By cases of the turn. Assumes nothing.
use Rattle.template.specs.Turn.{plan_of}
use Rattle.template.proofs.turn.plan_of.Goals as goal

pub returns-in-Act : goal.returns-in-Act
unfolding plan_of
returns-in-Act c = rw (c.plan_act.ensures, c.in-Act.is)

pub returns-in-Revert : goal.returns-in-Revert
unfolding plan_of
returns-in-Revert c = rw (c.revert_chain.ensures, c.in-Revert.is)

pub returns-in-Set : goal.returns-in-Set
unfolding plan_of
returns-in-Set c = rw (c.set_inverse.ensures, c.in-Set.is)
