-- By the two cases of the gap. Assumes nothing.
use Rattle.template.specs.Turn.{gapped_of}
use Rattle.template.proofs.turn.take_gap.Goals as goal

pub returns-in-Some : goal.returns-in-Some
unfolding gapped_of
returns-in-Some c = rw c.in-Some.is

pub returns-in-None : goal.returns-in-None
unfolding gapped_of
returns-in-None c = rw c.in-None.is
