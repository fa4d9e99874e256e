-- By the ranges of the tag. Assumes nothing.
use native.Mathlib.Omega.{arith}
use Rattle.template.proofs.StepParts as laws
use Rattle.template.proofs.visit.stage_of.Goals as goal

pub returns-in-5-to-10 : goal.returns-in-5-to-10
returns-in-5-to-10 c = laws.stage_waits c.args.tag (omega arith) (omega arith)

pub returns-in_default : goal.returns-in_default
returns-in_default c = laws.stage_low c.args.tag (omega arith)

pub returns-in_default-2 : goal.returns-in_default-2
returns-in_default-2 c = laws.stage_high c.args.tag (omega arith)
