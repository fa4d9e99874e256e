-- Tag by tag. Assumes nothing.
use native.Mathlib.Omega.{arith}
use Rattle.template.proofs.StepParts as laws
use Rattle.template.proofs.visit.opened_of.Goals as goal

pub returns-in-5 : goal.returns-in-5
returns-in-5 c = laws.begin_5 c.args.tag c.in-5.is

pub returns-in-6 : goal.returns-in-6
returns-in-6 c = laws.begin_6 c.args.tag c.in-6.is

pub returns-in-7 : goal.returns-in-7
returns-in-7 c = laws.begin_7 c.args.tag c.in-7.is

pub returns-in_default : goal.returns-in_default
returns-in_default c = laws.begin_8 c.args.tag (laws.last_start c.requires.first_tag c.requires.last_tag (λ h. omega arith) (λ h. omega arith) (λ h. omega arith))
