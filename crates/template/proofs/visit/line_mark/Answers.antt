-- By the ranges of the tag. Assumes nothing.
use native.Mathlib.Omega.{arith}
use Rattle.template.proofs.StepParts as laws
use Rattle.template.proofs.visit.line_mark.Goals as goal

pub returns-in-11-to-12 : goal.returns-in-11-to-12
returns-in-11-to-12 c =
    let a = c.args in
    laws.line_kept a.tag a.standalone a.line (omega arith) (omega arith)

pub returns-in_default : goal.returns-in_default
returns-in_default c =
    let a = c.args in
    laws.line_low a.tag a.standalone a.line (omega arith)

pub returns-in_default-2 : goal.returns-in_default-2
returns-in_default-2 c =
    let a = c.args in
    laws.line_high a.tag a.standalone a.line (omega arith)
