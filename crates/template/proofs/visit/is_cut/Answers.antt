-- By the ranges of the tag. Assumes nothing.
use native.Mathlib.Omega.{arith}
use Rattle.template.proofs.StepParts as laws
use Rattle.template.proofs.visit.is_cut.Goals as goal

pub returns-then-standalone : goal.returns-then-standalone
returns-then-standalone c =
    let a = c.args in
    laws.cut_partial a.tag a.standalone a.prevent_indent c.in-14.is (rw c.if-standalone.true)

pub returns-in-11-to-12 : goal.returns-in-11-to-12
returns-in-11-to-12 c =
    let a = c.args in
    laws.cut_none a.tag a.standalone a.prevent_indent (omega arith) (omega arith)

pub returns-in_default : goal.returns-in_default
returns-in_default c =
    let a = c.args in
    laws.cut_low a.tag a.standalone a.prevent_indent (omega arith)

pub returns-in_default-2 : goal.returns-in_default-2
returns-in_default-2 c =
    let a = c.args in
    laws.cut_high a.tag a.standalone a.prevent_indent (omega arith) (λ h. omega arith)
