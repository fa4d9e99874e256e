-- Tag 14, and the others. Assumes nothing.
use native.Mathlib.Omega.{arith}
use Rattle.template.proofs.StepParts as laws
use Rattle.template.proofs.visit.is_indented.Goals as goal

pub returns-then-not-prevent_indent : goal.returns-then-not-prevent_indent
returns-then-not-prevent_indent c =
    let a = c.args in
    laws.indent_14 a.tag a.prevent_indent a.left c.in-14.is (rw c.if-not-prevent_indent.true)

pub returns-in_default : goal.returns-in_default
returns-in_default c =
    let a = c.args in
    laws.indent_none a.tag a.prevent_indent a.left (λ h. omega arith)
