-- By the ranges of the tag. Assumes nothing.
use native.Mathlib.Omega.{arith}
use Rattle.template.proofs.ReasonLaws as laws
use Rattle.template.proofs.reason.decorator_name_differs.Goals as goal

pub returns-then-not-same : goal.returns-then-not-same
returns-then-not-same c =
    let a = c.args in
    let same_name = c.same_name-same in
    let is_empty_name = c.is_empty_name-empty in
    laws.decorator_ends a.text.now a.tag a.opened a.end same_name.ensures is_empty_name.ensures (rw c.if-not-same.true) (omega arith)
    (omega arith)

pub returns-in_default : goal.returns-in_default
returns-in_default c =
    let a = c.args in
    laws.decorator_low a.text.now a.tag a.opened a.end (omega arith)

pub returns-in_default-2 : goal.returns-in_default-2
returns-in_default-2 c =
    let a = c.args in
    laws.decorator_high a.text.now a.tag a.opened a.end (omega arith)
