-- By the ranges of the tag. Assumes nothing.
use native.Mathlib.Omega.{arith}
use Rattle.template.proofs.ReasonLaws as laws
use Rattle.template.proofs.reason.too_many_open.Goals as goal

pub returns-in-10 : goal.returns-in-10
returns-in-10 c =
    let a = c.args in
    laws.over_chain a.tag a.count c.in-10.is

pub returns-in-5-to-8 : goal.returns-in-5-to-8
returns-in-5-to-8 c =
    let a = c.args in
    laws.over_start a.tag a.count (omega arith) (omega arith)

pub returns-in_default : goal.returns-in_default
returns-in_default c =
    let a = c.args in
    laws.over_low a.tag a.count (omega arith)

pub returns-in_default-2 : goal.returns-in_default-2
returns-in_default-2 c =
    let a = c.args in
    laws.over_high a.tag a.count (omega arith) (λ h. omega arith)
