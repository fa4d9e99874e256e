-- By the ranges of the tag. Assumes nothing.
use native.Mathlib.Omega.{arith}
use Rattle.template.proofs.ReasonLaws as laws
use Rattle.template.proofs.reason.helper_name_differs.Goals as goal

pub returns-in-15-to-16 : goal.returns-in-15-to-16
returns-in-15-to-16 c =
    let a = c.args in
    laws.helper_ends a.text.now a.tag a.opened a.end c.same_name.ensures (omega arith) (omega arith)

pub returns-in_default : goal.returns-in_default
returns-in_default c =
    let a = c.args in
    laws.helper_low a.text.now a.tag a.opened a.end (omega arith)

pub returns-in_default-2 : goal.returns-in_default-2
returns-in_default-2 c =
    let a = c.args in
    laws.helper_high a.text.now a.tag a.opened a.end (omega arith)
