-- Tag by tag. Assumes nothing.
use native.Mathlib.Omega.{arith}
use Rattle.template.proofs.StepParts as laws
use Rattle.template.proofs.visit.act_of.Goals as goal

pub returns-in-9 : goal.returns-in-9
returns-in-9 c =
    let a = c.args in
    laws.act_9 a.tag a.e c.in-9.is

pub returns-in-10 : goal.returns-in-10
returns-in-10 c =
    let a = c.args in
    laws.act_10 a.tag a.e c.in-10.is

pub returns-in-5-to-8 : goal.returns-in-5-to-8
returns-in-5-to-8 c =
    let a = c.args in
    laws.act_begin a.tag a.e (omega arith) (laws.below (omega arith)) c.opened_of.ensures

pub returns-in-11-to-14 : goal.returns-in-11-to-14
returns-in-11-to-14 c =
    let args = c.args in
    let a = args in
    laws.act_add a.tag a.e (laws.past_10 (omega arith) (λ h. omega arith) (λ h. omega arith)) (laws.below (omega arith))

pub returns-in_default-2 : goal.returns-in_default-2
returns-in_default-2 c =
    let a = c.args in
    laws.act_end a.tag a.e (omega arith) c.requires.last_tag
