-- Tag by tag. Assumes nothing.
use native.Mathlib.Omega.{arith}
use Rattle.template.proofs.StepParts as laws
use Rattle.template.proofs.visit.element_of.Goals as goal

pub returns-in-7 : goal.returns-in-7
returns-in-7 c =
    let a = c.args in
    laws.element_7 a.s a.x a.mark a.indent c.decorator-d.ensures c.in-7.is

pub returns-in-8 : goal.returns-in-8
returns-in-8 c =
    let a = c.args in
    laws.element_8 a.s a.x a.mark a.indent c.decorator-d.ensures c.in-8.is

pub returns-in-10 : goal.returns-in-10
returns-in-10 c =
    let a = c.args in
    laws.element_10 a.s a.x a.mark a.indent c.helper-h.ensures c.in-10.is

pub returns-in-11 : goal.returns-in-11
returns-in-11 c =
    let a = c.args in
    laws.element_11 a.s a.x a.mark a.indent c.helper-h.ensures c.in-11.is

pub returns-in-12 : goal.returns-in-12
returns-in-12 c =
    let a = c.args in
    laws.element_12 a.s a.x a.mark a.indent c.helper-h.ensures c.in-12.is

pub returns-in-13 : goal.returns-in-13
returns-in-13 c =
    let a = c.args in
    laws.element_13 a.s a.x a.mark a.indent c.decorator-d.ensures c.in-13.is

pub returns-in-14 : goal.returns-in-14
returns-in-14 c =
    let a = c.args in
    laws.element_14 a.s a.x a.mark a.indent c.decorator-d.ensures c.in-14.is

pub returns-in-5-to-6 : goal.returns-in-5-to-6
returns-in-5-to-6 c =
    let a = c.args in
    let helper = c.helper-h in
    laws.element_block a.s a.x a.mark a.indent helper.ensures (omega arith) (laws.below (omega arith))

pub returns-in_default : goal.returns-in_default
returns-in_default c =
    let a = c.args in
    laws.element_low a.s a.x a.mark a.indent (omega arith)

pub returns-in_default-2 : goal.returns-in_default-2
returns-in_default-2 c =
    let args = c.args in
    let a = args in
    laws.element_other a.s a.x a.mark a.indent (omega arith) (λ h. omega arith) (λ h. omega arith) (λ h. omega arith)
    (λ h. omega arith) (λ h. omega arith) (λ h. omega arith) (λ h. omega arith)
