-- By the questions of 5 in turn. Assumes nothing.
use native.Mathlib.Omega.{arith}
use Rattle.template.proofs.CheckLaws as laws
use Rattle.template.proofs.reason.bad_span.Goals as goal

pub returns-then-s-gt40 : goal.returns-then-s-gt40
returns-then-s-gt40 c =
    let a = c.args in
    laws.bad_tag a.text.now a.s (omega arith)

pub returns-then-s : goal.returns-then-s
returns-then-s c =
    let a = c.args in
    laws.bad_order a.text.now a.s (omega arith) (omega arith)

pub returns-then-text-s : goal.returns-then-text-s
returns-then-text-s c =
    let a = c.args in
    laws.bad_end a.text.now a.s (omega arith) (omega arith) (omega arith)

pub returns-then-not-is_char_boundary : goal.returns-then-not-is_char_boundary
returns-then-not-is_char_boundary c =
    let a = c.args in
    laws.bad_start a.text.now a.s (omega arith) (omega arith) (omega arith) c.is_char_boundary.ensures (c.if-not-is_char_boundary.true)

pub returns : goal.returns
returns c =
    let a = c.args in
    laws.bad_last a.text.now a.s (omega arith) (omega arith) (omega arith) c.is_char_boundary.ensures
    (c.if-not-is_char_boundary.false) c.is_char_boundary-2.ensures
