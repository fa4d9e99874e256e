-- The bytes that each test is asked of are the first ones of the text. Assumes nothing.
use native.Mathlib.Omega.{arith}
use mathlib.Core.Path.{◌≡◌, ap, ◌∙◌}
use Rattle.support.specs.WhiteSpace.{is_white, white_length}
use Rattle.support.specs.Code.Lengths.{as_option}
use Rattle.support.proofs.WhiteLaws.{front_1, front_2, front_3, white_length_le, sized_1, sized_2, sized_3, sized_0, sized_short_1, sized_short_2}
use Rattle.support.proofs.white_space.white_at.Goals as goal

pub returns-in-len1-up : goal.returns-in-len1-up
unfolding white_length
returns-in-len1-up c =
    let s = c.args.s.now in
    ap as_option (sized_1 is_white s (front_1 s 0 c.is_white_1.result (omega arith) c.is_white_1.ensures ∙ c.if-is_white_1.true))

pub returns-in-len2-up : goal.returns-in-len2-up
unfolding white_length
returns-in-len2-up c =
    let s = c.args.s.now in
    ap as_option (sized_2 is_white s (front_1 s 0 c.is_white_1.result (omega arith) c.is_white_1.ensures ∙ c.if-is_white_1.false) (front_2 s 0 c.is_white_2.result (omega arith) c.is_white_2.ensures ∙ c.if-is_white_2.true))

pub returns-in-len3-up : goal.returns-in-len3-up
unfolding white_length
returns-in-len3-up c =
    let s = c.args.s.now in
    ap as_option (sized_3 is_white s (front_1 s 0 c.is_white_1.result (omega arith) c.is_white_1.ensures ∙ c.if-is_white_1.false) (front_2 s 0 c.is_white_2.result (omega arith) c.is_white_2.ensures ∙ c.if-is_white_2.false) (front_3 s 0 c.is_white_3.result (omega arith) c.is_white_3.ensures ∙ c.if-is_white_3.true))

pub returns-in_default : goal.returns-in_default
returns-in_default c =
    let s = c.args.s.now in
    let z : 0 ≡ white_length s = omega (arith, white_length_le s) in ap as_option z

pub returns-in_default-2 : goal.returns-in_default-2
unfolding white_length
returns-in_default-2 c =
    let s = c.args.s.now in
    ap as_option (sized_short_1 is_white s (omega arith) (front_1 s 0 c.is_white_1.result (omega arith) c.is_white_1.ensures ∙ c.if-is_white_1.false))

pub returns-in_default-3 : goal.returns-in_default-3
unfolding white_length
returns-in_default-3 c =
    let s = c.args.s.now in
    ap as_option (sized_short_2 is_white s (omega arith) (front_1 s 0 c.is_white_1.result (omega arith) c.is_white_1.ensures ∙ c.if-is_white_1.false) (front_2 s 0 c.is_white_2.result (omega arith) c.is_white_2.ensures ∙ c.if-is_white_2.false))

pub returns-in_default-4 : goal.returns-in_default-4
unfolding white_length
returns-in_default-4 c =
    let s = c.args.s.now in
    ap as_option (sized_0 is_white s (front_1 s 0 c.is_white_1.result (omega arith) c.is_white_1.ensures ∙ c.if-is_white_1.false) (front_2 s 0 c.is_white_2.result (omega arith) c.is_white_2.ensures ∙ c.if-is_white_2.false) (front_3 s 0 c.is_white_3.result (omega arith) c.is_white_3.ensures ∙ c.if-is_white_3.false))
