-- The bytes that each test is asked of are the last ones of the text. Assumes nothing.
use native.Mathlib.Omega.{arith}
use mathlib.Core.Path.{◌≡◌, ap, ◌∙◌}
use mathlib.Core.Bool.{Bool}
use mathlib.Core.List.{reverse}
use lib.ListN.{length-reverse}
use Rattle.support.specs.Bytes.{Bytes}
use Rattle.support.specs.WhiteSpace.{is_white, white_length_back}
use Rattle.support.specs.Code.Lengths.{as_option}
use Rattle.support.proofs.WhiteLaws.{last_1, last_2, last_3, white_back_le, sized_1, sized_2, sized_3, sized_0, sized_short_1, sized_short_2}
use Rattle.support.proofs.white_space.white_before.Goals as goal

abbrev ending : Bytes → Bool
ending w = is_white (reverse w)

pub returns-in-len1-up : goal.returns-in-len1-up
unfolding white_length_back
returns-in-len1-up c =
    let s = c.args.s.now in
    ap as_option (sized_1 ending (reverse s) (last_1 s c.is_white_1.result (omega arith) c.is_white_1.ensures ∙ c.if-is_white_1.true))

pub returns-in-len2-up : goal.returns-in-len2-up
unfolding white_length_back
returns-in-len2-up c =
    let s = c.args.s.now in
    ap as_option (sized_2 ending (reverse s) (last_1 s c.is_white_1.result (omega arith) c.is_white_1.ensures ∙ c.if-is_white_1.false) (last_2 s c.is_white_2.result (omega arith) c.is_white_2.ensures ∙ c.if-is_white_2.true))

pub returns-in-len3-up : goal.returns-in-len3-up
unfolding white_length_back
returns-in-len3-up c =
    let s = c.args.s.now in
    ap as_option (sized_3 ending (reverse s) (last_1 s c.is_white_1.result (omega arith) c.is_white_1.ensures ∙ c.if-is_white_1.false) (last_2 s c.is_white_2.result (omega arith) c.is_white_2.ensures ∙ c.if-is_white_2.false) (last_3 s c.is_white_3.result (omega arith) c.is_white_3.ensures ∙ c.if-is_white_3.true))

pub returns-in_default : goal.returns-in_default
returns-in_default c =
    let s = c.args.s.now in
    let z : 0 ≡ white_length_back (reverse s) = omega (arith, white_back_le (reverse s), length-reverse s) in ap as_option z

pub returns-in_default-2 : goal.returns-in_default-2
unfolding white_length_back
returns-in_default-2 c =
    let s = c.args.s.now in
    ap as_option (sized_short_1 ending (reverse s) (rw (length-reverse s) (omega arith)) (last_1 s c.is_white_1.result (omega arith) c.is_white_1.ensures ∙ c.if-is_white_1.false))

pub returns-in_default-3 : goal.returns-in_default-3
unfolding white_length_back
returns-in_default-3 c =
    let s = c.args.s.now in
    ap as_option (sized_short_2 ending (reverse s) (rw (length-reverse s) (omega arith)) (last_1 s c.is_white_1.result (omega arith) c.is_white_1.ensures ∙ c.if-is_white_1.false) (last_2 s c.is_white_2.result (omega arith) c.is_white_2.ensures ∙ c.if-is_white_2.false))

pub returns-in_default-4 : goal.returns-in_default-4
unfolding white_length_back
returns-in_default-4 c =
    let s = c.args.s.now in
    ap as_option (sized_0 ending (reverse s) (last_1 s c.is_white_1.result (omega arith) c.is_white_1.ensures ∙ c.if-is_white_1.false) (last_2 s c.is_white_2.result (omega arith) c.is_white_2.ensures ∙ c.if-is_white_2.false) (last_3 s c.is_white_3.result (omega arith) c.is_white_3.ensures ∙ c.if-is_white_3.false))
