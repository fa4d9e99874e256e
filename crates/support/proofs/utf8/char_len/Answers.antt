-- Each arm is a row of the table, and no other row starts with its bytes. Assumes nothing.
use native.Mathlib.Omega.{arith}
use mathlib.Core.Path.{refl, sym, ap, ◌∙◌}
use mathlib.Core.List.{[], ◌∷◌}
use mathlib.Core.Bool.{and-true}
use Rattle.support.specs.Utf8.{to, tail, rows, fits, is_tail}
use Rattle.support.specs.Code.Lengths.{as_option}
use Rattle.support.proofs.Utf8Laws.{row_at, row_none, row_option}
use Rattle.support.proofs.utf8.char_len.Goals as goal

pub returns-in-0-to-127 : goal.returns-in-0-to-127
unfolding rows fits
returns-in-0-to-127 c = sym (ap as_option (row_at 0 0x00 0x7F [] refl refl _ _ (omega arith) (omega arith)))

pub returns-in-128-to-193 : goal.returns-in-128-to-193
unfolding rows fits
returns-in-128-to-193 c = sym (ap as_option (row_none 0x80 0xC1 refl _ _ (omega arith) (omega arith)))

pub returns-in-194-to-223 : goal.returns-in-194-to-223
unfolding rows fits
returns-in-194-to-223 c =
    row_option 1 c.then_some-in-194-to-223.ensures (c.is_tail.ensures ∙ sym (and-true (is_tail c.args.b)))
    (row_at 1 0xC2 0xDF (tail ∷ []) refl refl _ _ (omega arith) (omega arith))

pub returns-in-224 : goal.returns-in-224
unfolding rows fits
returns-in-224 c =
    row_option 2 c.then_some.ensures c.ends_three.ensures (row_at 2 0xE0 0xE0 (to 0xA0 0xBF ∷ tail ∷ []) refl refl _ _ (omega arith) (omega arith))

pub returns-in-225-to-236 : goal.returns-in-225-to-236
unfolding rows fits
returns-in-225-to-236 c =
    row_option 2 c.then_some-in-225-to-236.ensures c.ends_three-in-225-to-236.ensures (row_at 3 0xE1 0xEC (tail ∷ tail ∷ []) refl refl _ _ (omega arith) (omega arith))

pub returns-in-237 : goal.returns-in-237
unfolding rows fits
returns-in-237 c =
    row_option 2 c.then_some-in-237.ensures c.ends_three-in-237.ensures (row_at 4 0xED 0xED (to 0x80 0x9F ∷ tail ∷ []) refl refl _ _ (omega arith) (omega arith))

pub returns-in-238-to-239 : goal.returns-in-238-to-239
unfolding rows fits
returns-in-238-to-239 c =
    row_option 2 c.then_some-in-238-to-239.ensures c.ends_three-in-238-to-239.ensures (row_at 5 0xEE 0xEF (tail ∷ tail ∷ []) refl refl _ _ (omega arith) (omega arith))

pub returns-in-240 : goal.returns-in-240
unfolding rows fits
returns-in-240 c =
    row_option 3 c.then_some-in-240.ensures c.ends_four.ensures (row_at 6 0xF0 0xF0 (to 0x90 0xBF ∷ tail ∷ tail ∷ []) refl refl _ _ (omega arith) (omega arith))

pub returns-in-241-to-243 : goal.returns-in-241-to-243
unfolding rows fits
returns-in-241-to-243 c =
    row_option 3 c.then_some-in-241-to-243.ensures c.ends_four-in-241-to-243.ensures (row_at 7 0xF1 0xF3 (tail ∷ tail ∷ tail ∷ []) refl refl _ _ (omega arith) (omega arith))

pub returns-in-244 : goal.returns-in-244
unfolding rows fits
returns-in-244 c =
    row_option 3 c.then_some-in-244.ensures c.ends_four-in-244.ensures (row_at 8 0xF4 0xF4 (to 0x80 0x8F ∷ tail ∷ tail ∷ []) refl refl _ _ (omega arith) (omega arith))

pub returns-in_default : goal.returns-in_default
unfolding rows fits
returns-in_default c = sym (ap as_option (row_none 0xF5 0xFF refl _ _ (omega arith) (omega arith)))
