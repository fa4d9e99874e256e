-- `card::number::read_digits` meets its contract: what is read from the index on, after the value so far, is what is read from the start on.
-- Assumes nothing.
use native.Mathlib.Omega.{arith}
use mathlib.Core.Path.{sym, ◌∙◌}
use lib.ListN.{get_or}
use Rattle.card.proofs.Numbers as numbers
use Rattle.card.proofs.number.read_digits.Goals as goal

pub loop-c-preserved : goal.loop-c-preserved
loop-c-preserved c =
    let l = c.loop-c in
    let s = c.part-c-items.result.now in
    let digit = sym (numbers.digit_same (get_or s l.c-index 0)) ∙ sym c.is_ascii_digit.ensures.value ∙ c.if-not-is_ascii_digit.false in
    record { read = numbers.reading_goes_on l.invariant.read c.loop-c-test.true digit c.grown-value.result c.grown-value.ensures; end = omega arith }

pub returns-after-loop-c : goal.returns-after-loop-c
returns-after-loop-c c =
    let l = c.loop-c in
    numbers.reading_ends l.invariant.read c.part-c-items.ensures l.invariant.end (numbers.digits_past c.part-c-items.result.now l.c-index c.loop-c-test.false)

pub returns-then-not-is_ascii_digit : goal.returns-then-not-is_ascii_digit
returns-then-not-is_ascii_digit c =
    let l = c.loop-c in
    let s = c.part-c-items.result.now in
    let other = sym (numbers.digit_same (get_or s l.c-index 0)) ∙ sym c.is_ascii_digit.ensures.value ∙ c.if-not-is_ascii_digit.true in
    numbers.reading_ends l.invariant.read c.part-c-items.ensures l.invariant.end (numbers.digits_stop s l.c-index c.loop-c-test.true other)
