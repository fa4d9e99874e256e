-- Each test decides the range of its byte. Assumes nothing.
use native.Mathlib.Omega.{arith}
use mathlib.Core.Path.{sym, ◌∙◌}
use mathlib.Core.Bool.{and-true}
use Rattle.support.specs.Utf8.{fits, is_tail}
use Rattle.support.proofs.Utf8Laws.{in_range_lem, out_range}
use Rattle.support.proofs.utf8.ends_three.Goals as goal

pub returns-then-b-low : goal.returns-then-b-low
unfolding fits
returns-then-b-low c = let x = c.args in rw (out_range x.b x.low x.high (λ h k. omega arith))

pub returns-then-high-b : goal.returns-then-high-b
unfolding fits
returns-then-high-b c = let x = c.args in rw (out_range x.b x.low x.high (λ h k. omega arith))

pub returns : goal.returns
unfolding fits
returns c = let x = c.args in rw (in_range_lem x.b x.low x.high (omega arith) (omega arith)) (c.is_tail.ensures ∙ sym (and-true (is_tail x.c)))
