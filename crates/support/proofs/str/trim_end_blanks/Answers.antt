-- What is left ends with the last byte that is no blank. Assumes nothing.
use native.Mathlib.Omega.{arith}
use Prim.Native.Nat.{◌+◌, ◌-◌}
use mathlib.Core.Path.{◌≡◌, ap, sym, ◌∙◌}
use lib.ListN.{take}
use Rattle.support.proofs.TextLaws as text
use Rattle.support.proofs.str.trim_end_blanks.Goals as goal

pub returns-then-not-whitespace_matcher : goal.returns-then-not-whitespace_matcher
returns-then-not-whitespace_matcher c =
    let l = c.loop-i in
    let e : l.i - 1 + 1 ≡ l.i = omega (arith, c.loop-i-test.true) in
    ap (λ n. take n c.args.s.now) e ∙ text.end_at c.args.s.now l.i (omega arith) (λ h. sym c.whitespace_matcher.ensures ∙ c.if-not-whitespace_matcher.true) l.invariant

pub returns : goal.returns
returns c = text.end_at c.args.s.now 0 (omega arith) (λ h. absurd (omega arith)) (λ k a. c.loop-i.invariant k (omega (arith, c.loop-i-test.false)))
