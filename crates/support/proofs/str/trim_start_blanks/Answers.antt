-- A turn passes one blank; what is left trims to the same. Assumes nothing.
use native.Mathlib.Omega.{arith}
use mathlib.Core.Path.{sym, ◌∙◌}
use Rattle.support.proofs.TextLaws as text
use Rattle.support.proofs.str.trim_start_blanks.Goals as goal

pub returns-then-not-whitespace_matcher : goal.returns-then-not-whitespace_matcher
returns-then-not-whitespace_matcher c =
    let l = c.loop-i in
    text.start_at c.args.s.now l.i (omega arith) (sym c.whitespace_matcher.ensures ∙ c.if-not-whitespace_matcher.true) l.invariant

pub loop-i-preserved : goal.loop-i-preserved
loop-i-preserved c =
    let l = c.loop-i in
    text.start_next c.args.s.now l.i (omega arith) (sym c.whitespace_matcher.ensures ∙ c.if-not-whitespace_matcher.false) l.invariant

pub returns : goal.returns
returns c =
    let l = c.loop-i in
    text.start_end c.args.s.now c.loop-i-test.false l.invariant
