-- A turn passes one mark; what is left trims to the same. Assumes nothing.
use mathlib.Core.Path.{sym, ◌∙◌}
use lib.ListN.{length}
use borrow.Author.Tests.{eqb-true}
use Rattle.std.proofs.Common.{rules}
use Rattle.support.proofs.TextLaws as text
use Rattle.support.proofs.str.trim_start_matches.Goals as goal

pub returns-then-is_empty : goal.returns-then-is_empty
returns-then-is_empty c = text.start_empty_mark c.args.p.now c.args.s.now (eqb-true (length c.args.p.now) 0 (sym c.is_empty.ensures ∙ c.if-is_empty.true))

pub loop-rest-preserved : goal.loop-rest-preserved
loop-rest-preserved c =
    let l = c.loop-rest in
    let e = c.in-Some.ensures.cases in
    (l.invariant.0, text.start_mark c.args.p.now l.left.now e.0 (search rules) ∙ l.invariant.1)

pub returns : goal.returns
returns c =
    let l = c.loop-rest in
    text.start_no_mark c.args.p.now l.left.now c.in_default.ensures.cases ∙ l.invariant.1
