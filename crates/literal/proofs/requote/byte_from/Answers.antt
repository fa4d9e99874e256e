-- Each answer is the law of what stands at the offset.
use mathlib.Core.Path.{sym, ◌∙◌}
use Rattle.literal.proofs.QuoteLaws as quote
use Rattle.literal.proofs.requote.byte_from.Goals as goal

pub returns-then-inner-i : goal.returns-then-inner-i
returns-then-inner-i c = quote.from_none c.args.inner.now c.args.i c.if-inner-i.true

pub returns-then-single_at : goal.returns-then-single_at
returns-then-single_at c =
    let a = c.args in
    quote.from_single a.inner.now a.i (sym c.single_at.ensures ∙ c.if-single_at.true)

pub returns-then-c-eq34 : goal.returns-then-c-eq34
returns-then-c-eq34 c =
    let a = c.args in
    let if1 = c.if-inner-i in
    let single_at = c.single_at in
    quote.from_double a.inner.now a.i if1.false (sym single_at.ensures ∙ c.if-single_at.false) c.if-c-eq34.true

pub returns : goal.returns
returns c =
    let a = c.args in
    let if1 = c.if-inner-i in
    let single_at = c.single_at in
    quote.from_other a.inner.now a.i if1.false (sym single_at.ensures ∙ c.if-single_at.false) c.if-c-eq34.false
