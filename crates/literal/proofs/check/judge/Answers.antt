-- The state stands for the bytes that are left at the place: the plain ones are passed over, and then each turn takes one.
use mathlib.Core.Path.{sym, ap, ◌∙◌}
use Rattle.std.proofs.lemmas.Result.{err_from_is_err_and}
use Rattle.literal.specs.Means.{error_means, verdict_means}
use Rattle.literal.proofs.PlainLaws as plain
use Rattle.literal.proofs.QuoteLaws as quote
use Rattle.literal.proofs.StateLaws as state
use Rattle.literal.proofs.check.judge.Goals as goal

pub returns : goal.returns
returns c =
    let a = c.args in
    let l = c.loop-c in
    let there = c.past_plain in
    let e = plain.past_runs a.quoted a.text.now l.invariant.0 l.invariant.1 there.ensures in
    c.finish.ensures
    ∙ sym (quote.byte_end a.quoted a.text.now there.result l.state e c.next_byte.ensures c.in_default.is)

pub returns-in_err-state : goal.returns-in_err-state
returns-in_err-state c =
    let a = c.args in
    let l = c.loop-c in
    let there = c.past_plain in
    let e = plain.past_runs a.quoted a.text.now l.invariant.0 l.invariant.1 there.ensures in
    let p = err_from_is_err_and c.from_residual.result c.from_residual.ensures.1 in
    ap verdict_means p.1 ∙ ap error_means p.2
    ∙ sym
    (quote.byte_taken a.quoted a.text.now there.result e c.next_byte.ensures c.in-Some.is c.feed.ensures c.in_err-state.was)

pub loop-c-preserved : goal.loop-c-preserved
loop-c-preserved c =
    let a = c.args in
    let l = c.loop-c in
    let there = c.past_plain in
    let e = plain.past_runs a.quoted a.text.now l.invariant.0 l.invariant.1 there.ensures in
    let x = c.feed.ensures in let y = c.in_ok-state.was in
    (quote.byte_taken a.quoted a.text.now there.result e c.next_byte.ensures c.in-Some.is x y, state.fed_room x y)
