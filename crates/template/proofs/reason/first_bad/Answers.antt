-- No span before the loop's number is bad. Assumes nothing.
use native.Mathlib.Omega.{arith}
use Rattle.template.proofs.CheckLaws as laws
use Rattle.template.proofs.reason.first_bad.Goals as goal

pub returns-then-bad_span : goal.returns-then-bad_span
returns-then-bad_span c =
    let loop = c.loop-k in
    laws.looking_found loop.invariant c.span_at.ensures (omega (arith, c.span_count-k-end.ensures)) c.bad_span.ensures c.if-bad_span.true

pub loop-k-preserved : goal.loop-k-preserved
loop-k-preserved c =
    let loop = c.loop-k in
    laws.looking_on loop.invariant c.span_at.ensures (omega (arith, c.span_count-k-end.ensures)) c.bad_span.ensures c.if-bad_span.false

pub returns : goal.returns
returns c = laws.looking_end c.loop-k.invariant (omega (arith, c.span_count-k-end.ensures))
