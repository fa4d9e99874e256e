-- 6, 7, or what the kind decides: one law of SpanVisits each. Assumes nothing.
use mathlib.Core.Bool.{not}
use mathlib.Core.Path.{ap}
use native.Mathlib.Omega.{arith}
use Rattle.template.proofs.SpanVisits as laws
use Rattle.template.proofs.visit.visit_span.Goals as goal

pub returns-then-span-prev_end : goal.returns-then-span-prev_end
returns-then-span-prev_end c =
    let a = c.args in
    λ at w. laws.visit_early a.input.now.text.now a.input.now.words.now a.input.now.options a.view at w (omega (arith, c.prev_end.ensures))

pub returns-then-not-nests : goal.returns-then-not-nests
returns-then-not-nests c =
    let a = c.args in
    λ at w. laws.visit_out a.input.now.text.now a.input.now.words.now a.input.now.options a.view at w (omega (arith, c.prev_end.ensures)) c.kept_gap-gap.ensures c.nests.ensures
    (ap not c.if-not-nests.true)

pub invariant_of-visit : goal.invariant_of-visit
invariant_of-visit c =
    let w = c.requires.1 in
    record { walked = record { fits = laws.walked_fits c.args.input.now.good w; counted = w.inside; no_escape = w.no_escape } }

pub returns : goal.returns
returns c =
    let a = c.args in
    λ at w. laws.kind_visited a.input.now.text.now a.input.now.words.now a.input.now.options a.view at w (omega (arith, c.prev_end.ensures)) c.kept_gap-gap.ensures c.nests.ensures a.input.now.good (ap not c.if-not-nests.false)
    c.advance-here.ensures _ c.visit_kind.ensures
