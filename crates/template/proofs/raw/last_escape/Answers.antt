-- The loop keeps that the escapes before `k` and those from `k` on are all; each turn takes one escape further. Assumes nothing.
use native.Mathlib.Omega.{arith}
use Rattle.std.proofs.Common.{rules}
use mathlib.Core.Path.{ap}
use Rattle.json_path.proofs.Cases as cases
use Rattle.template.proofs.RawEscapes as escapes
use Rattle.template.proofs.raw.last_escape.Goals as goal

pub loop-x-init : goal.loop-x-init
loop-x-init c = escapes.counting_start c.args.words.now c.args.limit c.args.from

pub returns-in-loop-x : goal.returns-in-loop-x
returns-in-loop-x c = escapes.counting_end c.loop-x.invariant (cases.escape_none (search rules) c.escape_at.ensures)

pub returns-else-x-limit : goal.returns-else-x-limit
returns-else-x-limit c =
    let loop = c.loop-x in
    escapes.counting_stop loop.invariant (cases.escape_found c.in-Some.is c.escape_at.ensures) (omega (arith, c.if-x-limit.false))

pub overflow_add-k : goal.overflow_add-k
overflow_add-k c =
    let w = cases.escape_found c.in-Some.is c.escape_at.ensures in omega (arith, ap (λ z. z.number) w.stands, w.inside)

pub loop-x-smaller : goal.loop-x-smaller
loop-x-smaller c =
    let w = cases.escape_found c.in-Some.is c.escape_at.ensures in omega (arith, ap (λ z. z.number) w.stands, w.inside)

pub loop-x-preserved : goal.loop-x-preserved
loop-x-preserved c =
    let loop = c.loop-x in
    escapes.counting_on loop.invariant (cases.escape_found c.in-Some.is c.escape_at.ensures) (omega (arith, c.if-x-limit.true))
