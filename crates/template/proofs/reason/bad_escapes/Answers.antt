-- What is bad from the first escape on is bad from the turn's escape on. Assumes nothing.
use native.Mathlib.Omega.{arith}
use Rattle.std.proofs.Common.{rules}
use Rattle.json_path.proofs.Cases as cases
use Rattle.template.proofs.EscapeLaws as laws
use Rattle.template.proofs.reason.bad_escapes.Goals as goal

pub returns-in-loop-x : goal.returns-in-loop-x
returns-in-loop-x c = laws.escaping_none c.loop-x.invariant (cases.escape_none (search rules) c.escape_at.ensures)

pub returns-else-x-limit : goal.returns-else-x-limit
returns-else-x-limit c =
    let loop = c.loop-x in
    let escape_at = c.escape_at in
    laws.escaping_past loop.invariant (cases.escape_found c.in-Some.is escape_at.ensures) (omega (arith, c.if-x-limit.false))

pub returns-then-bad_escape : goal.returns-then-bad_escape
returns-then-bad_escape c =
    let loop = c.loop-x in
    let escape_at = c.escape_at in
    laws.escaping_bad loop.invariant (cases.escape_found c.in-Some.is escape_at.ensures) (omega (arith, c.if-x-limit.true))
    c.bad_escape.ensures c.if-bad_escape.true

pub loop-x-preserved : goal.loop-x-preserved
loop-x-preserved c =
    let loop = c.loop-x in
    let escape_at = c.escape_at in
    laws.escaping_on loop.invariant (cases.escape_found c.in-Some.is escape_at.ensures) (omega (arith, c.if-x-limit.true)) c.bad_escape.ensures
    c.if-bad_escape.false
