-- An LF, a tail, or the first byte of a character. Assumes nothing.
use native.Mathlib.Omega.{arith}
use mathlib.Core.Path.{sym, ap, ◌∙◌}
use Rattle.support.specs.Position.{at}
use Rattle.support.proofs.Places as places
use Rattle.support.proofs.position.next_place.Goals as goal

pub returns-then-b-eq10 : goal.returns-then-b-eq10
returns-then-b-eq10 c =
    let p = c.args.p in
    ap (λ l. at l 1) (c.saturating_add.ensures ∙ sym (places.one_more_lem p.line (omega arith))) ∙ sym (places.next_lf p.line p.column c.args.b c.if-b-eq10.true)

pub returns-then-is_tail : goal.returns-then-is_tail
returns-then-is_tail c =
    let p = c.args.p in
    sym (places.next_tail p.line p.column c.args.b c.if-b-eq10.false (sym c.is_tail.ensures ∙ c.if-is_tail.true))

pub returns : goal.returns
returns c =
    let p = c.args.p in
    ap (at p.line) (c.saturating_add-2.ensures ∙ sym (places.one_more_lem p.column (omega arith)))
    ∙ sym (places.next_first p.line p.column c.args.b c.if-b-eq10.false (sym c.is_tail.ensures ∙ c.if-is_tail.false))
