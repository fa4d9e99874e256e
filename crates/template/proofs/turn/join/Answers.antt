-- By the test of `at` and of the last element; where nothing is written the element is what it was. Assumes nothing.
use mathlib.Core.Path.{sym}
use lib.Seq.{set-get_or}
use borrow.Author.Tests.{eq-eqb, ne_eqb}
use Rattle.template.specs.Element.{empty_element}
use Rattle.template.specs.Turn.{joined_of}
use Rattle.template.proofs.turn.join.Goals as goal

pub returns-then-at-eq0 : goal.returns-then-at-eq0
unfolding joined_of
returns-then-at-eq0 c =
    let none = eq-eqb c.args.at 0 c.if-at-eq0.true in
    record { store = rw none (sym (set-get_or c.args.elements.now c.args.top.last empty_element)); top = rw none }

pub returns-then-top-eq0 : goal.returns-then-top-eq0
unfolding joined_of
returns-then-top-eq0 c =
    let some = ne_eqb c.args.at 0 c.if-at-eq0.false in
    let first = eq-eqb c.args.top.last 0 c.if-top-eq0.true in
    record { store = rw (some, first) (sym (set-get_or c.args.elements.now c.args.top.last empty_element)); top = rw (some, first, c.filled.ensures) }

pub returns-else-top-eq0 : goal.returns-else-top-eq0
unfolding joined_of
returns-else-top-eq0 c =
    let some = ne_eqb c.args.at 0 c.if-at-eq0.false in
    let next = ne_eqb c.args.top.last 0 c.if-top-eq0.false in
    record { store = rw (some, next, c.followed_by.ensures); top = rw (some, next, c.filled-else-top-eq0.ensures) }
