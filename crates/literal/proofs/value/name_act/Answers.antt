-- The byte is told by the table, and so is what is left of the name.
use mathlib.Core.Bool.{true, false}
use mathlib.Core.Path.{sym, ◌∙◌}
use lib.ListN.{get_or}
use borrow.Author.Tests.{eq-eqb, ne_eqb}
use Rattle.literal.specs.Means.{name_bytes}
use Rattle.literal.proofs.NameLaws as names
use Rattle.literal.proofs.value.name_act.Goals as goal

pub returns-then-c-name_byte : goal.returns-then-c-name_byte
returns-then-c-name_byte c =
    let a = c.args in
    let x = a.c in let y = a.i in record
    { acts = λ st. names.at_name st x (get_or name_bytes y 0) _ false (ne_eqb x (get_or name_bytes y 0) (λ q. c.if-c-name_byte.true (q ∙ sym c.name_byte.ensures))) }

pub returns-then-name_left-eq0 : goal.returns-then-name_left-eq0
returns-then-name_left-eq0 c =
    let name_byte = c.name_byte in
    let a = c.args in
    let x = a.i in let y = a.c in record
    { acts = λ st. names.name_last x st (sym c.name_left.ensures ∙ c.if-name_left-eq0.true) ∙ names.at_name st y (get_or name_bytes x 0) _ true (eq-eqb y (get_or name_bytes x 0) (c.if-c-name_byte.false ∙ name_byte.ensures)) }

pub returns : goal.returns
returns c =
    let name_byte = c.name_byte in
    let a = c.args in
    let x = a.i in let y = a.c in record
    { acts = λ st. names.name_more x st (λ q. c.if-name_left-eq0.false (c.name_left.ensures ∙ q)) ∙ names.at_name st y (get_or name_bytes x 0) _ true (eq-eqb y (get_or name_bytes x 0) (c.if-c-name_byte.false ∙ name_byte.ensures)) }
