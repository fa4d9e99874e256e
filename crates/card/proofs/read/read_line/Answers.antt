-- `card::read::read_line` meets its contract: the three numbers in turn. Assumes nothing.
use Rattle.card.proofs.FieldLaws as laws
use Rattle.card.proofs.read.read_line.Goals as goal

pub returns-in_err-tag : goal.returns-in_err-tag
returns-in_err-tag c =
    rw c.from_residual.ensures (laws.span_no_tag (laws.number_none c.in_err-tag.was c.read_field.ensures))

pub returns-in_err-start : goal.returns-in_err-start
returns-in_err-start c =
    let f = laws.number_found c.in_ok-tag.was c.read_field.ensures in
    rw c.from_residual-in_err-start.ensures (laws.span_no_start f (laws.number_none c.in_err-start.was c.read_field-2.ensures))

pub returns-in_err-end : goal.returns-in_err-end
returns-in_err-end c =
    let f = laws.number_found c.in_ok-tag.was c.read_field.ensures in
    let g = laws.number_found c.in_ok-start.was c.read_field-2.ensures in
    rw c.from_residual-in_err-end.ensures (laws.span_no_end f g (laws.number_none c.in_err-end.was c.read_field-3.ensures))

pub returns : goal.returns
returns c =
    let f = laws.number_found c.in_ok-tag.was c.read_field.ensures in
    let g = laws.number_found c.in_ok-start.was c.read_field-2.ensures in
    let h = laws.number_found c.in_ok-end.was c.read_field-3.ensures in
    laws.span_read f g h
