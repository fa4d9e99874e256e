-- No indent is kept, there are no blanks, or the blanks. Assumes nothing.
use Rattle.listing.proofs.Writers.{wrote_then}
use Rattle.template.proofs.ElementWrites as elements
use Rattle.template.proofs.list.write_indent.Goals as goal

pub returns-in_default : goal.returns-in_default
returns-in_default c = elements.indent_off c.args.text.now c.args.d c.in_default.is c.put_bytes.ensures

pub returns-then-blanks-eq0 : goal.returns-then-blanks-eq0
returns-then-blanks-eq0 c =
    elements.indent_none c.args.text.now c.args.d c.in-Some.is c.part.ensures c.find_trailing_whitespace_chars-blanks.ensures c.if-blanks-eq0.true
    c.put_bytes-then-blanks-eq0.ensures

pub returns : goal.returns
returns c =
    elements.indent_some c.args.text.now c.args.d c.in-Some.is c.part.ensures c.find_trailing_whitespace_chars-blanks.ensures c.if-blanks-eq0.false
    (wrote_then c.put_bytes-2.ensures c.write_quoted.ensures)
