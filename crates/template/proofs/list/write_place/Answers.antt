-- A line of 0 is no place, else the line, a colon and the column. Assumes nothing.
use Rattle.listing.proofs.Writers.{wrote_then}
use Rattle.template.proofs.ElementWrites as elements
use Rattle.template.proofs.list.write_place.Goals as goal

pub returns-then-p-eq0 : goal.returns-then-p-eq0
returns-then-p-eq0 c = elements.place_none c.args.p c.if-p-eq0.true c.put_bytes.ensures

pub returns : goal.returns
returns c = elements.place_some c.args.p c.if-p-eq0.false (wrote_then c.write_decimal.ensures (wrote_then c.put_bytes-2.ensures c.write_decimal-2.ensures))
