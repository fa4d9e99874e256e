-- The pieces of the line, one after the other. Assumes nothing.
use Rattle.listing.proofs.Writers as writers
use Rattle.listing.proofs.writer.Writer.write_line.Goals as goal

pub returns : goal.returns
returns c = writers.wrote_then c.put_bytes.ensures (writers.wrote_then c.write_part.ensures c.put_bytes-2.ensures)
