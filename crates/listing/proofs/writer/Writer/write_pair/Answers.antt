-- The form is two lines without an end between them. Assumes nothing.
use Rattle.listing.proofs.ChildWrites as children
use Rattle.listing.proofs.Writers as writers
use Rattle.listing.proofs.writer.Writer.write_pair.Goals as goal

pub returns : goal.returns
returns c = rw (children.pair_bytes _ _) (writers.wrote_then c.write_line.ensures c.write_line-2.ensures)
