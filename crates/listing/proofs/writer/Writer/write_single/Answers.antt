-- The form is a line. Assumes nothing.
use Rattle.listing.proofs.ChildWrites as children
use Rattle.listing.proofs.writer.Writer.write_single.Goals as goal

pub returns : goal.returns
returns c = rw (children.single_bytes _) c.write_line.ensures
