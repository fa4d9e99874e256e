-- The form is a line. Assumes nothing.
use Rattle.listing.proofs.ParamWrites as params
use Rattle.listing.proofs.writer.Writer.write_name.Goals as goal

pub returns : goal.returns
returns c = rw (params.name_bytes_lem _) c.write_line.ensures
