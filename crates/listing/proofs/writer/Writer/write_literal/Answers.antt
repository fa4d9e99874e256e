-- The pieces of the form, one after the other. Assumes nothing.
use Rattle.listing.proofs.ParamWrites as params
use Rattle.listing.proofs.Writers as writers
use Rattle.listing.proofs.writer.Writer.write_literal.Goals as goal

pub returns : goal.returns
returns c = rw (params.literal_bytes _) (writers.wrote_then c.put_bytes.ensures (writers.wrote_then c.write_kept.ensures c.put_bytes-2.ensures))
