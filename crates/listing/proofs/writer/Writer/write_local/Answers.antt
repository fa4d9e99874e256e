-- The pieces of the form, one after the other. Assumes nothing.
use Rattle.listing.proofs.PathWrites as paths
use Rattle.listing.proofs.Writers as writers
use Rattle.listing.proofs.writer.Writer.write_local.Goals as goal

pub returns : goal.returns
returns c =
    rw (paths.local_bytes _ _ _)
    (writers.wrote_then c.put_bytes.ensures (writers.wrote_then c.write_decimal.ensures (writers.wrote_then c.put_bytes-2.ensures (writers.wrote_then c.write_part.ensures (writers.wrote_then c.put_bytes-3.ensures (writers.wrote_then c.write_part-2.ensures c.put_bytes-4.ensures))))))
