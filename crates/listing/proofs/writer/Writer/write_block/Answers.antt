-- A block without an escape stands for itself; the other two ways out write each byte. Assumes nothing.
use native.Mathlib.Omega.{arith}
use Rattle.listing.proofs.Writes as writes
use Rattle.listing.proofs.writer.Writer.write_block.Goals as goal

pub returns-then-n-eq0 : goal.returns-then-n-eq0
returns-then-n-eq0 c = rw (writes.none_escaped c.args.block.now (omega arith)) c.put_bytes.ensures
