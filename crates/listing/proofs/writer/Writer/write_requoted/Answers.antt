-- The text is written byte by byte, or, where nothing can be stored, its bytes are counted. Assumes nothing.
use native.Mathlib.Omega.{arith}
use mathlib.Core.Path.{refl}
use Rattle.literal.specs.Requote.{requoted}
use Rattle.listing.specs.Quoted.{quoted}
use Rattle.listing.proofs.RequoteCounts as counts
use Rattle.listing.proofs.Writes as writes
use Rattle.listing.proofs.writer.Writer.write_requoted.Goals as goal

pub returns-then-self : goal.returns-then-self
returns-then-self c =
    let a = c.args.self.now in
    record { same = refl; bytes = writes.written_out (quoted (requoted c.args.inner.now)) a.out.now a.at _ (omega arith) (omega (arith, counts.quoted_cost c.args.inner.now)) }
