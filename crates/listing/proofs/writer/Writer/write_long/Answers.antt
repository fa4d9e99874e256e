-- The text is written block by block, or, where nothing can be stored, the bytes and their escapes are counted. Assumes nothing.
use native.Mathlib.Omega.{arith}
use mathlib.Core.Path.{refl}
use Rattle.listing.specs.Quoted.{escaped}
use Rattle.listing.proofs.Writes as writes
use Rattle.listing.proofs.writer.Writer.write_long.Goals as goal

pub returns-then-self : goal.returns-then-self
returns-then-self c =
    let a = c.args.self.now in
    record { same = refl; bytes = writes.written_out (escaped c.args.text.now) a.out.now a.at _ (omega arith) (omega arith) }
