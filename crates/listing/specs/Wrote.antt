-- What is written with a writer: the bytes go from its position on into the slice that it was lent, which it keeps.
use Rattle.std.specs.Prelude.{◌≡◌}
use Rattle.support.specs.Bytes.{Bytes}
use Rattle.listing.specs.Written.{Written}
use Rattle.listing.specs.declared.writer.Writer.{Writer}

pub record Wrote (w : Bytes) (a b : Writer) : Type 0 where
  pub same : b.out.ghost_name ≡ a.out.ghost_name
  pub bytes : Written w a.out.now a.at b.out.now b.at
