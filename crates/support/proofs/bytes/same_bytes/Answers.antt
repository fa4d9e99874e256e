-- `==` of slices is the same test. Assumes nothing.
use Rattle.std.proofs.Common.{rules}
use Rattle.support.proofs.ByteLaws as bytes
use Rattle.support.proofs.bytes.same_bytes.Goals as goal

pub returns : goal.returns
returns c = let e = bytes.same_pointwise c.args.s.now c.args.t.now in search (rules, e)
