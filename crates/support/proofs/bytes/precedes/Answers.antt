-- `cmp` of slices is the same order. Assumes nothing.
use Rattle.std.proofs.Common.{rules}
use Rattle.support.proofs.ByteLaws as bytes
use Rattle.support.proofs.bytes.precedes.Goals as goal

pub returns : goal.returns
returns c = let e = bytes.precedes_cmp c.args.s.now c.args.t.now c.cmp.result c.cmp.ensures in search (rules, e)
