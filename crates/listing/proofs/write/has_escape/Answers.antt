-- A case of `escape` for each way out. Assumes nothing.
use native.Mathlib.Omega.{arith}
use mathlib.Core.Path.{ap}
use lib.ListN.{length}
use Rattle.listing.proofs.Writes as writes
use Rattle.listing.proofs.write.has_escape.Goals as goal

pub returns-in-92 : goal.returns-in-92
returns-in-92 c = ap length (writes.escape_backslash c.args.b c.in-92.is)

pub returns-in-34 : goal.returns-in-34
returns-in-34 c = ap length (writes.escape_quote c.args.b c.in-34.is)

pub returns-in-10 : goal.returns-in-10
returns-in-10 c = ap length (writes.escape_feed c.args.b c.in-10.is)

pub returns-in_default : goal.returns-in_default
returns-in_default c = writes.escape_other c.args.b (λ h. omega arith) (λ h. omega arith) (λ h. omega arith)
