-- `listing::requote::cost_alone` meets its contract: a case of `cost_alone` for each way out. Assumes nothing.
use native.Mathlib.Omega.{arith}
use mathlib.Core.Path.{sym}
use Rattle.listing.proofs.RequoteCounts as counts
use Rattle.listing.proofs.requote.cost_alone.Goals as goal

pub returns-in-34 : goal.returns-in-34
returns-in-34 c = (omega arith, sym (counts.alone_quote c.args.b c.in-34.is))

pub returns-in-92 : goal.returns-in-92
returns-in-92 c = (omega arith, sym (counts.alone_backslash c.args.b c.in-92.is))

pub returns-in-10 : goal.returns-in-10
returns-in-10 c = (omega arith, sym (counts.alone_feed c.args.b c.in-10.is))

pub returns-in_default : goal.returns-in_default
returns-in_default c =
    (omega arith, sym (counts.alone_other c.args.b (λ h. omega arith) (λ h. omega arith) (λ h. omega arith)))
