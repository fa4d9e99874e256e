-- `listing::requote::cost` meets its contract: the two ways out are those of `cost`. Assumes nothing.
use native.Mathlib.Omega.{arith}
use mathlib.Core.Path.{sym, ◌∙◌}
use Rattle.listing.proofs.RequoteCounts as counts
use Rattle.listing.proofs.requote.cost.Goals as goal

pub returns-then-b-next : goal.returns-then-b-next
returns-then-b-next c = let a = c.args in (omega arith, sym (counts.cost_single a.b a.next c.if-b-next.true))

pub returns-else-b-next : goal.returns-else-b-next
returns-else-b-next c = let a = c.args in (omega arith, c.cost_alone.ensures.1 ∙ sym (counts.cost_own a.b a.next c.if-b-next.false))
