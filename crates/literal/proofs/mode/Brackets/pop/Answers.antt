-- The bits are halved.
use Rattle.literal.proofs.StackLaws as stack
use Rattle.literal.proofs.mode.Brackets.pop.Goals as goal

pub invariant_of-result : goal.invariant_of-result
invariant_of-result c = rw c.saturating_sub.ensures (record { bounded = stack.power_pop _ _ c.args.self.bounded })

pub returns : goal.returns
returns c = rw c.saturating_sub.ensures (stack.popped c.args.self.depth c.args.self.bits)
