-- By what the head tells: proofs/ChainHeads. Assumes nothing.
use mathlib.Core.Path.{sym, ◌∙◌}
use Rattle.template.proofs.ChainHeads as heads
use Rattle.template.proofs.turn.ref_chain_head.Goals as goal

pub returns-in_default : goal.returns-in_default
returns-in_default c = heads.owner_block _ _ (sym c.chain_head.ensures ∙ c.in_default.is)

pub returns : goal.returns
returns c = heads.owner_node _ _ _ (sym c.chain_head.ensures ∙ c.in-Some.is)
