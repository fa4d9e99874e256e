-- By the mode, and by what the head tells: proofs/ChainHeads. Assumes nothing.
use mathlib.Core.Path.{sym, ◌∙◌}
use Rattle.template.specs.Turn.{turn_of}
use Rattle.template.proofs.ChainHeads as heads
use Rattle.template.proofs.turn.turn_of.Goals as goal

pub returns-then-not-closing : goal.returns-then-not-closing
unfolding turn_of
returns-then-not-closing c = rw c.if-not-closing.true

pub returns-in_default : goal.returns-in_default
returns-in_default c = rw c.if-not-closing.false (heads.turn_set _ _ (sym c.chain_head.ensures ∙ c.in_default.is))

pub returns : goal.returns
returns c = rw c.if-not-closing.false (heads.turn_revert _ _ _ (sym c.chain_head.ensures ∙ c.in-Some.is))
