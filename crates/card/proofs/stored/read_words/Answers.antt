-- `card::stored::read_words` meets its contract: the numbers of the bytes before the offset are stored. Assumes nothing.
use native.Mathlib.Omega.{arith}
use Rattle.card.proofs.StoredLaws as laws
use Rattle.card.proofs.stored.read_words.Goals as goal

pub returns-then-line-at : goal.returns-then-line-at
returns-then-line-at c = laws.numbering_ends c.loop-n.invariant c.if-line-at.true

pub overflow_add-at : goal.overflow_add-at
overflow_add-at c =
    let i = laws.digits_inside c.loop-n.invariant c.if-line-at.false c.read_digits-number.ensures in
    omega arith

pub loop-n-preserved : goal.loop-n-preserved
loop-n-preserved c = laws.numbering_goes_on c.loop-n.invariant c.if-line-at.false c.read_digits-number.ensures (omega arith)

pub returns : goal.returns
returns c = laws.numbering_full c.loop-n.invariant (omega arith)
