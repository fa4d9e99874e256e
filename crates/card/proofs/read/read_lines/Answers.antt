-- `card::read::read_lines` meets its contract: the words of the lines before the offset are stored. A word takes a byte at least, so the count of
-- the words fits. Assumes nothing.
use Rattle.card.proofs.CardLaws as laws
use Rattle.card.proofs.read.read_lines.Goals as goal

pub loop-s-preserved : goal.loop-s-preserved
loop-s-preserved c =
    laws.storing_goes_on c.loop-s.invariant c.in-Some.is c.read_line.ensures c.put_word.ensures c.put_word-in-Some.ensures c.put_word-in-Some-2.ensures

pub returns : goal.returns
returns c = laws.storing_ends c.loop-s.invariant c.in_default.is c.read_line.ensures
