-- `card::stored::read_words` meets its contract: the numbers of the bytes before the offset are stored. Assumes nothing.
use Rattle.card.proofs.StoredLaws as laws
use Rattle.card.proofs.stored.read_words.Given as goal

abbrev pub invariant-loop-n : goal.invariant-loop-n
invariant-loop-n l = laws.Numbering l.line l.initial.words l.words l.n l.at
