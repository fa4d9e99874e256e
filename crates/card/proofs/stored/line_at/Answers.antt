-- `card::stored::line_at` meets its contract: the part up to the line's end is the line. Assumes nothing.
use Rattle.card.proofs.StoredLaws as laws
use Rattle.card.proofs.stored.line_at.Goals as goal

pub returns : goal.returns
returns c = laws.line_part c.line_end.ensures c.part.ensures
