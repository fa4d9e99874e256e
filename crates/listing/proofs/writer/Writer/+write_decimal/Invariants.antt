-- The measure is the number. Assumes nothing.
use Rattle.listing.proofs.writer.Writer.+write_decimal.Given as goal

abbrev pub decreases-write_decimal : goal.decreases-write_decimal
decreases-write_decimal l = l.n
