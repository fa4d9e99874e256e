-- The measure is the number. Its digits are those of its tenth, written by the call, and its last digit. Assumes nothing.
use Rattle.listing.proofs.Writers as writers
use Rattle.listing.proofs.writer.Writer.+write_decimal.Goals as goal

pub returns-then-n-lt10 : goal.returns-then-n-lt10
returns-then-n-lt10 t c = writers.decimal_one_wrote c.args.n c.if-n-lt10.true c.put.ensures

pub returns-else-n-lt10 : goal.returns-else-n-lt10
returns-else-n-lt10 t c = writers.decimal_more_wrote c.args.n c.if-n-lt10.false c.write_decimal.ensures c.put-else-n-lt10.ensures
