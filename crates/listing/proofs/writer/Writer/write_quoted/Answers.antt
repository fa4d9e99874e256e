-- A quote, the bytes, a quote. Assumes nothing.
use Rattle.listing.proofs.Writers as writers
use Rattle.listing.proofs.writer.Writer.write_quoted.Goals as goal

pub returns : goal.returns
returns c = writers.quoted_done c.args.text.now c.put.ensures c.write_escaped.ensures c.put-2.ensures
