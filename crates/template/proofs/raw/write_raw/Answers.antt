-- The whole cut is good, since the walk made the text of a good input; trimmed at both ends it denotes the text, which is written between quotes. Assumes nothing.
use Rattle.listing.proofs.Writers.{quoted_done}
use Rattle.template.specs.Element.{raw_means}
use Rattle.template.proofs.RawEscapes as escapes
use Rattle.template.proofs.raw.write_raw.Goals as goal

pub invariant_of-whole : goal.invariant_of-whole
invariant_of-whole c =
    let good = c.args.input.now.good in
    record { good = (escapes.raw_cut good c.requires c.last_escape.result c.last_escape.ensures).good }

pub returns : goal.returns
returns c =
    let i = c.args.input.now in
    let m = escapes.raw_means_lem c.args.r (escapes.raw_cut i.good c.requires c.last_escape.result c.last_escape.ensures) c.trimmed_front.ensures c.trimmed_back-trimmed.ensures in
    quoted_done (raw_means i.text.now i.words.now c.args.r) c.put.ensures (rw m at c.write.ensures) c.put-2.ensures
