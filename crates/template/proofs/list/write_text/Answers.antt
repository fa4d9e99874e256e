-- The pieces of the form, one after the other. Assumes nothing.
use Rattle.listing.proofs.Writers.{wrote_then}
use Rattle.template.proofs.ElementWrites as elements
use Rattle.template.proofs.list.write_text.Goals as goal

pub returns : goal.returns
returns c =
    rw (elements.text_bytes _ _)
    (wrote_then c.put_bytes.ensures (wrote_then c.write_place.ensures (wrote_then c.put_bytes-2.ensures (wrote_then c.write_raw.ensures c.put_bytes-3.ensures))))
