-- Those from the place on are copied one place later. Assumes nothing.
use Rattle.listing.proofs.Cells as cells
use Rattle.listing.proofs.keys.insert_at.Goals as goal

pub returns : goal.returns
returns c = let a = c.args in rw (c.copy_within.ensures.after) (cells.moved a.held.now a.place a.count a.e c.requires.0 c.requires.1)
