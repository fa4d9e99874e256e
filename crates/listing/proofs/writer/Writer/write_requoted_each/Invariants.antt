-- What writes the bytes left writes the whole. Assumes nothing.
use lib.ListN.{length}
use Rattle.literal.specs.Requote.{requoted, left_at}
use Rattle.listing.specs.Quoted.{escaped}
use Rattle.listing.proofs.Writers as writers
use Rattle.listing.proofs.writer.Writer.write_requoted_each.Given as goal

abbrev pub invariant-loop-b : goal.invariant-loop-b
invariant-loop-b l = writers.Onward (escaped (requoted l.inner)) (escaped (left_at l.inner l.place)) l.initial.self l.self

abbrev pub decreases-loop-b : goal.decreases-loop-b
decreases-loop-b l = length (left_at l.inner l.place)
