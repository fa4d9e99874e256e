-- What writes the rest writes the whole. Assumes nothing.
use Prim.Native.Nat.{◌-◌}
use lib.ListN.{length}
use Rattle.listing.proofs.PathWrites as paths
use Rattle.listing.proofs.Writers as writers
use Rattle.listing.proofs.writer.Writer.write_segments.Given as goal

abbrev pub invariant-loop-segment : goal.invariant-loop-segment
invariant-loop-segment l = writers.Onward (paths.segments_bytes l.text l.words l.initial.rest) (paths.segments_bytes l.text l.words l.rest) l.initial.self l.self

abbrev pub decreases-loop-segment : goal.decreases-loop-segment
decreases-loop-segment l = length l.words - l.rest.from
