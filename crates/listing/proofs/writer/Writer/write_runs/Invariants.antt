-- The bytes passed are written as quoted text has them; a turn copies bytes that have no escape and writes the next. Assumes nothing.
use Prim.Native.Nat.{◌≤◌}
use lib.ListN.{length}
use Rattle.listing.specs.Quoted.{escaped}
use Rattle.listing.specs.Wrote.{Wrote}
use Rattle.listing.proofs.Writes as writes
use Rattle.listing.proofs.writer.Writer.write_runs.Given as goal

abbrev pub invariant-loop-marked : goal.invariant-loop-marked
invariant-loop-marked l = (length l.rest ≤ 64) × writes.Passed (λ s. Wrote (escaped s) l.initial.self l.self) l.block l.rest

abbrev pub decreases-loop-marked : goal.decreases-loop-marked
decreases-loop-marked l = length l.rest
