-- The measure is the count of bytes that are left.
use Rattle.std.proofs.Common.{length}
use Rattle.literal.specs.Requote.{left_at}
use Rattle.replay_literals.proofs.write_rewritten.Given as goal

abbrev pub decreases-loop-b : goal.decreases-loop-b
decreases-loop-b g l = length (left_at l.inner l.place)
