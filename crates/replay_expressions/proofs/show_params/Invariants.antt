-- The parts after a parameter start at a later span.
use Rattle.std.proofs.Common.{length, ◌-◌}
use Rattle.replay_expressions.proofs.show_params.Given as goal

abbrev pub decreases-loop-v : goal.decreases-loop-v
decreases-loop-v g l = length l.words - l.rest.from
