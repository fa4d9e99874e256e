-- The path of the other segments starts at a later span.
use Rattle.std.proofs.Common.{length, ◌-◌}
use Rattle.replay_json_path.proofs.show_segments.Given as goal

abbrev pub decreases-loop-segment : goal.decreases-loop-segment
decreases-loop-segment g l = length l.words - l.rest.from
