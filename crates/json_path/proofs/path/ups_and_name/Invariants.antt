-- The loop counts ups: the level so far and the segments of the rest give what the path gives. Assumes nothing.
use Prim.Native.Nat.{◌≤◌, ◌-◌}
use mathlib.Core.Path.{◌≡◌}
use lib.ListN.{length}
use Rattle.json_path.specs.Path.{ups_and_name}
use Rattle.json_path.specs.Answers.{segments_mean}
use Rattle.json_path.proofs.path.ups_and_name.Given as goal

abbrev pub invariant-loop-segment : goal.invariant-loop-segment
invariant-loop-segment l = record {
  same : ups_and_name 0 (segments_mean l.text l.words l.initial.rest) ≡ ups_and_name l.level (segments_mean l.text l.words l.rest);
  room : l.level ≤ l.rest.from;
}

abbrev pub decreases-loop-segment : goal.decreases-loop-segment
decreases-loop-segment l = length l.words - l.rest.from
