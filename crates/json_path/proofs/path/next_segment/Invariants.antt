-- The loop keeps the segments: the spans taken so far gave none. Assumes nothing.
use Prim.Native.Nat.{◌≤◌, ◌-◌}
use mathlib.Core.Path.{◌≡◌}
use lib.ListN.{length}
use Rattle.json_path.specs.Span.{spans_from}
use Rattle.json_path.specs.Path.{segments_to}
use Rattle.json_path.specs.Answers.{segments_mean}
use Rattle.json_path.proofs.path.next_segment.Given as goal

abbrev pub invariant-loop-s : goal.invariant-loop-s
invariant-loop-s l = record {
  same : segments_mean l.text l.words l.path ≡ segments_to l.text l.path.raw.end (spans_from l.words l.at);
  onward : l.path.from ≤ l.at;
}

abbrev pub decreases-loop-s : goal.decreases-loop-s
decreases-loop-s l = length l.words - l.at
