-- The loop keeps what skipping leaves; each turn takes one walked span further. Assumes nothing.
use Prim.Native.Nat.{◌≤◌, ◌-◌}
use mathlib.Core.Path.{◌≡◌}
use lib.ListN.{length}
use Rattle.json_path.specs.Span.{spans_from, skip_to}
use Rattle.json_path.proofs.span.skip_to.Given as goal

abbrev pub invariant-loop-s : goal.invariant-loop-s
invariant-loop-s l = record {
  same : skip_to l.limit (spans_from l.words l.k) ≡ skip_to l.limit (spans_from l.words l.at);
  onward : l.k ≤ l.at;
}

abbrev pub decreases-loop-s : goal.decreases-loop-s
decreases-loop-s l = length l.words - l.at
