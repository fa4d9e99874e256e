-- The loop passes over escapes: the spans walked from its index on are those walked from `k` on. Assumes nothing.
use Prim.Native.Nat.{◌≤◌}
use mathlib.Core.Path.{◌≡◌}
use Rattle.json_path.specs.Span.{spans_from}
use Rattle.json_path.proofs.span.next_span.Given as goal

abbrev pub invariant-loop-i : goal.invariant-loop-i
invariant-loop-i l = record { same : spans_from l.words l.k ≡ spans_from l.words l.i; onward : l.k ≤ l.i }
