-- From the offset on no byte is an LF. Assumes nothing.
use Rattle.std.specs.Prelude.{ℕ, ◌≢◌, ◌≤◌, ◌<◌, length, slice_index}
use Rattle.support.proofs.position.last_line.Given as goal

abbrev pub invariant-loop-i : goal.invariant-loop-i
invariant-loop-i l = (k : ℕ) → l.i ≤ k → k < length l.bytes → slice_index l.bytes k ≢ 10
