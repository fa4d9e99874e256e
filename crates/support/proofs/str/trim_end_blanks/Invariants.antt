-- From the offset on all bytes are blanks. Assumes nothing.
use Rattle.std.specs.Prelude.{ℕ, ◌≡◌, ◌≤◌, ◌<◌, length, slice_index, true}
use Rattle.support.specs.TextRules.{is_blank}
use Rattle.support.proofs.str.trim_end_blanks.Given as goal

abbrev pub invariant-loop-i : goal.invariant-loop-i
invariant-loop-i l = (k : ℕ) → l.i ≤ k → k < length l.s → is_blank (slice_index l.s k) ≡ true
