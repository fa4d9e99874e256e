-- The loop keeps the text, and what is left when the end is trimmed; each turn takes a piece that is all trimmed and the removed byte before it. Assumes nothing.
use Prim.Native.Nat.{◌-◌}
use mathlib.Core.Path.{◌≡◌}
use Rattle.template.specs.Raw.{cut_means, end_trim}
use Rattle.template.proofs.raw.Pieces.trim_back.Given as goal

abbrev pub invariant-loop-c : goal.invariant-loop-c
invariant-loop-c l =
    let x = l.self in
    (l.c.text.now ≡ x.text.now) × (end_trim l.white (cut_means l.c.text.now l.c.words.now l.c.cut) ≡ end_trim l.white (cut_means x.text.now x.words.now x.cut))

abbrev pub decreases-loop-c : goal.decreases-loop-c
decreases-loop-c l = l.c.cut.last - l.c.cut.first
