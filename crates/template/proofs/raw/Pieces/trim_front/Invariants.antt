-- The loop keeps what is left when the front is trimmed; each turn takes a piece that is all trimmed and the removed byte after it. Assumes nothing.
use Prim.Native.Nat.{◌-◌}
use mathlib.Core.Path.{◌≡◌}
use Rattle.template.specs.Raw.{cut_means, start_trim}
use Rattle.template.proofs.raw.Pieces.trim_front.Given as goal

abbrev pub invariant-loop-c : goal.invariant-loop-c
invariant-loop-c l =
    let x = l.self in
    start_trim l.white (cut_means l.c.text.now l.c.words.now l.c.cut) ≡ start_trim l.white (cut_means x.text.now x.words.now x.cut)

abbrev pub decreases-loop-c : goal.decreases-loop-c
decreases-loop-c l = l.c.cut.last - l.c.cut.first
