-- The loop keeps what the cut denotes; each turn takes an empty piece and the removed byte after it. Assumes nothing.
use Prim.Native.Nat.{◌-◌}
use mathlib.Core.Path.{◌≡◌}
use Rattle.template.specs.Raw.{cut_means}
use Rattle.template.proofs.raw.Pieces.skip_removed.Given as goal

abbrev pub invariant-loop-c : goal.invariant-loop-c
invariant-loop-c l =
    let x = l.self in
    cut_means l.c.text.now l.c.words.now l.c.cut ≡ cut_means x.text.now x.words.now x.cut

abbrev pub decreases-loop-c : goal.decreases-loop-c
decreases-loop-c l = l.c.cut.last - l.c.cut.first
