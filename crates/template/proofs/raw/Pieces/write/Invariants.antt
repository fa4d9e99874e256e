-- The loop keeps what is written and what the rest denotes; each turn writes a piece. Assumes nothing.
use Prim.Native.Nat.{◌-◌}
use Rattle.template.specs.Raw.{cut_means}
use Rattle.template.proofs.CutWrites as writes
use Rattle.template.proofs.raw.Pieces.write.Given as goal

abbrev pub invariant-loop-c : goal.invariant-loop-c
invariant-loop-c l =
    let x = l.self in
    writes.Writing l.c.text.now l.c.words.now (cut_means x.text.now x.words.now x.cut) l.initial.w l.c.cut l.w

abbrev pub decreases-loop-c : goal.decreases-loop-c
decreases-loop-c l = l.c.cut.last - l.c.cut.first
