-- The loop keeps what is written and what the rest denotes; each turn writes a piece. Assumes nothing.
use Rattle.template.proofs.CutWrites as writes
use Rattle.template.proofs.raw.Pieces.write.Goals as goal

pub loop-c-init : goal.loop-c-init
loop-c-init c = writes.writing_start

pub returns-then-c : goal.returns-then-c
returns-then-c c = writes.writing_end c.loop-c.invariant c.piece_end-end.ensures c.part.ensures c.write_escaped.ensures c.if-c.true

pub loop-c-preserved : goal.loop-c-preserved
loop-c-preserved c =
    let rest = c.without_first-c.ensures in
    rw (rest.same.0, rest.same.1)
    (writes.writing_on c.loop-c.invariant c.piece_end-end.ensures c.part.ensures c.write_escaped.ensures c.if-c.false rest.cut)
