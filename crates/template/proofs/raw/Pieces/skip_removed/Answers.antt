-- The loop keeps what the cut denotes; each turn takes an empty piece and the removed byte after it. Assumes nothing.
use Rattle.template.proofs.CutNewline as newline
use Rattle.template.proofs.raw.Pieces.skip_removed.Goals as goal

pub returns-then-c : goal.returns-then-c
returns-then-c c =
    let loop = c.loop-c in
    newline.skip_none (record { good = loop.c.good; means = loop.invariant }) c.if-c.true

pub returns-then-c-end : goal.returns-then-c-end
returns-then-c-end c =
    let loop = c.loop-c in
    newline.skip_found (record { good = loop.c.good; means = loop.invariant }) c.piece_end-end.ensures c.if-c-end.true

pub loop-c-preserved : goal.loop-c-preserved
loop-c-preserved c =
    let loop = c.loop-c in
    let rest = c.without_first-c.ensures in
    rw (rest.same.0, rest.same.1)
    (newline.skip_next (record { good = loop.c.good; means = loop.invariant }) c.piece_end-end.ensures c.if-c.false c.if-c-end.false rest.cut).means
