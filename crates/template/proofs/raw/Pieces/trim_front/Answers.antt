-- The loop keeps what is left when the front is trimmed; each turn takes a piece that is all trimmed and the removed byte after it. Assumes nothing.
use mathlib.Core.Path.{refl}
use Rattle.template.proofs.CutTrims as trims
use Rattle.template.proofs.raw.Pieces.trim_front.Goals as goal

pub overflow_sub-result : goal.overflow_sub-result
overflow_sub-result c =
    let loop = c.loop-c in
    trims.fronting_fits c.args.white loop.c.good loop.invariant c.piece_end-end.ensures c.part.ensures c.front_left-left.ensures

pub invariant_of-result : goal.invariant_of-result
invariant_of-result c =
    let loop = c.loop-c in
    record { good = (trims.fronting_done c.args.white loop.c.good loop.invariant c.piece_end-end.ensures c.part.ensures c.front_left-left.ensures c.then-left-gt0.either refl).good }

pub returns-then-left-gt0 : goal.returns-then-left-gt0
returns-then-left-gt0 c =
    let loop = c.loop-c in
    trims.fronting_done c.args.white loop.c.good loop.invariant c.piece_end-end.ensures c.part.ensures c.front_left-left.ensures c.then-left-gt0.either refl

pub loop-c-preserved : goal.loop-c-preserved
loop-c-preserved c =
    let loop = c.loop-c in
    let rest = c.without_first-c.ensures in
    rw (rest.same.0, rest.same.1)
    (trims.fronting_on c.args.white loop.c.good loop.invariant c.piece_end-end.ensures c.part.ensures c.front_left-left.ensures c.if-left-gt0.false c.if-c.false rest.cut)
