-- The loop keeps the text, and what is left when the end is trimmed; each turn takes a piece that is all trimmed and the removed byte before it. Assumes nothing.
use native.Mathlib.Omega.{arith}
use lib.ListN.{length}
use mathlib.Core.Path.{refl, ap, ◌∙◌}
use Rattle.template.proofs.CutTrims as trims
use Rattle.template.proofs.raw.Pieces.trim_back.Goals as goal

pub overflow_add-result : goal.overflow_add-result
overflow_add-result c =
    let loop = c.loop-c in
    omega (arith, ap length loop.invariant.0, trims.backing_fits c.args.white loop.c.good loop.invariant.1 c.piece_start-start.ensures c.part.ensures c.back_left-left.ensures)

pub invariant_of-result : goal.invariant_of-result
invariant_of-result c =
    let loop = c.loop-c in
    record { good = (trims.backing_done c.args.white loop.c.good loop.invariant.1 c.piece_start-start.ensures c.part.ensures c.back_left-left.ensures c.then-left-gt0.either refl).good }

pub returns-then-left-gt0 : goal.returns-then-left-gt0
returns-then-left-gt0 c =
    let loop = c.loop-c in
    trims.backing_done c.args.white loop.c.good loop.invariant.1 c.piece_start-start.ensures c.part.ensures c.back_left-left.ensures c.then-left-gt0.either refl

pub loop-c-preserved : goal.loop-c-preserved
loop-c-preserved c =
    let loop = c.loop-c in
    let rest = c.without_last-c.ensures in (
      rest.same.0 ∙ loop.invariant.0,
      rw (rest.same.0, rest.same.1)
          (trims.backing_on c.args.white loop.c.good loop.invariant.1 c.piece_start-start.ensures c.part.ensures c.back_left-left.ensures c.if-left-gt0.false c.if-c.false rest.cut),
    )
