-- The loop keeps what proofs/Loop says; the answer is what proofs/WalkStages says of a visit, or what proofs/Finishing says of the end of
-- the list. Assumes nothing.
use native.Mathlib.Omega.{arith}
use mathlib.Core.Path.{refl, ap, sym, ◌∙◌}
use lib.ListN.{length-set}
use Rattle.template.specs.Result.{refused}
use Rattle.json_path.proofs.Cases as json
use Rattle.template.proofs.Exits.{handed_on}
use Rattle.template.proofs.Loop as loop
use Rattle.template.proofs.Loop.{Goes}
use Rattle.template.proofs.Finishing.{Rested}
use Rattle.template.proofs.Finishing as finishing
use Rattle.template.proofs.WalkEnds as ends
use Rattle.template.proofs.WalkStages as stages
use Rattle.template.proofs.walk.walk.Goals as goal
use Rattle.template.proofs.walk.walk.Goals.{then-b, else-b+in-Some+in_ok-step}

pub loop-b-init : goal.loop-b-init
loop-b-init g c = ends.held_first g.row.N c.requires.few c.requires.size.0 c.args.input.now.good

pub offset_bounds-elements-b : goal.offset_bounds-elements-b
offset_bounds-elements-b g c = omega (arith, loop.block_in c.loop-b.invariant)

pub bounds-elements-b : goal.bounds-elements-b
bounds-elements-b g c = loop.block_in c.loop-b.invariant

pub returns-in_err-step : goal.returns-in_err-step
returns-in_err-step g c =
    rw (handed_on c.from_residual.ensures.1)
    (record { means = (stages.visit_refused c.loop-b.invariant c.name.ensures c.if-b.false (json.next_found c.in-Some.is c.next_span.ensures) c.in_err-step.ensures, refl) })

pub take_turn-b-requires : goal.take_turn-b-requires
take_turn-b-requires g c =
    loop.turn_fits c.loop-b.invariant
    (elim c.if-b.branch [
      | then-b w ↦ rw w.step-is (stages.still_goes c.loop-b.invariant c.name.ensures w.if-b.true w.still-step.ensures)
      | else-b+in-Some+in_ok-step w ↦ rw w.step-is (stages.visit_goes c.loop-b.invariant c.name.ensures w.if-b.false (json.next_found w.in-Some.is w.next_span.ensures) w.in_ok-step.ensures)
    ])
    c.requires.size.1

pub loop-b-smaller : goal.loop-b-smaller
loop-b-smaller g c =
    loop.turn_less c.loop-b.invariant
    (elim c.if-b.branch [
      | then-b w ↦ rw w.step-is (stages.still_goes c.loop-b.invariant c.name.ensures w.if-b.true w.still-step.ensures)
      | else-b+in-Some+in_ok-step w ↦ rw w.step-is (stages.visit_goes c.loop-b.invariant c.name.ensures w.if-b.false (json.next_found w.in-Some.is w.next_span.ensures) w.in_ok-step.ensures)
    ])
    c.take_turn-b.ensures

pub loop-b-preserved : goal.loop-b-preserved
loop-b-preserved g c =
    loop.turn_held c.loop-b.invariant
    (elim c.if-b.branch [
      | then-b w ↦ rw w.step-is (stages.still_goes c.loop-b.invariant c.name.ensures w.if-b.true w.still-step.ensures)
      | else-b+in-Some+in_ok-step w ↦ rw w.step-is (stages.visit_goes c.loop-b.invariant c.name.ensures w.if-b.false (json.next_found w.in-Some.is w.next_span.ensures) w.in_ok-step.ensures)
    ])
    c.take_turn-b.ensures

pub returns-then-unfinished : goal.returns-then-unfinished
returns-then-unfinished g c =
    record { means = (stages.list_early c.loop-b.invariant c.name.ensures c.if-b.false (json.next_none c.in_default.is c.next_span.ensures) c.unfinished.ensures c.if-unfinished.true ∙ ap (refused 7) (sym c.span_count.ensures), refl) }

pub join-top-requires : goal.join-top-requires
join-top-requires g c = omega (arith, length-set c.loop-b.elements c.loop-b.b.len c.take_gap-g.result.made, c.loop-b.invariant.kept.long, loop.last_in c.loop-b.invariant)

pub write_tree-requires : goal.write_tree-requires
write_tree-requires g c =
    let i = c.args.input.now in
    let rested : Rested i.text.now i.words.now i.options c.loop-b.elements c.loop-b.b.top c.loop-b.b.len c.loop-b.b.marks c.loop-b.b.here c.rest_of-rest.result c.take_gap-g.result =
    record { good = i.good; end = stages.list_ended c.loop-b.invariant c.name.ensures c.if-b.false (json.next_none c.in_default.is c.next_span.ensures) i.good c.unfinished.ensures c.if-unfinished.false; is = c.rest_of-rest.ensures; gap = c.take_gap-g.ensures } in
    (omega (arith, c.requires.size.1), (c.requires.size.1, finishing.ended_stored rested c.join-top.ensures))

pub returns : goal.returns
returns g c =
    let i = c.args.input.now in
    let rested : Rested i.text.now i.words.now i.options c.loop-b.elements c.loop-b.b.top c.loop-b.b.len c.loop-b.b.marks c.loop-b.b.here c.rest_of-rest.result c.take_gap-g.result =
    record { good = i.good; end = stages.list_ended c.loop-b.invariant c.name.ensures c.if-b.false (json.next_none c.in_default.is c.next_span.ensures) i.good c.unfinished.ensures c.if-unfinished.false; is = c.rest_of-rest.ensures; gap = c.take_gap-g.ensures } in
    finishing.ended_answer rested c.join-top.ensures c.write_tree.ensures
