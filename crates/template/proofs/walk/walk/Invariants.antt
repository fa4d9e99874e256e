-- The loop keeps what proofs/Loop says, by the stages of a turn. Assumes nothing.
use Prim.Native.Nat.{◌+◌, ◌-◌, ◌*◌}
use Rattle.json_path.specs.Span.{span_count}
use Rattle.template.proofs.Loop.{HeldAt}
use Rattle.template.proofs.walk.walk.Given as goal

abbrev pub invariant-loop-b : goal.invariant-loop-b
invariant-loop-b g l = HeldAt l.input.text.now l.input.words.now l.input.options g.row.N l.elements l.levels l.b

abbrev pub decreases-loop-b : goal.decreases-loop-b
decreases-loop-b g l = 2 * (span_count l.input.words.now - l.b.at) + l.b.count
