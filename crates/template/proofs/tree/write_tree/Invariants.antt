-- The loop keeps what proofs/Pass says. Assumes nothing.
use Rattle.template.proofs.Lister as lister
use Rattle.template.proofs.Pass as pass
use Rattle.template.proofs.tree.write_tree.Given as goal

abbrev pub invariant-loop-link : goal.invariant-loop-link
invariant-loop-link g l = pass.Pass l.input.text.now l.input.words.now l.elements l.initial.link g.row.N l.initial.w l.w l.waits.blocks.now l.link l.waits.count

abbrev pub decreases-loop-link : goal.decreases-loop-link
decreases-loop-link g l = lister.left_size l.input.text.now l.input.words.now l.elements l.waits.blocks.now l.link l.waits.count
