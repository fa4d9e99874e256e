-- What is bad from the first escape on is bad from the turn's escape on. Assumes nothing.
use Prim.Native.Nat.{◌-◌}
use lib.ListN.{length}
use Rattle.template.proofs.EscapeLaws as laws
use Rattle.template.proofs.reason.bad_escapes.Given as goal

abbrev pub invariant-loop-x : goal.invariant-loop-x
invariant-loop-x l = laws.Escaping l.input.text.now l.input.words.now l.start l.limit l.from l.least l.k

abbrev pub decreases-loop-x : goal.decreases-loop-x
decreases-loop-x l = length l.input.words.now - l.k
