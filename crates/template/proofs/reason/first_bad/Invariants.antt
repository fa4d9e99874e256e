-- No span before the loop's number is bad. Assumes nothing.
use Rattle.template.proofs.CheckLaws as laws
use Rattle.template.proofs.reason.first_bad.Given as goal

abbrev pub invariant-loop-k : goal.invariant-loop-k
invariant-loop-k l = laws.Looking l.text l.words l.k
