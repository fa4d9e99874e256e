-- `card::read::read_lines` meets its contract: the words of the lines before the offset are stored. A word takes a byte at least, so the count of
-- the words fits. Assumes nothing.
use Prim.Native.Nat.{◌-◌}
use lib.ListN.{length}
use Rattle.card.proofs.CardLaws as laws
use Rattle.card.proofs.read.read_lines.Given as goal

abbrev pub invariant-loop-s : goal.invariant-loop-s
invariant-loop-s l = laws.Storing l.input l.from l.initial.words l.words l.n l.at

abbrev pub decreases-loop-s : goal.decreases-loop-s
decreases-loop-s l = length l.input - l.at
