-- The counts so far are those of the bytes so far, and the start so far is that of their last line. Assumes nothing.
use Prim.Native.Nat.{◌≤◌}
use mathlib.Core.Path.{◌≡◌}
use lib.ListN.{take}
use Rattle.support.specs.Code.Blocks.{count, is_feed, is_first}
use Rattle.support.proofs.Places.{LastLine}
use Rattle.support.proofs.position.counts_in.Given as goal

abbrev pub invariant-loop-b : goal.invariant-loop-b
invariant-loop-b l =
    (l.feeds ≤ l.b-index)
    × (l.firsts ≤ l.b-index)
    × (l.feeds ≡ count is_feed (take l.b-index l.block))
    × (l.firsts ≡ count is_first (take l.b-index l.block))
    × (l.end ≡ l.b-index)
    × LastLine l.block l.b-index l.start
