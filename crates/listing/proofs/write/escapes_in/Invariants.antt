-- `listing::write::escapes_in` meets its contract: the invariant says how many of the bytes passed have an escape. Assumes nothing.
use Prim.Native.Nat.{◌≤◌}
use lib.ListN.{take}
use Rattle.listing.proofs.Writes as writes
use Rattle.listing.proofs.write.escapes_in.Given as goal

abbrev pub invariant-loop-b : goal.invariant-loop-b
invariant-loop-b l = (l.n ≤ l.b-index) × writes.Escapes (take l.b-index l.block) l.n
