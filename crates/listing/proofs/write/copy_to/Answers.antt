-- The first `i` bytes are written; a turn stores one more. Assumes nothing.
use Prim.Native.Nat.{◌+◌}
use native.Mathlib.Omega.{arith}
use mathlib.Core.Path.{refl, ◌∙◌}
use lib.ListN.{get_or, length-set}
use Rattle.listing.proofs.Writes as writes
use Rattle.listing.proofs.write.copy_to.Goals as goal

pub loop-i-init : goal.loop-i-init
loop-i-init c = (omega arith, refl, record { stored = refl; next = omega arith })

pub loop-i-preserved : goal.loop-i-preserved
loop-i-preserved c =
    let a = c.args in
    let l = c.loop-i in (
      omega arith,
      length-set l.out (a.at + l.i) (get_or a.bytes.now l.i 0) ∙ l.invariant.1,
      writes.copied_more a.bytes.now l.i c.requires (omega arith) (omega arith) l.invariant.2,
    )
