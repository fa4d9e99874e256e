-- What is copied up to the end is what is stored; at the end or behind it nothing is. Assumes nothing.
use Prim.Native.Nat.{◌-◌}
use native.Mathlib.Omega.{arith}
use mathlib.Core.Path.{sym, ◌∙◌}
use lib.ListN.{length}
use Rattle.listing.proofs.Writes as writes
use Rattle.listing.proofs.write.store_bytes.Goals as goal
use Rattle.listing.proofs.write.store_bytes.Goals.{then-at-out+else-bytes-room, else-at-out}

pub returns : goal.returns
returns c =
    let l = c.args.out.now in
    let at = c.args.at in
    let s = c.args.bytes.now in
    record {
      stored = elim c.if-at-out.branch [
        | then-at-out+else-bytes-room w ↦ w.out-is ∙ writes.copied_end s (length l - at) (omega arith) (omega arith) w.copy_to-then-at-out.ensures
        | else-at-out w ↦ w.out-is ∙ sym (writes.sets_out l at s w.if-at-out.false)
      ];
      next = omega arith;
    }
