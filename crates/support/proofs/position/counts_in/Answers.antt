-- The counts so far are those of the bytes so far, and the start so far is that of their last line. Assumes nothing.
use Prim.Native.Nat.{◌+◌}
use native.Mathlib.Omega.{arith}
use mathlib.Core.Path.{◌≡◌, refl, ap, ◌∙◌}
use mathlib.Core.Bool.{not}
use lib.ListN.{get_or}
use Rattle.support.specs.Bytes.{if}
use Rattle.support.specs.Code.Blocks.{is_feed, is_first}
use Rattle.support.proofs.Counts as counts
use Rattle.support.proofs.Places as places
use Rattle.support.proofs.position.counts_in.Goals as goal

pub loop-b-init : goal.loop-b-init
loop-b-init c =
    let s = c.args.block.now in
    (omega arith, omega arith, counts.counted_none is_feed s, counts.counted_none is_first s, refl, places.last_line_first s)

pub loop-b-preserved : goal.loop-b-preserved
loop-b-preserved c =
    let l = c.loop-b in
    let s = c.args.block.now in
    let e : l.end + 1 ≡ l.b-index + 1 = ap (λ k. k + 1) l.invariant.4 in (
      omega (arith, counts.byte_le, c.from-feeds.ensures),
      omega (arith, counts.byte_le, c.from-firsts.ensures),
      rw c.from-feeds.ensures (counts.counted_test is_feed s l.b-index l.invariant.2 (omega arith) refl),
      rw c.from-firsts.ensures (counts.counted_test is_first s l.b-index l.invariant.3 (omega arith) (ap not c.is_tail.ensures)),
      e,
      places.last_line_next s l.b-index l.start _ _ l.invariant.5 (c.feed_end.ensures ∙ ap (λ k. if (is_feed (get_or s l.b-index 0)) k 0) e) c.max-start.ensures,
    )

pub returns : goal.returns
returns c =
    let l = c.loop-b in
    let s = c.args.block.now in
    let v = l.invariant.5 in
    record {
      counts = record {
        feeds = c.from.ensures ∙ counts.counted_all is_feed s l.b-index l.invariant.2 (omega arith);
        firsts = c.from-2.ensures ∙ counts.counted_all is_first s l.b-index l.invariant.3 (omega arith);
      };
      inside = omega (arith, v.inside, c.from-3.ensures);
      after = rw c.from-3.ensures v.after;
      none = rw c.from-3.ensures (counts.none_from is_feed s l.start (λ k a h. v.none k a (omega arith)));
    }
