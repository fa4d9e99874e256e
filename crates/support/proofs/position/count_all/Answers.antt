-- The counts so far and those of the bytes left make the text's. Assumes nothing.
use native.Mathlib.Omega.{arith}
use mathlib.Core.Path.{ap, ◌∙◌}
use Rattle.std.specs.Slice.Iter.{chunks_rest}
use Rattle.support.specs.Code.Blocks.{count, is_feed, is_first}
use Rattle.support.proofs.Counts as counts
use Rattle.support.proofs.position.count_all.Goals as goal

pub overflow_add-feeds : goal.overflow_add-feeds
overflow_add-feeds c =
    let k = ap (count is_feed) c.in-Some.ensures.steps.1.0 ∙ counts.count_append is_feed c.in-Some.block.now (chunks_rest c.next.new.self) in
    omega (arith, c.counts_in-n.ensures.counts.feeds, k, c.loop-block.invariant.1, counts.count_le is_feed c.args.bytes.now)

pub overflow_add-firsts : goal.overflow_add-firsts
overflow_add-firsts c =
    let k = ap (count is_first) c.in-Some.ensures.steps.1.0 ∙ counts.count_append is_first c.in-Some.block.now (chunks_rest c.next.new.self) in
    omega (arith, c.counts_in-n.ensures.counts.firsts, k, c.loop-block.invariant.2, counts.count_le is_first c.args.bytes.now)

pub loop-block-preserved : goal.loop-block-preserved
loop-block-preserved c =
    let l = c.loop-block in
    let n = c.counts_in-n.ensures.counts in
    let k = c.in-Some.ensures.steps in
    let block = c.in-Some.block.now in
    let left = chunks_rest c.next.new.self in (
      omega (arith, k.0, l.invariant.0),
      omega (arith, n.feeds, ap (count is_feed) k.1.0 ∙ counts.count_append is_feed block left, l.invariant.1),
      omega (arith, n.firsts, ap (count is_first) k.1.0 ∙ counts.count_append is_first block left, l.invariant.2),
    )

pub returns : goal.returns
returns c =
    let l = c.loop-block in
    let left = chunks_rest l.block-iterator in
    let z = c.in-None.ensures.steps.1.0 in
    record {
      feeds = omega (arith, l.invariant.1, counts.count_le is_feed left, z);
      firsts = omega (arith, l.invariant.2, counts.count_le is_first left, z);
    }
