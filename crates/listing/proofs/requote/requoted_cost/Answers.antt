-- `listing::requote::requoted_cost` meets its contract: the invariant says that `n` is what the last byte and those passed take; a turn counts a block. Assumes nothing.
use Prim.Native.Nat.{◌+◌, ◌-◌}
use native.Mathlib.Omega.{arith}
use mathlib.Core.Path.{◌≡◌, refl, sym, ap}
use lib.ListN.{length, drop, length-take, length-drop}
use lib.Seq.{take_all}
use Rattle.listing.specs.Code.Cost.{cost_to}
use Rattle.listing.proofs.RequoteCounts as counts
use Rattle.listing.proofs.requote.requoted_cost.Goals as goal

pub returns-in_default : goal.returns-in_default
unfolding cost_to
returns-in_default c = let s = c.args.inner.now in let q : length s ≡ 0 = omega arith in omega (arith, ap (cost_to s) q)

pub loop-rest-init : goal.loop-rest-init
unfolding cost_to
loop-rest-init c = counts.behind_none _ refl c.in-len1-up.len_at_least (omega arith)

pub block_cost-requires : goal.block_cost-requires
block_cost-requires c = let n = length-take 33 c.loop-rest.rest.now in (omega arith, omega arith)

pub loop-rest-preserved : goal.loop-rest-preserved
loop-rest-preserved c =
    let rest = c.loop-rest.rest.now in
    let g = c.loop-rest.invariant in
    let run = counts.cost_run c.args.inner.now g.passed 32 g.left refl (omega (arith, length-take 33 rest)) in
    counts.behind_more _ 32 (take_all (length rest - 32) (drop 32 rest) (omega (arith, length-drop 32 rest))) (omega arith) g (omega (arith, run, g.holds))

pub returns : goal.returns
returns c =
    let s = c.args.inner.now in
    let rest = c.loop-rest.rest.now in
    let g = c.loop-rest.invariant in
    let n = length rest - 1 in
    let run = counts.cost_run s g.passed n g.left (sym (take_all (n + 1) rest (omega arith))) (omega (arith, g.some)) in
    let q : g.passed + n ≡ length s - 1 = omega (arith, g.whole, g.some) in
    omega (arith, counts.cost_last s (omega (arith, g.whole, g.some)), ap (cost_to s) q, run, g.holds)

pub slice_bounds-block_cost-end : goal.slice_bounds-block_cost-end
slice_bounds-block_cost-end c = omega (arith, length-take 33 c.loop-rest.rest.now)
