-- A turn passes one character; what is left trims to the same. Assumes nothing.
use native.Mathlib.Omega.{arith}
use mathlib.Core.Path.{◌≡◌, sym, ap, ◌∙◌}
use lib.ListN.{drop, length-drop}
use lib.Seq.{drop-drop}
use Rattle.support.specs.WhiteSpace.{white_length, trim_start}
use Rattle.support.proofs.Lengths.{length_some, length_none}
use Rattle.support.proofs.Pieces as pieces
use Rattle.support.proofs.WhiteLaws as white
use Rattle.support.proofs.white_space.trim_start.Goals as goal

pub overflow_add-i : goal.overflow_add-i
overflow_add-i c =
    let s = c.args.s.now in
    let i = c.loop-n.i in
    let e = ap white_length (sym (pieces.from_here s i)) ∙ (length_some _ c.in-Some.ensures).0 in
    omega (arith, e, white.white_length_le (drop i s), length-drop i s)

pub loop-n-smaller : goal.loop-n-smaller
loop-n-smaller c =
    let s = c.args.s.now in
    let i = c.loop-n.i in
    let e = ap white_length (sym (pieces.from_here s i)) ∙ (length_some _ c.in-Some.ensures).0 in
    omega (arith, e, (length_some _ c.in-Some.ensures).1, white.white_length_le (drop i s), length-drop i s)

pub loop-n-preserved : goal.loop-n-preserved
unfolding trim_start
loop-n-preserved c =
    let s = c.args.s.now in
    let i = c.loop-n.i in
    let n = c.in-Some.n in
    let e : white_length (drop i s) ≡ n = ap white_length (sym (pieces.from_here s i)) ∙ (length_some _ c.in-Some.ensures).0 in (
      omega (arith, e, white.white_length_le (drop i s), length-drop i s),
      ap trim_start (sym (drop-drop n i s)) ∙ sym (pieces.front_piece white_length (drop i s) n e (omega (arith, e, white.white_length_le (drop i s)))) ∙ c.loop-n.invariant.1,
    )

pub returns : goal.returns
unfolding trim_start
returns c =
    let s = c.args.s.now in
    let i = c.loop-n.i in
    let z = ap white_length (sym (pieces.from_here s i)) ∙ length_none _ c.in_default.ensures in
    pieces.from_here s i ∙ sym (pieces.front_none white_length (drop i s) z) ∙ c.loop-n.invariant.1
