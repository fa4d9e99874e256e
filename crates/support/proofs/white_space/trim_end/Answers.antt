-- A turn passes one character; what is left trims to the same. Assumes nothing.
use Prim.Native.Nat.{◌-◌}
use native.Mathlib.Omega.{arith}
use mathlib.Core.List.{reverse}
use mathlib.Core.Path.{sym, ◌∙◌}
use lib.ListN.{length, length-take, length-reverse}
use Rattle.support.specs.WhiteSpace.{white_length_back, trim_end}
use Rattle.support.proofs.Lengths.{length_some, length_none}
use Rattle.support.proofs.Pieces as pieces
use Rattle.support.proofs.WhiteLaws as white
use Rattle.support.proofs.white_space.trim_end.Goals as goal

pub slice_bounds-left-count : goal.slice_bounds-left-count
slice_bounds-left-count c =
    let t = c.loop-n.left.now in
    omega (arith, length_some (white_length_back (reverse t)) c.in-Some.ensures, white.white_back_le (reverse t), length-reverse t)

pub loop-n-smaller : goal.loop-n-smaller
loop-n-smaller c =
    let t = c.loop-n.left.now in
    omega (arith, length_some (white_length_back (reverse t)) c.in-Some.ensures, white.white_back_le (reverse t), length-reverse t, length-take (length t - c.in-Some.n) t)

pub loop-n-preserved : goal.loop-n-preserved
unfolding trim_end
loop-n-preserved c =
    let t = c.loop-n.left.now in
    let n = c.in-Some.n in
    let e = (length_some (white_length_back (reverse t)) c.in-Some.ensures).0 in
    sym (pieces.back_piece white_length_back t n e (omega (arith, e, white.white_back_le (reverse t), length-reverse t))) ∙ c.loop-n.invariant

pub returns : goal.returns
unfolding trim_end
returns c =
    let t = c.loop-n.left.now in
    sym (pieces.back_none white_length_back t (length_none (white_length_back (reverse t)) c.in_default.ensures)) ∙ c.loop-n.invariant
