-- A character stands at each offset from `from` up to `i`. Assumes nothing.
use native.Mathlib.Omega.{arith}
use lib.ListN.{length-drop}
use Rattle.support.specs.Utf8.{char_length}
use Rattle.support.proofs.Pieces as pieces
use Rattle.support.proofs.Utf8Laws as utf8
use Rattle.support.proofs.utf8.ascii_end.Goals as goal

pub loop-i-preserved : goal.loop-i-preserved
loop-i-preserved c =
    let s = c.args.s.now in
    let i = c.loop-i.i in
    let next = pieces.leading_next char_length s i 1 (utf8.ascii_char s i (omega arith) (omega arith)) (omega (arith, length-drop i s)) in
    omega (arith, next)
