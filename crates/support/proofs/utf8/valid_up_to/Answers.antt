-- Whole characters lead up to `i`; a turn passes those of a block, or one. Assumes nothing.
use native.Mathlib.Omega.{arith}
use mathlib.Core.Path.{sym}
use lib.ListN.{drop, length-drop}
use Rattle.support.specs.Utf8.{char_length}
use Rattle.support.proofs.Lengths.{length_some, length_none}
use Rattle.support.proofs.Pieces as pieces
use Rattle.support.proofs.Utf8Laws as utf8
use Rattle.support.proofs.utf8.valid_up_to.Goals as goal

pub overflow_add-i : goal.overflow_add-i
overflow_add-i c =
    let rest = drop c.loop-i.i c.args.s.now in
    omega (arith, utf8.char_length_le rest, length_some (char_length rest) c.in-Some-char_at.ensures, length-drop c.loop-i.i c.args.s.now)

pub loop-i-preserved : goal.loop-i-preserved
loop-i-preserved c =
    let l = c.loop-i in
    let s = c.args.s.now in
    let n = length_some (char_length (drop l.i s)) c.in-Some-char_at.ensures in
    pieces.reached_next char_length s l.i c.in-Some-char_at.n n.0 (omega (arith, utf8.char_length_le (drop l.i s), n.0)) l.invariant

pub returns-in_default-char_at : goal.returns-in_default-char_at
returns-in_default-char_at c =
    let l = c.loop-i in
    let s = c.args.s.now in
    sym (pieces.reached_stop char_length s l.i (length_none (char_length (drop l.i s)) c.in_default-char_at.ensures) l.invariant)

pub returns : goal.returns
returns c = let l = c.loop-i in sym (pieces.reached_end char_length c.args.s.now l.i (omega arith) l.invariant)
