-- ASCII alone, or whole characters up to the last byte that is no tail. Assumes nothing.
use Prim.Native.Nat.{◌+◌, ◌-◌}
use native.Mathlib.Omega.{arith}
use mathlib.Core.Path.{sym, ap, ◌∙◌}
use lib.ListN.{drop, length-take}
use lib.Seq.{get_or-take, get_or-drop}
use Rattle.support.specs.Utf8.{is_tail}
use Rattle.support.proofs.Utf8Blocks as blocks
use Rattle.support.proofs.utf8.block_chars.Goals as goal

pub returns-then-is_ascii : goal.returns-then-is_ascii
returns-then-is_ascii c =
    let a = c.args in
    (omega arith, omega arith, blocks.ascii_block a.s.now a.i a.e (omega arith) (omega arith) c.if-is_ascii.ensures.cases)

pub returns : goal.returns
returns c =
    let a = c.args in
    let s = a.s.now in
    let k = c.in_ok-k.k in
    let m = a.e - (a.i + 1) in
    let last = c.in_ok-k.ensures in
    let t = sym (ap is_tail (get_or-take m (drop (a.i + 1) s) k 0 (omega (arith, last.0, length-take m (drop (a.i + 1) s))) ∙ get_or-drop (a.i + 1) s k 0)) ∙ last.1 in (
      omega arith,
      omega (arith, last.0, length-take m (drop (a.i + 1) s)),
      blocks.chars_block s a.i a.e (omega arith) (omega arith) (omega arith) (a.i + 1 + k) (omega arith) (omega (arith, last.0, length-take m (drop (a.i + 1) s)))
          (sym c.is_tail.ensures ∙ c.if-is_tail.false) t (c.has_fault.ensures c.if-has_fault.false),
    )
