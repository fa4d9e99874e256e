-- `template::compile::compile_in` meets its contract: proofs/Buffers has what each answer of the walk comes to. Assumes nothing.
use Prim.Native.Nat.{ℕ}
use native.Mathlib.Omega.{arith}
use lib.ListN.{length-replicate}
use Rattle.template.proofs.Buffers as buffers
use Rattle.template.proofs.compile.compile_in.Goals as goal

pub returns-then-out-n : goal.returns-then-out-n
returns-then-out-n g c = buffers.too_long c.args.text.now c.args.words.now c.args.options c.in_ok-n.ensures c.if-out-n.true

pub returns-then-n : goal.returns-then-n
returns-then-n g c = buffers.made_again c.args.text.now c.args.words.now c.args.options c.in_ok-n.ensures c.if-out-n.false c.walk-then-n.ensures

pub returns : goal.returns
returns g c = buffers.handed_over c.args.text.now c.args.words.now c.args.options c.in_ok-n.ensures c.if-out-n.false (omega (arith, length-replicate {A = ℕ} g.row.ROOM 0, c.if-n.false)) c.copy_from_slice.ensures.after
