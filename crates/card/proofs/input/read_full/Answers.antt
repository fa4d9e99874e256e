-- `card::input::read_full` meets its contract: each read goes on behind the one before it. Assumes nothing.
use Rattle.std.proofs.Common.{arith}
use Rattle.card.proofs.Inputs as laws
use Rattle.card.proofs.input.read_full.Goals as goal

pub loop-done-preserved : goal.loop-done-preserved
loop-done-preserved g c =
    let l = c.loop-done in
    let read = c.in_ok-n.ensures in
    record {
      within = grind (arith, read.bound.0);
      front = laws.reads_more _ _ _ l.buf l.done l.invariant.within l.invariant.front c.read.new.buf _ c.in_ok-n.n read.bound.0 read.bytes.0;
    }
