-- The bytes passed are written as quoted text has them; a turn copies bytes that have no escape and writes the next. Assumes nothing.
use Prim.Native.Nat.{◌-◌}
use native.Mathlib.Omega.{arith}
use mathlib.Core.Path.{refl, sym}
use lib.ListN.{length, get_or, drop, length-take}
use Rattle.std.proofs.lemmas.Slice.{first_rest}
use Rattle.listing.specs.Quoted.{escaped}
use Rattle.listing.proofs.Writers as writers
use Rattle.listing.proofs.Writes as writes
use Rattle.listing.proofs.writer.Writer.write_runs.Goals as goal

pub loop-marked-init : goal.loop-marked-init
unfolding escaped
loop-marked-init c = (c.requires, writes.passed_none _ refl (writers.wrote_none _))

pub returns-in_default : goal.returns-in_default
returns-in_default c =
    let s = c.split_at in
    let q = rw (sym s.ensures.front) at c.plain_front.ensures.1 in
    writes.passed_all (omega arith) (writers.escaped_run c.loop-marked.invariant.1 s.result.0.now s.result.1.now s.ensures.by_index.0 q c.put_bytes.ensures)

pub loop-marked-preserved : goal.loop-marked-preserved
loop-marked-preserved c =
    let s = c.split_at in
    let q = rw (sym s.ensures.front) at c.plain_front.ensures.1 in
    let run = writers.escaped_run c.loop-marked.invariant.1 s.result.0.now s.result.1.now s.ensures.by_index.0 q c.put_bytes.ensures in
    (omega (arith, s.ensures.back_len, length-take (length s.result.1.now - 1) (drop 1 s.result.1.now), c.loop-marked.invariant.0), writers.escaped_byte run _ (get_or s.result.1.now 0 0) (first_rest s.result.1.now 0 (omega arith)) c.put_escaped.ensures)
