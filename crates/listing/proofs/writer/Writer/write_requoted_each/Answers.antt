-- What writes the bytes left writes the whole. Assumes nothing.
use Rattle.listing.proofs.RequoteWrites as requotes
use Rattle.listing.proofs.Writers as writers
use Rattle.listing.proofs.writer.Writer.write_requoted_each.Goals as goal

pub returns : goal.returns
returns c =
    let l = c.loop-b in
    writers.quoted_done _ c.put.ensures (requotes.requoted_end c.args.inner.now l.place l.invariant c.in_default.is c.next_quoted.ensures) c.put-2.ensures

pub loop-b-preserved : goal.loop-b-preserved
loop-b-preserved c =
    requotes.requoted_next c.args.inner.now c.loop-b.place _ c.loop-b.invariant (requotes.left_byte c.args.inner.now c.loop-b.place c.in-Some.is c.next_quoted.ensures) c.put_escaped.ensures
