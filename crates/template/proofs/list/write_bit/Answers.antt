-- By the bit. Assumes nothing.
use Rattle.template.proofs.ElementWrites as elements
use Rattle.template.proofs.list.write_bit.Goals as goal

pub returns-then-b : goal.returns-then-b
returns-then-b c = elements.bit_set c.if-b.true c.put_bytes.ensures

pub returns : goal.returns
returns c = elements.bit_clear c.if-b.false c.put_bytes-2.ensures
