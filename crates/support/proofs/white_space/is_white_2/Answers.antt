-- `support::white_space::is_white_2` meets its contract: the encodings of two bytes start with C2. Assumes nothing.
use lib.Dec.{eqb}
use borrow.Author.Tests.{ne_eqb}
use Rattle.support.specs.Bytes.{same_bytes}
use Rattle.support.specs.Utf8.{encode}
use Rattle.support.specs.WhiteSpace.{code_points, encodings, member_of, is_white}
use Rattle.support.proofs.WhiteLaws.{other_2, last}
use Rattle.support.proofs.white_space.is_white_2.Goals as goal

pub returns-then-a-ne194 : goal.returns-then-a-ne194
returns-then-a-ne194 c = let x = c.args in other_2 x.a x.b c.if-a-ne194.true

pub returns-then-b-eq133 : goal.returns-then-b-eq133
unfolding is_white member_of encodings code_points encode same_bytes
returns-then-b-eq133 c = rw (c.if-a-ne194.false, c.if-b-eq133.true)

pub returns-else-b-eq133 : goal.returns-else-b-eq133
unfolding is_white member_of encodings code_points encode same_bytes
returns-else-b-eq133 c = let b = c.args.b in rw (c.if-a-ne194.false, ne_eqb b 0x85 c.if-b-eq133.false) (last (eqb b 0xA0))
