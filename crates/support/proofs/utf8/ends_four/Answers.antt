-- The first two bytes fit, and then the last decides. Assumes nothing.
use Rattle.support.specs.Utf8.{to}
use Rattle.support.proofs.Utf8Laws.{four_none, four_last}
use Rattle.support.proofs.utf8.ends_four.Goals as goal

pub returns-then-ends_three : goal.returns-then-ends_three
returns-then-ends_three c = let x = c.args in four_last (to x.low x.high) x.b x.c x.d c.ends_three.ensures c.if-ends_three.true c.is_tail.ensures

pub returns-else-ends_three : goal.returns-else-ends_three
returns-else-ends_three c = let x = c.args in four_none (to x.low x.high) x.b x.c x.d c.ends_three.ensures c.if-ends_three.false
