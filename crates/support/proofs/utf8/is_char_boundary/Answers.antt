-- `support::utf8::is_char_boundary` meets its contract: the test decides whether the offset is in the text. Assumes nothing.
use mathlib.Core.Path.{ap, ◌∙◌}
use mathlib.Core.Bool.{not}
use borrow.Author.Tests.{le-leb, lt-leb}
use lib.ListN.{length}
use Rattle.support.specs.Utf8.{is_tail, is_char_boundary}
use Rattle.support.proofs.utf8.is_char_boundary.Goals as goal

pub returns-then-s-n : goal.returns-then-s-n
unfolding is_char_boundary
returns-then-s-n c = let x = c.args in rw (lt-leb x.n (length x.s.now) c.if-s-n.true)

pub returns : goal.returns
unfolding is_char_boundary
returns c =
    let x = c.args in
    rw (le-leb x.n (length x.s.now) c.if-s-n.false) (ap not (c.is_tail.ensures ∙ ap is_tail c.byte_at.ensures))
