-- A byte past the end is read as 0, which no range of a later byte holds. Assumes nothing.
use mathlib.Core.Path.{ap, ◌∙◌}
use Rattle.support.specs.Code.Lengths.{as_option}
use Rattle.support.proofs.Utf8Laws.{char_at_offset}
use Rattle.support.proofs.utf8.char_at.Goals as goal

pub returns : goal.returns
returns c =
    let x = c.before.before.before.before.before.before in
    c.char_len.ensures
    ∙ rw (c.byte_at.ensures, c.byte_at-2.ensures, c.byte_at-3.ensures)
    (ap as_option (char_at_offset x.args.s.now x.args.i x.requires))
