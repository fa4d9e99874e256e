-- `support::str::find_trailing_whitespace_chars` meets its contract: what is left of the text after the trimmed one. Assumes nothing.
use native.Mathlib.Omega.{arith}
use mathlib.Core.Path.{ap}
use lib.ListN.{length}
use Rattle.support.proofs.TextLaws as text
use Rattle.support.proofs.str.find_trailing_whitespace_chars.Goals as goal

pub slice_bounds-result-count : goal.slice_bounds-result-count
slice_bounds-result-count c = omega (arith, text.end_blanks_le c.args.s.now, ap length c.trim_end_blanks-trimmed.ensures)

pub slice_bounds-result-start : goal.slice_bounds-result-start
slice_bounds-result-start c = omega (arith, text.end_blanks_le c.args.s.now, ap length c.trim_end_blanks-trimmed.ensures)

pub returns : goal.returns
returns c = text.trailing_at c.args.s.now _ c.trim_end_blanks-trimmed.ensures
