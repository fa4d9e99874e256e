-- By the first byte of the trimmed text, if there is one. Assumes nothing.
use native.Mathlib.Omega.{arith}
use mathlib.Core.Path.{◌∙◌}
use Rattle.support.proofs.TextLaws as text
use Rattle.support.proofs.str.starts_with_empty_line.Goals as goal

pub returns-in-empty : goal.returns-in-empty
returns-in-empty c = text.starts_none c.args.text.now c.trim_start_blanks.result.now c.trim_start_blanks.ensures (omega arith)

pub returns-in-len1-up : goal.returns-in-len1-up
returns-in-len1-up c = c.newline_matcher.ensures ∙ text.starts_at c.args.text.now c.trim_start_blanks.result.now c.trim_start_blanks.ensures (λ e. omega arith)
