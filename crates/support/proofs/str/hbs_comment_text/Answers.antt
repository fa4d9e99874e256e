-- `support::str::hbs_comment_text` meets its contract: the two trims, one after the other, at the marks of tag 20. Assumes nothing.
use mathlib.Core.Path.{ap, ◌∙◌}
use Rattle.support.specs.TextRules.{comment_text, trim_end_matches}
use Rattle.support.specs.Bytes.{ascii}
use Rattle.support.proofs.str.hbs_comment_text.Goals as goal

pub returns : goal.returns
unfolding comment_text
returns c = c.trim_end_matches.ensures ∙ ap (trim_end_matches (ascii "--}}")) c.trim_start_matches.ensures
