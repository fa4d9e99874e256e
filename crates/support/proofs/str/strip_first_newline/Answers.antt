-- A clause of `strip_first_newline` for each way out. Assumes nothing.
use Rattle.std.proofs.Common.{rules}
use Rattle.support.proofs.TextLaws as text
use Rattle.support.proofs.str.strip_first_newline.Goals as goal

pub returns-in-Some : goal.returns-in-Some
returns-in-Some c = let e = c.in-Some.ensures.cases in text.strip_crlf c.args.s.now e.0 (search rules)

pub returns-in-Some-strip_prefix : goal.returns-in-Some-strip_prefix
returns-in-Some-strip_prefix c = let e = c.in-Some-strip_prefix.ensures.cases in text.strip_lf c.args.s.now e.0 e.1

pub returns-in_default-strip_prefix : goal.returns-in_default-strip_prefix
returns-in_default-strip_prefix c = text.strip_kept c.args.s.now c.in_default.ensures.cases c.in_default-strip_prefix.ensures.cases
