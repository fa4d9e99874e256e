-- The cells from the offset on tell of starts, by the laws of LineLaws. Assumes nothing.
use Rattle.template.proofs.LineLaws as laws
use Rattle.template.proofs.lines.find_line_starts.Given as goal

abbrev pub invariant-loop-i : goal.invariant-loop-i
invariant-loop-i l = laws.Starting l.text l.initial.starts l.starts l.i l.line
