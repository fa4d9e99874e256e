-- The cells up to the offset tell of ends, by the laws of LineLaws. Assumes nothing.
use Rattle.template.proofs.LineLaws as laws
use Rattle.template.proofs.lines.find_line_ends.Given as goal

abbrev pub invariant-loop-i : goal.invariant-loop-i
invariant-loop-i l = laws.Ending l.text l.initial.ends l.ends l.i l.line
