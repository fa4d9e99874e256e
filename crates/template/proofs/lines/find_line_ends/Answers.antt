-- The cells up to the offset tell of ends, by the laws of LineLaws. Assumes nothing.
use Rattle.template.proofs.LineLaws as laws
use Rattle.template.proofs.lines.find_line_ends.Goals as goal

pub loop-i-init : goal.loop-i-init
loop-i-init c =
    let a = c.args in
    laws.ending_begins a.text.now a.ends.now c.requires

pub loop-i-preserved : goal.loop-i-preserved
loop-i-preserved c =
    let a = c.args in
    laws.ending_on a.text.now c.loop-i.invariant c.loop-i-test.true c.line_across-line.ensures
