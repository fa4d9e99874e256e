-- The step of a skipped span is the one that VisitLaws has. Assumes nothing.
use Rattle.template.proofs.VisitLaws as laws
use Rattle.template.proofs.input.Visit.skipped.Goals as goal

pub returns : goal.returns
returns c =
    let x = c.args.self.now in
    let stage_after_gap = c.stage_after_gap in
    let gap_of = c.gap_of in
    laws.skipped_step x.input.now.text.now x.input.now.words.now x.input.now.options x.view x.span x.here stage_after_gap.result x.gap gap_of.ensures stage_after_gap.ensures c.but_not.ensures c.requires
