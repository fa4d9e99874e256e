-- The step of a template span is the one that VisitLaws has. Assumes nothing.
use Rattle.template.proofs.VisitLaws as laws
use Rattle.template.proofs.input.Visit.template.Goals as goal

pub returns : goal.returns
returns c =
    let x = c.args.self.now in
    laws.template_step x.input.now.text.now x.input.now.words.now x.input.now.options x.view x.span x.here x.gap c.requires
