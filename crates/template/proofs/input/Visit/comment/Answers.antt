-- The step of a comment is the one that VisitLaws has. Assumes nothing.
use mathlib.Core.Path.{refl}
use lib.Dec.{eqb}
use Rattle.template.proofs.VisitLaws as laws
use Rattle.template.proofs.input.Visit.comment.Goals as goal

pub returns : goal.returns
returns c =
    let x = c.args.self.now in
    let gap_of = c.gap_of in
    let process_standalone_statement = c.process_standalone_statement-standalone in
    let comment_of = c.comment_of-e in
    let trim_of = c.trim_of in
    laws.comment_step_lem x.input.now.text.now x.input.now.words.now x.input.now.options x.view x.span x.here c.stage_after_gap.result x.gap gap_of.ensures c.stage_after_gap.ensures refl process_standalone_statement.ensures comment_of.result (eqb x.span.tag 19) trim_of.ensures c.requires.first_tag c.requires.last_tag refl comment_of.ensures
