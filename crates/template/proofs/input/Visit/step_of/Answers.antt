-- The step of a tag is the one that TagSteps has, from what its parts are. Assumes nothing.
use Rattle.template.proofs.TagSteps as laws
use Rattle.template.proofs.input.Visit.step_of.Goals as goal

pub returns : goal.returns
returns c =
    let x = c.args.self.now in
    let gap_of = c.gap_of in
    let but_not = c.but_not-line in
    let process_standalone_statement = c.process_standalone_statement-standalone in
    let is_cut = c.is_cut-cut in
    let trim_of = c.trim_of in
    let but_not2 = c.but_not-mark in
    let is_indented = c.is_indented-indent in
    let element_of = c.element_of in
    let named = c.named-e in
    let act_of = c.act_of in
    laws.tag_makes x.input.now.text.now x.input.now.words.now x.input.now.options x.view x.span x.here c.args.x (laws.gap_stage x.gap x.view.marks.stage) x.gap
    gap_of.ensures (laws.gap_stage_lem x.gap x.view.marks.stage) but_not.ensures process_standalone_statement.ensures is_cut.ensures
    trim_of.ensures c.stage_of.ensures c.line_mark.ensures but_not2.ensures is_indented.ensures
    element_of.ensures named.ensures act_of.ensures
