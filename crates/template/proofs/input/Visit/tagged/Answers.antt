-- 8, 9 and 12 as met, another refusal, or the step: one law of SpanVisits each. Assumes nothing.
use Rattle.template.proofs.SpanCases as cases
use Rattle.template.proofs.SpanVisits as laws
use Rattle.template.proofs.input.Visit.tagged.Goals as goal

pub returns-in-Err : goal.returns-in-Err
returns-in-Err c =
    let x = c.args.self.now in
    laws.tag_failed x.input.now.text.now x.input.now.words.now x.input.now.options x.view x.span x.gap x.here c.requires.first_tag c.requires.last_tag
    (cases.tag_failed c.in-Err.is c.read_tag.ensures) c.span_count.ensures c.from.ensures c.fault_place.ensures

pub returns-in-Some : goal.returns-in-Some
returns-in-Some c =
    let x = c.args.self.now in
    laws.tag_refused x.input.now.text.now x.input.now.words.now x.input.now.options x.view x.span x.gap x.here c.requires.first_tag c.requires.last_tag
    (cases.tag_done c.in-Ok.is c.read_tag.ensures) c.as_name-end.ensures c.refusal_of.ensures c.in-Some.is

pub returns-in_default : goal.returns-in_default
returns-in_default c =
    let x = c.args.self.now in
    laws.tag_steps x.input.now.text.now x.input.now.words.now x.input.now.options x.view x.span x.gap x.here c.requires.first_tag c.requires.last_tag
    (cases.tag_done c.in-Ok.is c.read_tag.ensures) c.as_name-end.ensures c.refusal_of.ensures c.in_default.is c.step_of.ensures
