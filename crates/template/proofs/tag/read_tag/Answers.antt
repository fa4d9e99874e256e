-- Tag 10, and the others. Assumes nothing.
use Rattle.template.proofs.TagLaws as laws
use Rattle.template.proofs.tag.read_tag.Goals as goal

pub returns : goal.returns
returns c =
    let x = c.args.visit.now in
    laws.tag_own x.input.now.text.now x.input.now.words.now x.span c.read_own.result c.if-s-eq10.false c.read_own.ensures
