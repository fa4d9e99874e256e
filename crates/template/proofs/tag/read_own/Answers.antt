-- By what the expression's reader answers. Assumes nothing.
use Rattle.template.proofs.TagLaws as laws
use Rattle.template.proofs.tag.read_own.Goals as goal

pub returns-then-left : goal.returns-then-left
returns-then-left c =
    let a = c.args in
    laws.own_done a.input.now.text.now a.input.now.words.now a.from a.limit a.left c.in_ok-x.ensures (rw c.if-left.true)

pub returns-else-left : goal.returns-else-left
returns-else-left c =
    let a = c.args in
    laws.own_done a.input.now.text.now a.input.now.words.now a.from a.limit a.left c.in_ok-x.ensures (rw c.if-left.false)
