-- By what the readers of the tilde, the name and the expression answer in turn. Assumes nothing.
use Rattle.template.proofs.Exits.{handed_on}
use Rattle.template.proofs.TagLaws as laws
use Rattle.template.proofs.tag.read_chain.Goals as goal

pub returns-in_err-left : goal.returns-in_err-left
returns-in_err-left c =
    let x = c.args.visit.now in
    rw (handed_on c.from_residual.ensures.1) (laws.chain_ended x.input.now.text.now x.input.now.words.now x.span c.in_err-left.ensures)

pub returns-in_err-next : goal.returns-in_err-next
returns-in_err-next c =
    let x = c.args.visit.now in
    rw (handed_on c.from_residual-in_err-next.ensures.1) (laws.chain_no_name x.input.now.text.now x.input.now.words.now x.span c.in_ok-left.ensures c.in_err-next.ensures.reads)

pub returns : goal.returns
returns c =
    let x = c.args.visit.now in
    laws.chain_own x.input.now.text.now x.input.now.words.now x.span c.in_ok-left.ensures c.in_ok-next.ensures c.read_own.result c.read_own.ensures
