-- By cases on both names. Assumes nothing.
use Rattle.template.proofs.ReasonLaws as laws
use Rattle.template.proofs.reason.same_name.Goals as goal

pub returns-in-Some-Some : goal.returns-in-Some-Some
returns-in-Some-Some c =
    let s = c.in-Some-Some in
    laws.same_names c.args.text.now s.is-0 s.is-1 c.text.ensures c.text-in-Some-Some.ensures c.same_bytes.ensures
