-- `card::stored::Replay::run` meets its contract: each record's text and words are given to `show`. Assumes nothing.
use Rattle.std.proofs.Common.{rules, refl, ap, ◌∙◌, Err}
use Rattle.std.proofs.lemmas.Result.{err_from_is_err_and}
use Rattle.card.proofs.ReplayLaws as laws
use Rattle.card.proofs.stored.Replay.run.Goals as goal

pub loop-text-preserved : goal.loop-text-preserved
loop-text-preserved g c =
    let i = c.loop-text.invariant in
    record { same = search rules; goes = λ r h. i.goes r (laws.goes_on _ i.same c.in-Some.ensures.steps c.read_words-n.ensures (c.in-Some.text, _, refl, refl, c.in_ok-show.ensures.0) r h) }

pub returns-in_err-show : goal.returns-in_err-show
returns-in_err-show g c =
    let i = c.loop-text.invariant in
    let e = err_from_is_err_and c.from_residual.result c.from_residual.ensures.1 in
    rw (e.1 ∙ ap Err e.2) (i.goes _ (laws.stops _ i.same c.in-Some.ensures.steps c.read_words-n.ensures (c.in-Some.text, _, refl, refl, c.in_err-show.ensures.0) refl))

pub returns : goal.returns
returns g c = c.loop-text.invariant.goes _ (rw (laws.records_end _ c.in-None.ensures.steps) refl)
