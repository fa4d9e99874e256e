-- The act on the open brackets is the step; the limits are then asked.
use mathlib.Core.Path.{sym, ap, ◌∙◌}
use Rattle.literal.specs.Means.{applied, brackets_mean, mode_means}
use Rattle.literal.specs.Scan.{on}
use Rattle.literal.proofs.StateLaws as state
use Rattle.literal.proofs.check.feed.Goals as goal

pub returns-in-Stay : goal.returns-in-Stay
returns-in-Stay c =
    state.fed_on c.mode_act.ensures c.top.ensures (ap (applied (brackets_mean c.args.state.brackets)) c.in-Stay.is) c.within.ensures

pub returns-in-Push : goal.returns-in-Push
returns-in-Push c =
    state.fed_on c.mode_act.ensures c.top.ensures
    (ap (applied (brackets_mean c.args.state.brackets)) c.in-Push.is ∙ ap (λ l. on l (mode_means c.in-Push.mode)) (sym c.push.ensures))
    c.within-in-Push.ensures

pub returns-in-Pop : goal.returns-in-Pop
returns-in-Pop c =
    state.fed_on c.mode_act.ensures c.top.ensures
    (ap (applied (brackets_mean c.args.state.brackets)) c.in-Pop.is ∙ ap (λ l. on l (mode_means c.in-Pop.mode)) (sym c.pop.ensures))
    c.within-in-Pop.ensures

pub returns-in-Invalid : goal.returns-in-Invalid
returns-in-Invalid c = state.fed_invalid c.mode_act.ensures c.top.ensures c.in-Invalid.is
