-- Each answer is the law of the limit that it asks.
use mathlib.Core.Path.{sym, ◌∙◌}
use Rattle.literal.proofs.StateLaws as state
use Rattle.literal.proofs.check.within.Goals as goal
use Rattle.literal.proofs.check.within.Goals.{else-brackets-le-DEPTH-via-then-brackets-le-DEPTH+else-mode_fits, else-brackets-le-DEPTH-via-else-brackets-le-DEPTH}

pub returns-then-mode_fits : goal.returns-then-mode_fits
returns-then-mode_fits c =
    let a = c.args in
    state.in_limits a.brackets a.mode c.if-brackets-le-DEPTH.true (sym c.mode_fits.ensures ∙ c.if-mode_fits.true)

pub returns : goal.returns
returns c =
    let a = c.args in
    elim c.else-brackets-le-DEPTH.branch [
      | else-brackets-le-DEPTH-via-then-brackets-le-DEPTH+else-mode_fits w ↦ state.too_long a.brackets a.mode w.if-brackets-le-DEPTH.true (sym w.mode_fits.ensures ∙ w.if-mode_fits.false)
      | else-brackets-le-DEPTH-via-else-brackets-le-DEPTH w ↦ state.too_deep a.brackets a.mode w.if-brackets-le-DEPTH.false
    ]
