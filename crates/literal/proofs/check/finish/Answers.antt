-- The end with brackets open, and with none.
use mathlib.Core.Bool.{true, false}
use mathlib.Core.Path.{sym, ◌∙◌}
use Rattle.literal.specs.Means.{mode_means}
use Rattle.literal.proofs.StateLaws as state
use Rattle.literal.proofs.check.finish.Goals as goal
use Rattle.literal.proofs.check.finish.Goals.{else-state-eq0-via-then-state-eq0+else-mode_ends, else-state-eq0-via-else-state-eq0}

pub returns-then-mode_ends : goal.returns-then-mode_ends
returns-then-mode_ends c =
    let s = c.args.state in
    state.end_closed s.brackets.depth s.brackets.bits (mode_means s.mode) true c.if-state-eq0.true (sym c.mode_ends.ensures ∙ c.if-mode_ends.true)

pub returns : goal.returns
returns c =
    let s = c.args.state in
    elim c.else-state-eq0.branch [
      | else-state-eq0-via-then-state-eq0+else-mode_ends w ↦ state.end_closed s.brackets.depth s.brackets.bits (mode_means s.mode) false w.if-state-eq0.true (sym w.mode_ends.ensures ∙ w.if-mode_ends.false)
      | else-state-eq0-via-else-state-eq0 w ↦ state.end_open s.brackets.depth s.brackets.bits (mode_means s.mode) w.if-state-eq0.false
    ]
