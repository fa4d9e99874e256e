-- By the start, the right-tilde mark and the tag. Assumes nothing.
use native.Mathlib.Omega.{arith}
use mathlib.Core.Path.{sym, ◌∙◌}
use Rattle.template.proofs.ReasonLaws as laws
use Rattle.template.proofs.reason.kept_gap.Goals as goal

pub returns-then-s-prev_end : goal.returns-then-s-prev_end
returns-then-s-prev_end c = laws.kept_touching (c.if-s-prev_end.true ∙ c.prev_end.ensures)

pub returns-then-m : goal.returns-then-m
returns-then-m c = laws.kept_tilde c.if-m.true

pub returns-in-1-to-3 : goal.returns-in-1-to-3
returns-in-1-to-3 c =
    laws.kept_no (λ e. c.if-s-prev_end.false (e ∙ sym c.prev_end.ensures)) c.if-m.false (omega arith) (omega arith)

pub returns-in_default : goal.returns-in_default
returns-in_default c = laws.kept_low (λ e. c.if-s-prev_end.false (e ∙ sym c.prev_end.ensures)) c.if-m.false (omega arith)

pub returns-in_default-2 : goal.returns-in_default-2
returns-in_default-2 c =
    laws.kept_high (λ e. c.if-s-prev_end.false (e ∙ sym c.prev_end.ensures)) c.if-m.false (omega arith)
