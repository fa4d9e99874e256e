-- By the byte at the front, and after CR by the next one. Assumes nothing.
use native.Mathlib.Omega.{arith}
use mathlib.Core.Path.{refl, sym, ◌∙◌}
use Rattle.template.proofs.CutNewline as newline
use Rattle.template.proofs.raw.Pieces.strip_newline.Goals as goal

pub returns-then-c : goal.returns-then-c
returns-then-c c = newline.strip_empty c.skip_removed-c.ensures c.if-c.true

pub returns-then-b-ne13 : goal.returns-then-b-ne13
returns-then-b-ne13 c =
    let byte = c.byte_at-b.ensures in
    newline.strip_other c.skip_removed-c.ensures c.if-c.false (λ e. c.if-b-ne10.true (byte ∙ e)) (λ e. c.if-b-ne13.true (byte ∙ e))

pub invariant_of-after : goal.invariant_of-after
invariant_of-after c =
    record { good = (newline.strip_feed c.skip_removed-c.ensures c.if-c.false (sym c.byte_at-b.ensures ∙ c.if-b-eq10.true) refl).good }

pub returns-then-b-eq10 : goal.returns-then-b-eq10
returns-then-b-eq10 c = newline.strip_feed c.skip_removed-c.ensures c.if-c.false (sym c.byte_at-b.ensures ∙ c.if-b-eq10.true) refl

pub invariant_of-after-2 : goal.invariant_of-after-2
invariant_of-after-2 c =
    let skipped = c.skip_removed-c.ensures in
    record { good = newline.return_good skipped c.if-c.false (omega (arith, c.byte_at-b.ensures, c.else-b-ne10.either, c.if-b-eq10.false)) refl }

pub returns-then-d : goal.returns-then-d
returns-then-d c =
    let skipped = c.skip_removed-c.ensures in
    newline.return_end skipped c.if-c.false (omega (arith, c.byte_at-b.ensures, c.else-b-ne10.either, c.if-b-eq10.false)) refl c.skip_removed-d.ensures c.if-d.true

pub invariant_of-result : goal.invariant_of-result
invariant_of-result c =
    let skipped = c.skip_removed-c.ensures in
    record { good = (newline.return_feed skipped c.if-c.false (omega (arith, c.byte_at-b.ensures, c.else-b-ne10.either, c.if-b-eq10.false)) refl c.skip_removed-d.ensures c.if-d.false (sym c.byte_at-e.ensures ∙ c.if-e-eq10.true) refl).good }

pub returns-then-e-eq10 : goal.returns-then-e-eq10
returns-then-e-eq10 c =
    let skipped = c.skip_removed-c.ensures in
    newline.return_feed skipped c.if-c.false (omega (arith, c.byte_at-b.ensures, c.else-b-ne10.either, c.if-b-eq10.false)) refl c.skip_removed-d.ensures c.if-d.false (sym c.byte_at-e.ensures ∙ c.if-e-eq10.true) refl

pub returns : goal.returns
returns c =
    let skipped = c.skip_removed-c.ensures in
    newline.return_other skipped c.if-c.false (omega (arith, c.byte_at-b.ensures, c.else-b-ne10.either, c.if-b-eq10.false)) refl c.skip_removed-d.ensures c.if-d.false (λ e. c.if-e-eq10.false (c.byte_at-e.ensures ∙ e))
