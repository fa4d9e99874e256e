-- 13, or the step of a text or of a raw body that VisitLaws has, by the tag. Assumes nothing.
use native.Mathlib.Omega.{arith}
use mathlib.Core.Path.{sym, ◌∙◌}
use Rattle.template.proofs.VisitLaws as laws
use Rattle.template.proofs.input.Visit.raw_string.Goals as goal
use Rattle.template.proofs.input.Visit.raw_string.Goals.{then-is_block, else-is_block}

pub returns-then-bad_escapes : goal.returns-then-bad_escapes
returns-then-bad_escapes c =
    let x = c.args.self.now in
    let bad = sym c.bad_escapes.ensures ∙ c.if-bad_escapes.true in
    elim c.if-is_block.branch [
      | then-is_block w ↦ laws.raw_bad x.input.now.text.now x.input.now.words.now x.input.now.options x.view x.span x.here c.if-is_block.start (omega (arith, w.if-is_block)) w.start-is bad
      | else-is_block w ↦ laws.text_bad x.input.now.text.now x.input.now.words.now x.input.now.options x.view x.span x.here c.if-is_block.start (omega (arith, w.if-is_block, c.requires.first_tag, c.requires.last_tag)) (w.start-is ∙ w.prev_end-start.ensures) bad
    ]

pub returns-then-is_block-2 : goal.returns-then-is_block-2
returns-then-is_block-2 c =
    let x = c.args.self.now in
    rw c.text_step.ensures
    (laws.raw_step x.input.now.text.now x.input.now.words.now x.input.now.options x.view x.span x.here c.if-is_block.start (omega (arith, c.if-is_block-2.true))
    (elim c.if-is_block.branch [ then-is_block w ↦ w.start-is | else-is_block w ↦ absurd (omega (arith, w.if-is_block, c.if-is_block-2.true)) ])
    (sym c.bad_escapes.ensures ∙ c.if-bad_escapes.false))

pub returns-else-is_block-2 : goal.returns-else-is_block-2
returns-else-is_block-2 c =
    let x = c.args.self.now in
    rw c.text_step-else-is_block-2.ensures
    (laws.text_step_lem x.input.now.text.now x.input.now.words.now x.input.now.options x.view x.span x.here c.if-is_block.start (omega (arith, c.if-is_block-2.false, c.requires.first_tag, c.requires.last_tag))
    (elim c.if-is_block.branch [ then-is_block w ↦ absurd (omega (arith, w.if-is_block, c.if-is_block-2.false)) | else-is_block w ↦ w.start-is ∙ w.prev_end-start.ensures ])
    (sym c.bad_escapes.ensures ∙ c.if-bad_escapes.false))
