-- The loop holds the keys of the parts that it has passed. Assumes nothing.
use mathlib.Core.Path.{◌∙◌}
use Rattle.std.proofs.Common.{rules}
use Rattle.expression.proofs.Cases as cases
use Rattle.listing.proofs.HeldKeys as laws
use Rattle.listing.proofs.keys.hold_keys.Goals as goal

pub returns-in_err-count : goal.returns-in_err-count
returns-in_err-count c =
    let i = (rw c.in-Ok-Some.field-0-is at c.in-Ok-Some.ensures).means in
    rw c.from_residual.ensures (record { means = laws.holding_full c.loop-x.invariant.0 c.in-Ok-Some.x i c.hold_part.auto.held c.in_err-count.ensures })

pub loop-x-preserved : goal.loop-x-preserved
loop-x-preserved c =
    let i = (rw c.in-Ok-Some.field-0-is at c.in-Ok-Some.ensures).means in
    let l = c.loop-x in (
      laws.holding_on l.invariant.0 c.in-Ok-Some.x i c.in_ok-count.ensures,
      c.hold_part.auto.held ∙ l.invariant.1,
    )

pub returns-in_default : goal.returns-in_default
returns-in_default c = record { means = laws.holding_ends c.loop-x.invariant.0 (cases.part_none (search rules) c.next_part.ensures) }
