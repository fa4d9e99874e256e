-- `card::read::read_field` meets its contract: each answer is a case of the definition, by how many digits there are and the byte behind them.
-- Assumes nothing.
use Rattle.card.proofs.FieldLaws as laws
use Rattle.card.proofs.read.read_field.Goals as goal
use Rattle.card.proofs.read.read_field.Goals.{then-end-at-via-then-end-at, then-end-at-via-else-end-at+then-end-at-gt-DIGITS, then-input-end-via-then-input-end, then-input-end-via-else-input-end+then-input-end-2}

pub returns-then-end-at : goal.returns-then-end-at
returns-then-end-at c =
    let d = c.read_digits-number.ensures in
    elim c.then-end-at.branch [
      | then-end-at-via-then-end-at w ↦ laws.field_empty c.args.mark d w.if-end-at.true
      | then-end-at-via-else-end-at+then-end-at-gt-DIGITS w ↦ laws.field_long c.args.mark d w.if-end-at.false w.if-end-at-gt-DIGITS.true
    ]

pub returns-then-input-end : goal.returns-then-input-end
returns-then-input-end c =
    let d = c.read_digits-number.ensures in
    elim c.then-input-end.branch [
      | then-input-end-via-then-input-end w ↦ laws.field_past c.args.mark d c.if-end-at.false c.if-end-at-gt-DIGITS.false w.if-input-end.true
      | then-input-end-via-else-input-end+then-input-end-2 w ↦
          laws.field_other c.args.mark d c.if-end-at.false c.if-end-at-gt-DIGITS.false w.if-input-end.false w.if-input-end-2.true
    ]

pub returns : goal.returns
returns c =
    laws.field_found c.args.mark c.read_digits-number.ensures c.if-end-at.false c.if-end-at-gt-DIGITS.false c.if-input-end.false c.if-input-end-2.false
