-- `card::read::read_card` meets its contract: its answers are the cases of `read_card`, and what was read over no words left the lent ones as
-- they were. Assumes nothing.
use Rattle.card.proofs.FieldLaws as fields
use Rattle.card.proofs.CardLaws as laws
use Rattle.card.proofs.read.read_card.Goals as goal
use Rattle.card.proofs.read.read_card.Goals.{then-input-end-via-then-input-end, then-input-end-via-else-input-end+then-input-end-ne10}

pub returns-then-input-gt-LIMIT : goal.returns-then-input-gt-LIMIT
returns-then-input-gt-LIMIT c = laws.too_long c.args.input.now c.args.words.now c.if-input-gt-LIMIT.true

pub returns-in_err-options : goal.returns-in_err-options
returns-in_err-options c =
    rw c.from_residual.ensures (laws.no_options c.if-input-gt-LIMIT.false c.args.words.now (fields.number_none c.in_err-options.was c.read_field.ensures))

pub returns-then-input-end : goal.returns-then-input-end
returns-then-input-end c =
    let f = fields.number_found c.in_ok-options.was c.read_field.ensures in
    let g = c.read_lines-probe.ensures in
    let l = c.args.words.now in
    elim c.then-input-end.branch [
      | then-input-end-via-then-input-end w ↦ laws.ended c.if-input-gt-LIMIT.false f g l w.if-input-end.true
      | then-input-end-via-else-input-end+then-input-end-ne10 w ↦
          laws.not_empty c.if-input-gt-LIMIT.false f g l w.if-input-end.false w.if-input-end-ne10.true
    ]

pub returns : goal.returns
returns c =
    let f = fields.number_found c.in_ok-options.was c.read_field.ensures in
    laws.card_found c.if-input-gt-LIMIT.false f c.read_lines-probe.ensures c.args.words.now c.if-input-end.false c.if-input-end-ne10.false c.read_lines-lines.ensures
