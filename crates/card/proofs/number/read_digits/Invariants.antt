-- `card::number::read_digits` meets its contract: what is read from the index on, after the value so far, is what is read from the start on.
-- Assumes nothing.
use Rattle.std.proofs.Common.{◌≡◌, ◌+◌}
use Rattle.card.proofs.Numbers as numbers
use Rattle.card.proofs.number.read_digits.Given as goal

abbrev pub invariant-loop-c : goal.invariant-loop-c
invariant-loop-c l = record { read : numbers.Reading l.c-items l.value l.c-index; end : l.end ≡ l.at + l.c-index }
