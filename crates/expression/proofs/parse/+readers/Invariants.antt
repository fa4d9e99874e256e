-- The readers' cycle. Every measure counts the words from the reader's span on, five for each, and then the reader's place in the cycle, so
-- each call falls: a subexpression, an expression and a name start at the same span, and what they call after a span starts behind it. The
-- loop over the parts keeps what their block parameters and tildes come to. Assumes nothing.
use Prim.Native.Nat.{◌+◌, ◌-◌, ◌*◌}
use lib.ListN.{length}
use Rattle.expression.proofs.Laws as laws
use Rattle.expression.proofs.parse.+readers.Given as goal

abbrev pub decreases-next_part : goal.decreases-next_part
decreases-next_part l = 5 * (length l.words.now - l.parts.from) + 0

abbrev pub decreases-parse_expression : goal.decreases-parse_expression
decreases-parse_expression l = 5 * (length l.words.now - l.at) + 3

abbrev pub decreases-parse_hash : goal.decreases-parse_hash
decreases-parse_hash l = 5 * (length l.words.now - l.at) + 2

abbrev pub decreases-parse_name : goal.decreases-parse_name
decreases-parse_name l = 5 * (length l.words.now - l.at) + 2

abbrev pub decreases-parse_param : goal.decreases-parse_param
decreases-parse_param l = 5 * (length l.words.now - l.at) + 2

abbrev pub decreases-parse_parts : goal.decreases-parse_parts
decreases-parse_parts l = 5 * (length l.words.now - l.parts.from) + 1

abbrev pub decreases-parse_subexpression : goal.decreases-parse_subexpression
decreases-parse_subexpression l = 5 * (length l.words.now - l.at) + 4

abbrev pub decreases-parse_value : goal.decreases-parse_value
decreases-parse_value l = 5 * (length l.words.now - l.s.number) + 1

abbrev pub invariant-parse_parts-loop-part : goal.invariant-parse_parts-loop-part
invariant-parse_parts-loop-part l = laws.Reading l.judged l.text l.words l.parts l.rest l.block l.right

abbrev pub decreases-parse_parts-loop-part : goal.decreases-parse_parts-loop-part
decreases-parse_parts-loop-part l = length l.words - l.rest.from
