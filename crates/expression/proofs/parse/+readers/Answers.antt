-- The readers' cycle. Every measure counts the words from the reader's span on, five for each, and then the reader's place in the cycle, so
-- each call falls: a subexpression, an expression and a name start at the same span, and what they call after a span starts behind it. The
-- loop over the parts keeps what their block parameters and tildes come to. Assumes nothing.
use Rattle.expression.proofs.Laws as laws
use Rattle.expression.proofs.parse.+readers.Goals as goal

pub parse_parts-loop-part-preserved-in-BlockParam : goal.parse_parts-loop-part-preserved-in-BlockParam
parse_parts-loop-part-preserved-in-BlockParam t c = laws.reading_block c.loop-part.invariant (rw c.in-Some.is at c.in_ok-part.ensures).means c.in-BlockParam.is

pub parse_parts-loop-part-preserved-in-RightTilde : goal.parse_parts-loop-part-preserved-in-RightTilde
parse_parts-loop-part-preserved-in-RightTilde t c = laws.reading_tilde c.loop-part.invariant (rw c.in-Some.is at c.in_ok-part.ensures).means c.in-RightTilde.is

pub parse_parts-loop-part-preserved : goal.parse_parts-loop-part-preserved
parse_parts-loop-part-preserved t c =
    laws.reading_past c.loop-part.invariant (rw c.in-Some.is at c.in_ok-part.ensures).means c.in_default-part.not-BlockParam c.in_default-part.not-RightTilde

pub parse_parts-returns : goal.parse_parts-returns
parse_parts-returns t c = laws.reading_ends c.loop-part.invariant c.args.left c.args.name (rw c.in_default.is at c.in_ok-part.ensures).means

pub parse_subexpression-returns : goal.parse_subexpression-returns
parse_subexpression-returns t c =
    let a = c.args in
    laws.opened a.judged a.text.now a.words.now a.at a.limit a.depth c.if-depth-eq0.false c.in_ok-x.ensures
