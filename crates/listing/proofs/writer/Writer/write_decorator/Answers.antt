-- The call that its link gives, or an empty one. Assumes nothing.
use Rattle.expression.proofs.Cases as cases
use Rattle.listing.proofs.ChildWrites as children
use Rattle.listing.proofs.writer.Writer.write_decorator.Goals as goal

pub returns-in_default : goal.returns-in_default
returns-in_default c =
    let args = c.args in
    children.decorator_empty args.text.now args.words.now args.link (cases.expression_failed c.in_default.is c.parse_expression.ensures) c.put_bytes.ensures

pub returns : goal.returns
returns c =
    let args = c.args in
    children.decorator_written args.text.now args.words.now args.link (cases.expression_done c.in-Ok.is c.parse_expression.ensures) c.write_call.ensures
