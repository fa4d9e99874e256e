-- `template::list::write_element` meets its contract: by the element; its numbers fit their types, so its place is short. Assumes nothing.
use Rattle.template.proofs.ElementWrites as elements
use Rattle.template.proofs.ShortOpening as short
use Rattle.template.proofs.list.write_element.Goals as goal

pub returns-in-Empty : goal.returns-in-Empty
returns-in-Empty c =
    let args = c.args in
    (elements.nothing_written args.input.now.text.now args.input.now.words.now args.e c.in-Empty.is, short.opening_short _ _ args.input.now.good args.e (short.place_small args.e _ c.well_formed.1.1.0))

pub returns-in-RawString : goal.returns-in-RawString
returns-in-RawString c =
    let args = c.args in
    (elements.text_written args.input.now.text.now args.input.now.words.now args.e c.in-RawString.is c.write_text.ensures, short.opening_short _ _ args.input.now.good args.e (short.place_small args.e _ c.well_formed.1.1.0))

pub returns-in-Comment : goal.returns-in-Comment
returns-in-Comment c =
    let args = c.args in
    (elements.comment_written args.input.now.text.now args.input.now.words.now args.e c.in-Comment.is c.write_comment.ensures, short.opening_short _ _ args.input.now.good args.e (short.place_small args.e _ c.well_formed.1.1.0))

pub returns-in-Expression : goal.returns-in-Expression
returns-in-Expression c =
    let args = c.args in
    (elements.expr_written args.input.now.text.now args.input.now.words.now args.e c.in-Expression.is c.write_expression.ensures, short.opening_short _ _ args.input.now.good args.e (short.place_small args.e _ c.well_formed.1.1.0))

pub returns-in-HtmlExpression : goal.returns-in-HtmlExpression
returns-in-HtmlExpression c =
    let args = c.args in
    (elements.html_written args.input.now.text.now args.input.now.words.now args.e c.in-HtmlExpression.is c.write_expression-in-HtmlExpression.ensures, short.opening_short _ _ args.input.now.good args.e (short.place_small args.e _ c.well_formed.1.1.0))

pub returns-in-HelperBlock : goal.returns-in-HelperBlock
returns-in-HelperBlock c =
    let args = c.args in
    (elements.block_written args.input.now.text.now args.input.now.words.now args.e c.in-HelperBlock.is c.write_block.ensures, short.opening_short _ _ args.input.now.good args.e (short.place_small args.e _ c.well_formed.1.1.0))

pub returns-in-DecoratorExpression : goal.returns-in-DecoratorExpression
returns-in-DecoratorExpression c =
    let args = c.args in
    (elements.decor_written args.input.now.text.now args.input.now.words.now args.e c.in-DecoratorExpression.is c.write_decorated.ensures c.put_bytes.ensures, short.opening_short _ _ args.input.now.good args.e (short.place_small args.e _ c.well_formed.1.1.0))

pub returns-in-PartialExpression : goal.returns-in-PartialExpression
returns-in-PartialExpression c =
    let args = c.args in
    (elements.partial_written args.input.now.text.now args.input.now.words.now args.e c.in-PartialExpression.is c.write_decorated-in-PartialExpression.ensures c.put_bytes-in-PartialExpression.ensures, short.opening_short _ _ args.input.now.good args.e (short.place_small args.e _ c.well_formed.1.1.0))

pub returns-in-DecoratorBlock : goal.returns-in-DecoratorBlock
returns-in-DecoratorBlock c =
    let args = c.args in
    (elements.decor_block_written args.input.now.text.now args.input.now.words.now args.e c.in-DecoratorBlock.is c.write_decorated-in-DecoratorBlock.ensures c.put_bytes-in-DecoratorBlock.ensures, short.opening_short _ _ args.input.now.good args.e (short.place_small args.e _ c.well_formed.1.1.0))

pub returns-in-PartialBlock : goal.returns-in-PartialBlock
returns-in-PartialBlock c =
    let args = c.args in
    (elements.partial_block_written args.input.now.text.now args.input.now.words.now args.e c.in-PartialBlock.is c.write_decorated-in-PartialBlock.ensures c.put_bytes-in-PartialBlock.ensures, short.opening_short _ _ args.input.now.good args.e (short.place_small args.e _ c.well_formed.1.1.0))
