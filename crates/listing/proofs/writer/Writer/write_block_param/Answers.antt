-- By whether there is no name, one or two. Assumes nothing.
use Rattle.listing.proofs.ChildWrites as children
use Rattle.listing.proofs.writer.Writer.write_block_param.Goals as goal

pub returns-in_default : goal.returns-in_default
returns-in_default c = children.block_none c.args.text.now c.in_default.is (children.no_block _)
