-- By the answer of 1 to 5: a refusal, or what the walk over one of the stores answers. Assumes nothing.
use Rattle.template.proofs.Exits.{handed_on}
use Rattle.template.proofs.Compiles as compiles
use Rattle.template.proofs.compile.compile2.Goals as goal

pub returns-in_err-o : goal.returns-in_err-o
returns-in_err-o c = rw (handed_on c.from_residual.ensures.1) (compiles.turned_away c.args.out.now c.in_err-o.ensures)

pub returns-then-span_count-ge-SMALL : goal.returns-then-span_count-ge-SMALL
returns-then-span_count-ge-SMALL c = compiles.walked c.in_ok-o.ensures c.compile_in.ensures

pub returns-then-text-gt-SHORT : goal.returns-then-text-gt-SHORT
returns-then-text-gt-SHORT c = compiles.walked c.in_ok-o.ensures c.compile_in-then-text-gt-SHORT.ensures

pub returns-else-text-gt-SHORT : goal.returns-else-text-gt-SHORT
returns-else-text-gt-SHORT c = compiles.walked c.in_ok-o.ensures c.compile_in-else-text-gt-SHORT.ensures
