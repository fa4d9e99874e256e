-- By what follows the tag, then by what stands before it. Assumes nothing.
use mathlib.Core.Bool.{not}
use mathlib.Core.Path.{ap}
use native.Mathlib.Omega.{arith}
use Rattle.template.proofs.StepParts as laws
use Rattle.template.proofs.input.Visit.process_standalone_statement.Goals as goal

pub returns-then-not-with_trailing_newline : goal.returns-then-not-with_trailing_newline
returns-then-not-with_trailing_newline c =
    let x = c.args.self.now in
    laws.standalone_no x.input.now.text.now x.span x.input.now.options.is_partial c.with_trailing_newline.ensures (ap not c.if-not-with_trailing_newline.true)

pub returns : goal.returns
returns c =
    let x = c.args.self.now in
    let fits = x.walked.fits in
    laws.standalone_by x.input.now.text.now x.span x.input.now.options.is_partial c.with_trailing_newline.ensures (ap not c.if-not-with_trailing_newline.false)
    (x.input.now.lines.ending.cells x.span.start (omega (arith, fits.order, fits.inside)))
