-- The byte before the last piece stands in the text, so that the byte after it can be counted. Assumes nothing.
use native.Mathlib.Omega.{arith}
use mathlib.Core.Path.{ap}
use Rattle.template.proofs.CutLaws as cuts
use Rattle.template.proofs.raw.Pieces.piece_start.Goals as goal

pub overflow_add-result : goal.overflow_add-result
overflow_add-result c =
    let x = c.args.self.now in
    omega (arith, cuts.start_byte x.text.now x.words.now x.cut x.good c.if-self.true, ap (λ s. s.start) c.span_at.ensures)
