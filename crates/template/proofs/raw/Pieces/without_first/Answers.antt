-- The first byte of an escape stands in the text, and what is left without the first piece is good. Assumes nothing.
use native.Mathlib.Omega.{arith}
use Rattle.template.proofs.CutLaws as cuts
use Rattle.template.proofs.raw.Pieces.without_first.Goals as goal

pub overflow_add-result : goal.overflow_add-result
overflow_add-result c =
    let x = c.args.self.now in
    omega (arith, cuts.end_inside x.text.now x.words.now x.cut x.good c.requires.0 c.requires.1)

pub invariant_of-result : goal.invariant_of-result
invariant_of-result c =
    let x = c.args.self.now in
    record { good = rw c.requires.0 (cuts.rest_good x.text.now x.words.now x.cut c.requires.1 x.good) }
