-- What is left without the last piece is good. Assumes nothing.
use Rattle.template.proofs.CutLaws as cuts
use Rattle.template.proofs.raw.Pieces.without_last.Goals as goal

pub invariant_of-result : goal.invariant_of-result
invariant_of-result c =
    let x = c.args.self.now in
    record { good = rw c.requires.0 (cuts.front_good x.text.now x.words.now x.cut c.requires.1 x.good) }
