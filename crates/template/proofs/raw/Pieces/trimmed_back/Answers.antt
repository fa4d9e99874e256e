-- By how the end is trimmed. Assumes nothing.
use mathlib.Core.Path.{refl}
use Rattle.template.proofs.raw.Pieces.trimmed_back.Goals as goal

pub returns-in-Kept : goal.returns-in-Kept
returns-in-Kept c =
    rw c.in-Kept.is (record { good = c.args.self.now.good; means = refl })

pub returns-in-Blanks : goal.returns-in-Blanks
returns-in-Blanks c = rw c.in-Blanks.is c.trim_back.ensures

pub returns-in-White : goal.returns-in-White
returns-in-White c = rw c.in-White.is c.trim_back-in-White.ensures
