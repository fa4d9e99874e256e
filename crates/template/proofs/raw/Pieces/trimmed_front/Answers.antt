-- By how the front is trimmed. Assumes nothing.
use mathlib.Core.Path.{refl}
use Rattle.template.proofs.raw.Pieces.trimmed_front.Goals as goal

pub returns-in-Kept : goal.returns-in-Kept
returns-in-Kept c =
    rw c.in-Kept.is (record { good = c.args.self.now.good; means = refl })

pub returns-in-White : goal.returns-in-White
returns-in-White c = rw c.in-White.is c.trim_front.ensures

pub returns-in-Line : goal.returns-in-Line
returns-in-Line c =
    rw c.in-Line.is (rw c.trim_front-in-Line.ensures.means at c.strip_newline.ensures)
