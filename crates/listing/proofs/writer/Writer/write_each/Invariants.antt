-- The bytes passed are written as quoted text has them. Assumes nothing.
use mathlib.Core.Path.{◌≡◌}
use lib.ListN.{take}
use Rattle.listing.specs.Quoted.{escaped}
use Rattle.listing.specs.Written.{Written}
use Rattle.listing.proofs.writer.Writer.write_each.Given as goal

abbrev pub invariant-loop-b : goal.invariant-loop-b
invariant-loop-b l =
    (l.self.out.ghost_name ≡ l.initial.self.out.ghost_name)
    × Written (escaped (take l.b-index l.text)) l.initial.self.out.now l.initial.self.at l.self.out.now l.p
