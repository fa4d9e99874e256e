-- The state stands for the bytes that are left at the place: the plain ones are passed over, and then each turn takes one.
use mathlib.Core.Path.{◌≡◌}
use lib.ListN.{length}
use Rattle.literal.specs.Literal.{verdict}
use Rattle.literal.specs.Means.{StateRoom, state_runs}
use Rattle.literal.specs.Requote.{left}
use Rattle.literal.proofs.check.judge.Given as goal

abbrev pub invariant-loop-c : goal.invariant-loop-c
invariant-loop-c l = (verdict (left l.quoted l.text l.initial.place) ≡ state_runs l.state (left l.quoted l.text l.place)) × StateRoom l.state

abbrev pub decreases-loop-c : goal.decreases-loop-c
decreases-loop-c l = length (left l.quoted l.text l.place)
