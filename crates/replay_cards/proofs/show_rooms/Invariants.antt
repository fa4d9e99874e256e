-- No more rooms are good than were tried.
use Rattle.std.proofs.Common.{◌≤◌}
use Rattle.replay_cards.proofs.show_rooms.Given as goal

abbrev pub invariant-loop-room : goal.invariant-loop-room
invariant-loop-room g l = l.good ≤ l.room
