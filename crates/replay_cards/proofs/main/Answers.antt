-- The buffer is as long as it says, and what was read lies within it. The search would count its bytes one by one, and is too deep at so many.
use Rattle.std.proofs.Common.{ℕ, sym}
use Rattle.std.proofs.lemmas.List.{length-replicate}
use Rattle.replay_cards.proofs.main.Goals as goal

pub slice_bounds-read_full-end : goal.slice_bounds-read_full-end
slice_bounds-read_full-end c = sym (length-replicate {A = ℕ} 524288 0)

pub slice_bounds-input-end : goal.slice_bounds-input-end
slice_bounds-input-end c = c.in_ok-n.ensures.bound.0

pub slice_bounds-replay-end : goal.slice_bounds-replay-end
slice_bounds-replay-end c = c.in_ok-n.ensures.bound.1
