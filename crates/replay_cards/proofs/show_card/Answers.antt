-- The words of a card are the front of those that were lent.
use Rattle.card.proofs.Lent.{array_lent}
use Rattle.replay_cards.proofs.show_card.Goals as goal

pub slice_bounds-words-end : goal.slice_bounds-words-end
slice_bounds-words-end g c = (array_lent c.in-Some.is c.read_card.ensures).words

pub slice_bounds-show_answer-end : goal.slice_bounds-show_answer-end
slice_bounds-show_answer-end g c = (array_lent c.in-Some.is c.read_card.ensures).part
