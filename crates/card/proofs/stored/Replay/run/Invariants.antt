-- What the calls at the records that are left answer, the calls at all records answer.
use Rattle.std.proofs.Common.{◌≡◌, length}
use Rattle.card.specs.Stored.{max_words, records}
use Rattle.card.proofs.ReplayLaws.{HandsOn}
use Rattle.card.proofs.stored.Replay.run.Given as goal

abbrev pub invariant-loop-text : goal.invariant-loop-text
invariant-loop-text g l = record {
  same : length l.words ≡ max_words;
  goes : HandsOn (λ text line r. (t w : _) × (t.now ≡ text) × (w.now ≡ line) × (goal.Fn-ptr g).post l.self.show (l.self.rt, (t, (w, tt))) r) (records max_words l.text-iterator.rest.now) (records max_words l.initial.input);
}
