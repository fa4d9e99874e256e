-- The two numbers of an answer say what the answer says. Assumes nothing.
use mathlib.Core.Path.{◌≡◌, refl}
use Rattle.std.specs.Prelude.{ℕ, Ok, Err}
use Rattle.std.specs.declared.result.Result as rattle
use Rattle.support.specs.Bytes.{Bytes}
use Rattle.template.specs.Result.{Result}
use Rattle.template.specs.Answers.{AnswerIs, AnswerMeans}
use Rattle.template.specs.declared.refusal.Refusal.{Refusal}
use Rattle.ccompile.specs.declared.Told.{Told}
use Rattle.ccompile.specs.Told.{ToldIs, told_of}

means_told : (x : Result Bytes) (l m : Bytes) (a : rattle.Result ℕ Refusal) → AnswerMeans x l m a → ToldIs x l m (told_of a)
means_told x l m (Ok n) h = rw h.answer record { number = refl; value = h.count; output = h.output }
means_told x l m (Err f) h = rw h.0 record { number = refl; value = refl; output = h.1 }

pub told : {x : Result Bytes} {l m : Bytes} {a : rattle.Result ℕ Refusal} → AnswerIs x l m a → {r : Told} → r ≡ told_of a → ToldIs x l m r
told {x} {l} {m} {a} h e = rw e (means_told x l m a h.means)
