-- From the buffer to the output: the listing that the walk made there is handed over, or is too long for the output, or is made again in
-- the output, which has room for it. Assumes nothing.
use Prim.Native.Nat.{ℕ, ◌≤◌, ◌<◌}
use native.Mathlib.Omega.{arith}
use native.Mathlib.Nat.{zero-add}
use mathlib.Core.Path.{◌≡◌, refl, sym, ap, ◌∙◌}
use mathlib.Core.List.{List, ◌++◌}
use lib.ListN.{length, take, drop}
use lib.Seq.{sets, sets-eq, take-append_seam}
use borrow.Author.Tests.{lt-ltb, le-ltb}
use Rattle.std.specs.Prelude.{Ok, Err}
use Rattle.std.specs.declared.result.Result as rattle
use Rattle.support.specs.Bytes.{Bytes}
use Rattle.listing.specs.Reading.{Body}
use Rattle.listing.specs.Listing.{listing}
use Rattle.template.specs.Result.{Result, refused, accepted, and_then}
use Rattle.template.specs.Walk.{read_spans}
use Rattle.template.specs.Compile.{fit}
use Rattle.template.specs.Answers.{AnswerIs}
use Rattle.template.specs.Finish.{walk_listing, walk_answer, BufferedMeans, BufferedIs}
use Rattle.template.specs.declared.refusal.Reason.TheVariants as R
use Rattle.template.specs.declared.refusal.Refusal.{Refusal}
use Rattle.template.specs.declared.visit.Options.{Options}

-- the answer, from the listing
fitted : (text : Bytes) (words : List ℕ) (o : Options) (room : ℕ) {x : Result Bytes} → walk_listing text words o ≡ x → walk_answer text words o room ≡ and_then x (fit room)
fitted text words o room e = go (read_spans text words o.prevent_indent o.is_partial) ∙ ap (λ z. and_then z (fit room)) e
  where
    go : (y : Result Body) → and_then y (λ r. fit room (listing r)) ≡ and_then (and_then y (λ r. accepted (listing r))) (fit room)
    go (accepted r) = refl
    go (refused n p) = refl

fits : (b : Bytes) (room : ℕ) → length b ≤ room → fit room b ≡ accepted b
unfolding fit
fits b room h = rw (le-ltb room (length b) h) refl

too_big : (b : Bytes) (room : ℕ) → room < length b → fit room b ≡ refused 14 (length b)
unfolding fit
too_big b room h = rw (lt-ltb room (length b) h) refl

-- the whole of it is stored
stored_whole : (b l : Bytes) → length b ≤ length l → sets l 0 b ≡ b ++ drop (length b) l
stored_whole b l h = sets-eq b l 0 (omega arith) ∙ ap (λ i. b ++ drop i l) (zero-add (length b))

abbrev length_of : Result Bytes → ℕ
length_of (accepted b) = length b
length_of (refused n p) = 0

module _ (text : Bytes) (words : List ℕ) (o : Options) {l m : Bytes} where
  pub turned_away : (out : Bytes) {f : Refusal} → BufferedIs (walk_listing text words o) l m (Err f) → AnswerIs (walk_answer text words o (length out)) out out (Err f)
  turned_away out made = record { means = (fitted text words o (length out) made.means.0, refl) }

  module _ {out : Bytes} {n : ℕ} (made : BufferedIs (walk_listing text words o) l m (Ok n)) where
    pub too_long : length out < n → AnswerIs (walk_answer text words o (length out)) out out (Err (record { reason = R.ListingTooLong; place = n }))
    too_long h =
        let b = made.means in
        record { means = (fitted text words o (length out) b.answer ∙ too_big b.bytes (length out) (omega (arith, b.count)) ∙ ap (refused 14) (sym b.count), refl) }

    pub handed_over : {k : Bytes} → n ≤ length out → n ≤ length l → k ≡ take n m → AnswerIs (walk_answer text words o (length out)) out (k ++ drop n out) (Ok n)
    handed_over h g c =
        let b = made.means in
        let whole : take n m ≡ b.bytes =
        ap (take n) (b.stored ∙ stored_whole b.bytes l (omega (arith, b.count))) ∙ ap (λ i. take i (b.bytes ++ drop (length b.bytes) l)) b.count ∙ take-append_seam b.bytes (drop (length b.bytes) l) in
        record {
          means = record {
            bytes = b.bytes;
            answer = fitted text words o (length out) b.answer ∙ fits b.bytes (length out) (omega (arith, b.count));
            count = b.count;
            output = ap (◌++ drop n out) (c ∙ whole) ∙ ap (λ i. b.bytes ++ drop i out) b.count;
          };
        }

    pub made_again : {k : Bytes} {r : rattle.Result ℕ Refusal} → n ≤ length out → BufferedIs (walk_listing text words o) out k r → AnswerIs (walk_answer text words o (length out)) out k r
    made_again {k} {r} h w = go r w.means
      where
        go : (r : rattle.Result ℕ Refusal) → BufferedMeans (walk_listing text words o) out k r → AnswerIs (walk_answer text words o (length out)) out k r
        go (Err f) s = record { means = (fitted text words o (length out) s.0, s.1) }
        go (Ok i) s =
            let b = made.means in
            let same : length b.bytes ≡ length s.bytes = ap length_of (sym b.answer ∙ s.answer) in
            let small : length s.bytes ≤ length out = omega (arith, b.count, same) in
            record {
              means = record {
                bytes = s.bytes;
                answer = fitted text words o (length out) s.answer ∙ fits s.bytes (length out) small;
                count = s.count;
                output = s.stored ∙ stored_whole s.bytes out small;
              };
            }
