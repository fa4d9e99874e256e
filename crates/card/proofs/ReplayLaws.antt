-- The laws for `Replay::run`: the words that a record is given, and the records that are left behind one. Assumes nothing.
use Prim.Native.Nat.{ℕ, zero, suc, ◌+◌, ◌≤◌, ◌<◌}
use native.Mathlib.Omega.{arith}
use mathlib.Core.Path.{◌≡◌, refl, sym, ap, ◌∙◌}
use mathlib.Core.List.{List, [], ◌∷◌, ◌++◌}
use lib.ListN.{length, take, drop, take-append-drop, length-drop}
use lib.Seq.{take-append_seam, take_all, length-take-le, sets, sets-eq, length-sets}
use mathlib.Core.Logic.{◌⊎◌, inl, inr}
use Rattle.std.proofs.lemmas.Bool.{cases_lt}
use Rattle.support.specs.Bytes.{Bytes}
use Rattle.std.specs.Prelude.{Result, Ok, IsErr}
use Rattle.card.specs.Stored.{first_line, after_line, numbers, WordsIs, RecordIs, records_by, records, AnswersIn}
use Rattle.card.proofs.Stores.{stored_more, stored_out}

by_nil : (k n : ℕ) → records_by k n [] ≡ []
unfolding records_by
by_nil zero n = refl
by_nil (suc k) n = refl

pub records_end : (n : ℕ) {s : Bytes} → s ≡ [] → records n s ≡ []
unfolding records
records_end n {s} e = ap (records n) e ∙ by_nil 0 n

-- a bound that is no less than the bytes makes no difference
enough : (k m n : ℕ) (s : Bytes) → length s ≤ k → length s ≤ m → records_by k n s ≡ records_by m n s
unfolding records_by
enough zero m n [] h i = sym (by_nil m n)
enough zero m n (b ∷ s) h i = absurd (omega arith)
enough (suc k) zero n [] h i = refl
enough (suc k) zero n (b ∷ s) h i = absurd (omega arith)
enough (suc k) (suc m) n [] h i = refl
enough (suc k) (suc m) n (b ∷ s) h i =
    let d = length-drop (suc (length (first_line (b ∷ s)))) (b ∷ s) in
    let e = length-drop (suc (length (first_line (after_line (b ∷ s))))) (after_line (b ∷ s)) in
    ap ((first_line (b ∷ s), take n (numbers (first_line (after_line (b ∷ s))))) ∷◌) (enough k m n (after_line (after_line (b ∷ s))) (omega arith) (omega arith))

-- a record, and those behind it
on : (n : ℕ) (s rest : Bytes) → 0 < length s → rest ≡ after_line (after_line s) → length rest < length s → records n s ≡ (first_line s, take n (numbers (first_line (after_line s)))) ∷ records n rest
unfolding records records_by
on n [] rest p e h = absurd (omega arith)
on n (b ∷ s) rest p e h =
    let t : List (Bytes × List ℕ) → List (Bytes × List ℕ) = λ z. (first_line (b ∷ s), take n (numbers (first_line (after_line (b ∷ s))))) ∷ z in
    ap t (ap (records_by (length s) n) (sym e) ∙ enough (length s) (length rest) n rest (omega arith) (omega arith))

pub records_on : (n : ℕ) (s : Bytes) {text line rest : Bytes} → RecordIs s text line rest → records n s ≡ (text, take n (numbers line)) ∷ records n rest
records_on n s {text} {line} {rest} r =
    let h = r.less in
    on n s rest (omega arith) r.behind r.less ∙ ap (λ t. (t, take n (numbers (first_line (after_line s)))) ∷ records n rest) (sym r.first) ∙ ap (λ w. (text, take n (numbers w)) ∷ records n rest) (sym r.second)

-- ---- the words of a record

fitting : (ws l : List ℕ) → length ws ≤ length l → take (length ws) (sets l 0 ws) ≡ ws
fitting ws l h = ap (take (length ws)) (sets-eq ws l 0 (omega arith)) ∙ take-append_seam ws (drop (0 + length ws) l)

cut : (a b l : List ℕ) → length a ≡ length l → take (length l) (sets l 0 (a ++ b)) ≡ a
cut a b l e =
    let k = length-sets l 0 a in
    let o : sets l 0 (a ++ b) ≡ sets l 0 a = stored_more a b l 0 ∙ stored_out b (sets l 0 a) (0 + length a) (omega arith) in
    ap (take (length l)) o ∙ ap (λ k. take k (sets l 0 a)) (sym e) ∙ fitting a l (omega arith)

-- the words that are stored are as many of the line's as there is room for
pub stored_words : {line : Bytes} {l m : List ℕ} {r : ℕ} → WordsIs line l m r → take r m ≡ take (length l) (numbers line)
stored_words {line} {l} {m} {r} w = go (cases_lt (length l) (length (numbers line)))
  where
    ws : List ℕ
    ws = numbers line

    go : (length l < length ws) ⊎ (length ws ≤ length l) → take r m ≡ take (length l) ws
    go (inl h) =
        let c = w.count in
        let e : r ≡ length l = omega arith in
        let j = length-take-le (length l) ws (omega arith) in
        ap (λ k. take k m) e ∙ ap (take (length l)) (w.stored ∙ ap (sets l 0) (sym (take-append-drop (length l) ws))) ∙ cut (take (length l) ws) (drop (length l) ws) l j
    go (inr h) =
        let c = w.count in
        let e : r ≡ length ws = omega arith in
        ap (λ k. take k m) e ∙ ap (take (length ws)) w.stored ∙ fitting ws l h ∙ sym (take_all (length l) ws h)

-- ---- the answers of the calls

-- what calls at the records xs answer, calls at ys answer
abbrev pub HandsOn : {E : Type 0} → (Bytes → List ℕ → Result (Unit {0}) E → Type 0) → List (Bytes × List ℕ) → List (Bytes × List ℕ) → Type 0
HandsOn {E} P xs ys = (r : Result (Unit {0}) E) → AnswersIn P xs r → AnswersIn P ys r

pub starts : {E : Type 0} (P : Bytes → List ℕ → Result (Unit {0}) E → Type 0) (n : ℕ) {s t : Bytes} → t ≡ s → (r : Result (Unit {0}) E) → AnswersIn P (records n t) r → AnswersIn P (records n s) r
starts P n e r h = rw (sym e) h

module _ {E : Type 0} (P : Bytes → List ℕ → Result (Unit {0}) E → Type 0) {n : ℕ} {s text line rest : Bytes} {l m : List ℕ} {count : ℕ} (same : length l ≡ n) (k : RecordIs s text line rest) (w : WordsIs line l m count) where
  given : records n s ≡ (text, take count m) ∷ records n rest
  given = records_on n s k ∙ ap (λ v. (text, v) ∷ records n rest) (sym (stored_words w ∙ ap (λ j. take j (numbers line)) same))

  -- a call that answers `Ok` leaves the answer to the others
  pub goes_on : P text (take count m) (Ok tt) → (r : Result (Unit {0}) E) → AnswersIn P (records n rest) r → AnswersIn P (records n s) r
  goes_on p r h = rw given (inr (p, h))

  -- an error is the answer
  pub stops : {r : Result (Unit {0}) E} → P text (take count m) r → IsErr r → AnswersIn P (records n s) r
  stops {r} p e = rw given (inl (p, e))
