-- The laws for the code that reads stored records: the line at an offset, and the numbers of a line. Assumes nothing.
use Prim.Native.Nat.{ℕ, zero, suc, ◌+◌, ◌-◌, ◌≤◌, ◌<◌, min}
use native.Mathlib.Omega.{arith}
use mathlib.Core.Path.{◌≡◌, refl, sym, ap, subst, ◌∙◌}
use mathlib.Core.Bool.{Bool, true, false}
use mathlib.Core.List.{List, [], ◌∷◌, ◌++◌, append_assoc}
use lib.Dec.{eqb}
use lib.ListN.{length, take, drop, set, length-append, length-drop, drop_of_length-le}
use lib.Seq.{drop-drop, length-take-le, sets, length-sets}
use Rattle.std.specs.Prelude.{◌==◌, cond, not, nat_lt, Option, Some, None, unwrap_or}
use Rattle.std.specs.List.{position, position_or_len}
use Rattle.std.proofs.lemmas.List.{take_rest}
use Rattle.std.proofs.lemmas.List.Recursion.{is_position_or_len}
use Rattle.std.proofs.lemmas.List.Sums.{prefix_len-le-length}
use borrow.Author.Tests.{ltb-false}
use Rattle.support.specs.Bytes.{Bytes, part}
use Rattle.card.specs.Number.{leading_digits}
use Rattle.card.specs.Answers.{DigitsIs}
use Rattle.card.specs.Stored.{first_line, first_number, after_number, numbers_by, numbers, FirstLineIs, WordsIs}
use Rattle.card.specs.declared.number.Digits.{Digits}
use Rattle.card.proofs.Numbers.{leading_split}
use Rattle.card.proofs.Stores.{stored_more, stored_out}

-- ---- the first line

first_feed : (c : ℕ) (s : Bytes) → eqb c 10 ≡ true → first_line (c ∷ s) ≡ []
unfolding first_line
first_feed c s e = rw (e, first_line)

first_other : (c : ℕ) (s : Bytes) → eqb c 10 ≡ false → first_line (c ∷ s) ≡ c ∷ first_line s
unfolding first_line
first_other c s e = rw (e, first_line)

first_cases : (c : ℕ) (s : Bytes) → length (first_line (c ∷ s)) ≡ cond (c == 10) 0 (1 + length (first_line s))
first_cases c s = go (eqb c 10) refl
  where
    go : (b : Bool) → eqb c 10 ≡ b → length (first_line (c ∷ s)) ≡ cond b 0 (1 + length (first_line s))
    go true e = ap length (first_feed c s e)
    go false e = ap length (first_other c s e) ∙ omega arith

-- a line is as long as the place of the first LF
pub first_place : (s : Bytes) → length (first_line s) ≡ position_or_len (λ c. c == 10) s
unfolding first_line
first_place s = is_position_or_len (λ t. length (first_line t)) (λ c. c == 10) refl first_cases s

place : (p : ℕ → Bool) (xs : Bytes) → unwrap_or (position p xs) (length xs) ≡ position_or_len p xs
place p xs = go (nat_lt (position_or_len p xs) (length xs)) refl
  where
    go : (b : Bool) → nat_lt (position_or_len p xs) (length xs) ≡ b → unwrap_or (cond b (Some (position_or_len p xs)) None) (length xs) ≡ position_or_len p xs
    go true e = refl
    go false e = let h = ltb-false (position_or_len p xs) (length xs) e in let k = prefix_len-le-length (λ x. not (p x)) xs in omega arith

-- at the first LF behind an offset, or where there is none at the end, the line ends
pub line_ends : (s : Bytes) (at : ℕ) (r : Bytes) (o : Option ℕ) → r ≡ part s at (length s) → o ≡ position (λ c. c == 10) r → unwrap_or o (length r) ≡ length (first_line (drop at s))
line_ends s at r o e f =
    ap (λ z. unwrap_or z (length r)) f ∙ place (λ c. c == 10) r ∙ sym (first_place r) ∙ ap (λ z. length (first_line z)) (e ∙ take_rest s at)

-- a line is what its bytes start with
first_front : (s : Bytes) → (take (length (first_line s)) s ≡ first_line s) × (length (first_line s) ≤ length s)
unfolding first_line
first_front [] = (refl, omega arith)
first_front (c ∷ s) = go (eqb c 10) refl (first_front s)
  where
    go : (b : Bool) → eqb c 10 ≡ b → (take (length (first_line s)) s ≡ first_line s) × (length (first_line s) ≤ length s) → (take (length (first_line (c ∷ s))) (c ∷ s) ≡ first_line (c ∷ s)) × (length (first_line (c ∷ s)) ≤ suc (length s))
    go true e h = rw (first_feed c s e) (refl, omega arith)
    go false e h = rw (first_other c s e) (ap (c ∷◌) h.0, omega (arith, h.1))

pub line_part : {s : Bytes} {at e : ℕ} {r : Bytes} → e ≡ at + length (first_line (drop at s)) → r ≡ part s at e → FirstLineIs s at r
line_part {s} {at} {e} {r} p q =
    let f = first_front (drop at s) in
    let n : e - at ≡ length (first_line (drop at s)) = omega arith in
    let m : r ≡ first_line (drop at s) = q ∙ ap (λ z. take z (drop at s)) n ∙ f.0 in
    let k : length r ≡ length (first_line (drop at s)) = ap length m in
    let d = length-drop at s in
    record { means = m; inside = omega (arith, f.1) }

-- ---- the numbers of a line

by_nil : (n : ℕ) → numbers_by n [] ≡ []
unfolding numbers_by
by_nil zero = refl
by_nil (suc n) = refl

-- a bound that is no less than the bytes makes no difference
enough : (n m : ℕ) (s : Bytes) → length s ≤ n → length s ≤ m → numbers_by n s ≡ numbers_by m s
unfolding numbers_by
enough zero m [] h k = sym (by_nil m)
enough zero m (b ∷ s) h k = absurd (omega arith)
enough (suc n) zero [] h k = refl
enough (suc n) zero (b ∷ s) h k = absurd (omega arith)
enough (suc n) (suc m) [] h k = refl
enough (suc n) (suc m) (b ∷ s) h k =
    let d = length-drop (suc (length (leading_digits (b ∷ s)))) (b ∷ s) in
    ap (first_number (b ∷ s) ∷◌) (enough n m (after_number (b ∷ s)) (omega arith) (omega arith))

numbers_on : (s : Bytes) → 0 < length s → numbers s ≡ first_number s ∷ numbers (after_number s)
unfolding numbers numbers_by
numbers_on [] h = absurd (omega arith)
numbers_on (b ∷ s) h =
    let d = length-drop (suc (length (leading_digits (b ∷ s)))) (b ∷ s) in
    ap (first_number (b ∷ s) ∷◌) (enough (length s) (length (after_number (b ∷ s))) (after_number (b ∷ s)) (omega arith) (omega arith))

-- ---- the loop over numbers: n words, ws, of the bytes before `at` are stored

pub record Numbering (s : Bytes) (l m : List ℕ) (n at : ℕ) : Type 0 where
  pub ws : List ℕ
  pub count : length ws ≡ n
  pub stored : m ≡ sets l 0 ws
  pub words : numbers s ≡ ws ++ numbers (drop at s)
  pub room : n ≤ length l

pub numbering_starts : (s : Bytes) (l : List ℕ) → Numbering s l l 0 0
numbering_starts s l = record { ws = []; count = refl; stored = refl; words = refl; room = omega arith }

module _ {s : Bytes} {l m : List ℕ} {n at : ℕ} (g : Numbering s l m n at) where
  pub same_length : length m ≡ length l
  same_length = ap length g.stored ∙ length-sets l 0 g.ws

  -- the numbers that are left change nothing
  ends : sets (sets l 0 g.ws) n (numbers (drop at s)) ≡ sets l 0 g.ws → n ≡ min (n + length (numbers (drop at s))) (length l) → WordsIs s l m n
  ends e k =
      let q = g.count in
      let r = g.room in
      let y = same_length in
      let i : 0 + length g.ws ≡ n = omega arith in
      let c : length (numbers s) ≡ length g.ws + length (numbers (drop at s)) = ap length g.words ∙ length-append g.ws (numbers (drop at s)) in
      record {
        stored =
            g.stored ∙ sym (ap (sets l 0) g.words ∙ stored_more g.ws (numbers (drop at s)) l 0 ∙ ap (λ z. sets (sets l 0 g.ws) z (numbers (drop at s))) i ∙ e);
        count = omega arith;
        inside = omega arith;
        part = sym (length-take-le n m (omega arith));
      }

  pub numbering_full : length m ≤ n → WordsIs s l m (length m)
  numbering_full h =
      let r = g.room in
      let y = same_length in
      let e : n ≡ length m = omega arith in
      subst (WordsIs s l m) e (ends (stored_out (numbers (drop at s)) (sets l 0 g.ws) n (omega (arith, length-sets l 0 g.ws))) (omega arith))

  pub numbering_ends : length s ≤ at → WordsIs s l m n
  unfolding numbers numbers_by
  numbering_ends h =
      let e : numbers (drop at s) ≡ [] = ap numbers (drop_of_length-le s h) in
      let k : length (numbers (drop at s)) ≡ 0 = ap length e in
      let r = g.room in
      ends (ap (sets (sets l 0 g.ws) n) e) (omega arith)

  module _ (h : at < length s) {d : Digits} (f : DigitsIs s at d) where
    pub digits_inside : d.end ≤ length s
    digits_inside =
        let e = f.end in
        let i = length-append (leading_digits (drop at s)) (drop (length (leading_digits (drop at s))) (drop at s)) in
        let j : length (leading_digits (drop at s) ++ drop (length (leading_digits (drop at s))) (drop at s)) ≡ length (drop at s) = ap length (leading_split (drop at s)) in
        let k = length-drop at s in
        omega arith

    pub numbering_goes_on : n < length m → Numbering s l (set m n d.value) (n + 1) (d.end + 1)
    numbering_goes_on r =
        let q = g.count in
        let e = f.end in
        let y = same_length in
        let k = length-drop at s in
        let i : 0 + length g.ws ≡ n = omega arith in
        let v : List ℕ = d.value ∷ [] in
        let next : at + suc (length (leading_digits (drop at s))) ≡ d.end + 1 = omega arith in
        let w : numbers (drop at s) ≡ d.value ∷ numbers (drop (d.end + 1) s) =
        numbers_on (drop at s) (omega arith)
        ∙ ap (◌∷ numbers (after_number (drop at s))) (sym f.value)
        ∙ ap (λ z. d.value ∷ numbers z) (drop-drop (suc (length (leading_digits (drop at s)))) at s ∙ ap (λ z. drop z s) next) in
        record {
          ws = g.ws ++ v;
          count = (let t = length-append g.ws v in omega arith);
          stored = ap (λ z. set z n d.value) g.stored ∙ sym (stored_more g.ws v l 0 ∙ ap (λ z. set (sets l 0 g.ws) z d.value) i);
          words = g.words ∙ ap (g.ws ++◌) w ∙ sym (append_assoc g.ws v (numbers (drop (d.end + 1) s)));
          room = omega arith;
        }
