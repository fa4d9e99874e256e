-- Digits at an offset, and what they write: one more digit in front, a number that stays at the largest, and how large few digits are.
-- Assumes nothing.
use Prim.Native.Nat.{ℕ, zero, suc, ◌+◌, ◌-◌, ◌*◌, ◌≤◌, ◌<◌, min}
use native.Mathlib.Omega.{arith}
use mathlib.Core.Path.{◌≡◌, refl, sym, ap, ◌∙◌}
use mathlib.Core.Bool.{Bool, true, false, ◌&&◌}
use mathlib.Core.List.{[], ◌∷◌, ◌++◌}
use lib.Dec.{leb}
use lib.ListN.{length, get_or, drop, drop_of_length-le}
use borrow.Author.Tests.{leb-true, leb-false}
use Rattle.std.specs.Char.{is_ascii_digit}
use Rattle.std.proofs.lemmas.List.{take_rest}
use Rattle.support.specs.Bytes.{Bytes, part}
use Rattle.support.proofs.Table.{and_left, and_right}
use Rattle.support.proofs.WhiteLaws.{at_offset}
use Rattle.card.specs.Number.{is_digit, all_digits, leading_digits, decimal_from, decimal, largest}
use Rattle.card.specs.Answers.{DigitsIs}

-- ---- a digit is 48 to 57

module _ (c : ℕ) (e : is_digit c ≡ true) where
  pub digit_least : 48 ≤ c
  unfolding is_digit
  digit_least = leb-true 48 c (and_left (leb 48 c) (leb c 57) e)

  pub digit_most : c ≤ 57
  unfolding is_digit
  digit_most = leb-true c 57 (and_right (leb 48 c) (leb c 57) e)

-- std's test is the same
pub digit_same : (c : ℕ) → is_ascii_digit c ≡ is_digit c
unfolding is_digit
digit_same c = refl

-- ---- the digits that bytes start with

pub leading_on : (c : ℕ) (s : Bytes) → is_digit c ≡ true → leading_digits (c ∷ s) ≡ c ∷ leading_digits s
unfolding leading_digits
leading_on c s e = rw (e, leading_digits)

pub leading_stop : (c : ℕ) (s : Bytes) → is_digit c ≡ false → leading_digits (c ∷ s) ≡ []
unfolding leading_digits
leading_stop c s e = rw (e, leading_digits)

module _ (s : Bytes) (i : ℕ) where
  pub digits_past : length s ≤ i → leading_digits (drop i s) ≡ []
  unfolding leading_digits
  digits_past h = ap leading_digits (drop_of_length-le s h)

  module _ (h : i < length s) where
    pub digits_stop : is_digit (get_or s i 0) ≡ false → leading_digits (drop i s) ≡ []
    digits_stop e = ap leading_digits (at_offset s i h) ∙ leading_stop (get_or s i 0) (drop (i + 1) s) e

    pub digits_on : is_digit (get_or s i 0) ≡ true → leading_digits (drop i s) ≡ get_or s i 0 ∷ leading_digits (drop (i + 1) s)
    digits_on e = ap leading_digits (at_offset s i h) ∙ leading_on (get_or s i 0) (drop (i + 1) s) e

pub leading_all : (s : Bytes) → all_digits (leading_digits s) ≡ true
unfolding leading_digits all_digits
leading_all [] = refl
leading_all (c ∷ s) = go (is_digit c) refl (leading_all s)
  where
    go : (b : Bool) → is_digit c ≡ b → all_digits (leading_digits s) ≡ true → all_digits (leading_digits (c ∷ s)) ≡ true
    go true e h = rw (leading_on c s e) (ap (◌&& all_digits (leading_digits s)) e ∙ h)
    go false e h = rw (leading_stop c s e)

-- the digits at the front and what is behind them are all bytes
pub leading_split : (s : Bytes) → leading_digits s ++ drop (length (leading_digits s)) s ≡ s
unfolding leading_digits
leading_split [] = refl
leading_split (c ∷ s) = go (is_digit c) refl (leading_split s)
  where
    go : (b : Bool) → is_digit c ≡ b → leading_digits s ++ drop (length (leading_digits s)) s ≡ s → leading_digits (c ∷ s) ++ drop (length (leading_digits (c ∷ s))) (c ∷ s) ≡ c ∷ s
    go true e h = rw (leading_on c s e) (ap (c ∷◌) h)
    go false e h = rw (leading_stop c s e)

-- digits in front of a byte that is none are all that is read
pub leading_before : (ds : Bytes) (c : ℕ) (s : Bytes) → all_digits ds ≡ true → is_digit c ≡ false → leading_digits (ds ++ (c ∷ s)) ≡ ds
unfolding all_digits
leading_before [] c s h e = leading_stop c s e
leading_before (d ∷ ds) c s h e =
    leading_on d (ds ++ (c ∷ s)) (and_left (is_digit d) (all_digits ds) h)
    ∙ ap (d ∷◌) (leading_before ds c s (and_right (is_digit d) (all_digits ds) h) e)

-- ---- what digits write

pub decimal_grows : (v : ℕ) (ds : Bytes) → v ≤ decimal_from v ds
unfolding decimal_from
decimal_grows v [] = omega arith
decimal_grows v (d ∷ ds) = let h = decimal_grows (v * 10 + (d - 48)) ds in omega arith

-- a number that stops at the largest: it does not matter whether it stops before more digits or behind them
pub stays : (v : ℕ) (ds : Bytes) → min (decimal_from v ds) largest ≡ min (decimal_from (min v largest) ds) largest
stays v ds = go (leb v largest) refl
  where
    go : (b : Bool) → leb v largest ≡ b → min (decimal_from v ds) largest ≡ min (decimal_from (min v largest) ds) largest
    go true e = let h : min v largest ≡ v = (let k = leb-true v largest e in omega arith) in rw h
    go false e = let h : min v largest ≡ largest = (let k = leb-false v largest e in omega arith) in
        let a = decimal_grows v ds in let b = decimal_grows (min v largest) ds in let k = leb-false v largest e in omega arith

-- the largest number of n digits that start with w
unfoldable nines : ℕ → ℕ → ℕ
nines w zero = w
nines w (suc n) = nines (w * 10 + 9) n

nines_grow : (w n : ℕ) → w ≤ nines w n
unfolding nines
nines_grow w zero = omega arith
nines_grow w (suc n) = let h = nines_grow (w * 10 + 9) n in omega arith

few : (n v w : ℕ) (ds : Bytes) → all_digits ds ≡ true → length ds ≤ n → v ≤ w → decimal_from v ds ≤ nines w n
unfolding decimal_from nines all_digits
few n v w [] e h k = let q = nines_grow w n in omega arith
few zero v w (d ∷ ds) e h k = absurd (omega arith)
few (suc n) v w (d ∷ ds) e h k =
    let m = digit_most d (and_left (is_digit d) (all_digits ds) e) in
    few n (v * 10 + (d - 48)) (w * 10 + 9) ds (and_right (is_digit d) (all_digits ds) e) (omega arith) (omega arith)

-- five digits are below the largest number
pub few_fit : (ds : Bytes) → all_digits ds ≡ true → length ds ≤ 5 → min (decimal ds) largest ≡ decimal ds
unfolding nines
few_fit ds e h = let k : decimal ds ≤ 99999 = few 5 0 0 ds e h (omega arith) in omega arith

-- ---- the loop over digits: what is read from place i on, after `value`, is what is read from the start on

pub record Reading (s : Bytes) (value i : ℕ) : Type 0 where
  pub same : min (decimal (leading_digits s)) largest ≡ min (decimal_from value (leading_digits (drop i s))) largest
  pub end : length (leading_digits s) ≡ i + length (leading_digits (drop i s))
  pub fits : value ≤ largest

pub reading_starts : (s : Bytes) → Reading s 0 0
reading_starts s = record { same = refl; end = omega arith; fits = omega arith }

module _ {s : Bytes} {value i : ℕ} (g : Reading s value i) where
  -- s is what is left of t from `at` on
  pub reading_ends : {t : Bytes} {at end : ℕ} → s ≡ part t at (length t) → end ≡ at + i → leading_digits (drop i s) ≡ [] → DigitsIs t at (record { value = value; end = end })
  unfolding decimal_from
  reading_ends {t} {at} p q e =
      let r : drop at t ≡ s = sym (p ∙ take_rest t at) in
      let same : min (decimal (leading_digits (drop at t))) largest ≡ min value largest =
      ap (λ z. min (decimal (leading_digits z)) largest) r ∙ g.same ∙ ap (λ z. min (decimal_from value z) largest) e in
      let end = ap (λ z. length (leading_digits z)) r ∙ g.end in
      let none : length (leading_digits (drop i s)) ≡ 0 = ap length e in
      record { value = omega (arith, g.fits); end = omega arith }

  module _ (h : i < length s) (e : is_digit (get_or s i 0) ≡ true) where
    pub reading_goes_on : (w : ℕ) → w ≡ min (value * 10 + (get_or s i 0 - 48)) largest → Reading s w (i + 1)
    unfolding decimal_from
    reading_goes_on w q =
        let d = digits_on s i h e in
        let n : length (leading_digits (drop i s)) ≡ suc (length (leading_digits (drop (i + 1) s))) = ap length d in
        record {
          same =
              g.same
              ∙ ap (λ z. min (decimal_from value z) largest) d
              ∙ stays (value * 10 + (get_or s i 0 - 48)) (leading_digits (drop (i + 1) s))
              ∙ ap (λ z. min (decimal_from z (leading_digits (drop (i + 1) s))) largest) (sym q);
          end = (let k = g.end in omega arith);
          fits = omega arith;
        }
