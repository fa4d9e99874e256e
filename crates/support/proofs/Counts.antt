-- How many bytes are of a class: joined, byte by byte and block by block; and none at all. Assumes nothing.
use Prim.Native.Nat.{ℕ, zero, suc, ◌+◌, ◌≤◌, ◌<◌}
use native.Mathlib.Omega.{arith}
use native.Mathlib.Numerals.{add-one}
use mathlib.Core.Path.{◌≡◌, refl, sym, ap, ◌∙◌}
use mathlib.Core.List.{[], ◌∷◌, ◌++◌}
use mathlib.Core.Bool.{Bool, true, false}
use lib.ListN.{length, get_or, take, drop, take-append-drop, drop_of_length-le}
use mir.Val.{bool_byte}
use lib.Seq.{take-suc, take_all}
use Rattle.support.specs.Bytes.{Bytes, if}
use Rattle.support.specs.Code.Blocks.{count}

-- a test as a number
pub byte_le : (r : Bool) → bool_byte r ≤ 1
byte_le true = omega arith
byte_le false = omega arith

byte_is : (r : Bool) → bool_byte r ≡ if r 1 0
byte_is true = refl
byte_is false = refl

module _ (f : ℕ → Bool) where
  pub count_one : (b : ℕ) (u : Bool) → f b ≡ u → count f (b ∷ []) ≡ if u 1 0
  unfolding count
  count_one b u e = rw e

  pub count_append : (s t : Bytes) → count f (s ++ t) ≡ count f s + count f t
  unfolding count
  count_append [] t = omega arith
  count_append (b ∷ s) t = go (f b) (count_append s t)
    where
      go : (u : Bool) → count f (s ++ t) ≡ count f s + count f t
          → if u (suc (count f (s ++ t))) (count f (s ++ t)) ≡ if u (suc (count f s)) (count f s) + count f t
      go true e = omega arith
      go false e = e

  pub count_le : (s : Bytes) → count f s ≤ length s
  unfolding count
  count_le [] = omega arith
  count_le (b ∷ s) = go (f b) (count_le s)
    where
      go : (u : Bool) → count f s ≤ length s → if u (suc (count f s)) (count f s) ≤ suc (length s)
      go true h = omega arith
      go false h = omega arith

  pub count_split : (i : ℕ) (t : Bytes) → count f t ≡ count f (take i t) + count f (drop i t)
  count_split i t = ap (count f) (sym (take-append-drop i t)) ∙ count_append (take i t) (drop i t)

  -- none from i on
  pub none_from : (t : Bytes) (i : ℕ) → ((k : ℕ) → i ≤ k → k < length t → f (get_or t k 0) ≡ false) → count f (drop i t) ≡ 0
  unfolding count
  none_from [] i h = ap (count f) (drop_of_length-le {A = ℕ} [] (omega arith))
  none_from (b ∷ t) zero h = rw (h 0 (omega arith) (omega arith)) (none_from t 0 (λ k a l. h (suc k) (omega arith) (omega arith)))
  none_from (b ∷ t) (suc i) h = none_from t i (λ k a l. h (suc k) (omega arith) (omega arith))

  pub some_left : (t : Bytes) (i : ℕ) → count f (drop i t) ≡ 0 → 0 < count f t → 0 < i
  some_left t zero z h = absurd (omega arith)
  some_left t (suc i) z h = omega arith

  pub counted_none : (t : Bytes) → 0 ≡ count f (take 0 t)
  unfolding count
  counted_none t = refl

  module _ {n : ℕ} (t : Bytes) (i : ℕ) (e : n ≡ count f (take i t)) where
    -- one more byte, and one more block
    pub counted_byte : {r : ℕ} → i < length t → r ≡ count f (get_or t i 0 ∷ []) → n + r ≡ count f (take (i + 1) t)
    counted_byte h k = let q = ap (count f) (take-suc t i 0 h) ∙ count_append (take i t) (get_or t i 0 ∷ []) in rw (add-one i) (omega arith)

    pub counted_test : {r : Bool} → i < length t → r ≡ f (get_or t i 0) → n + bool_byte r ≡ count f (take (i + 1) t)
    counted_test {r} h k = counted_byte h (byte_is r ∙ sym (count_one (get_or t i 0) r (sym k)))

    pub counted_all : length t ≤ i → n ≡ count f t
    counted_all h = e ∙ ap (count f) (take_all i t h)
