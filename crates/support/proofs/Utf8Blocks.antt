-- Whole characters in a block: one character by its bytes, then as many as stand in a block whose bytes each may follow the three before. Assumes nothing.
use Prim.Native.Nat.{ℕ, zero, suc, ◌+◌, ◌-◌, ◌≤◌, ◌<◌}
use native.Mathlib.Omega.{arith}
use mathlib.Core.Path.{◌≡◌, refl, sym, ap, subst, ◌∙◌}
use mathlib.Core.List.{[], ◌∷◌}
use mathlib.Core.Bool.{true, false, ◌&&◌}
use mathlib.Core.Logic.{◌⊎◌, inl, inr, ⊎_elim}
use lib.Dec.{leb}
use lib.ListN.{length, get_or, take, drop, length-drop}
use lib.Seq.{drop-cons, drop-drop, get_or-drop, get_or-take}
use borrow.Author.Tests.{leb-true}
use Rattle.support.specs.Bytes.{Bytes, if}
use Rattle.support.specs.Utf8.{to, tail, in_range, is_tail, rows, fits, char_length, valid_length}
use Rattle.support.specs.Code.Blocks.{Second, Unfinished, InTable, Follows, tailing, starting, FollowsAll}
use Rattle.support.proofs.Cases.{below_or_not, differ}
use Rattle.support.proofs.Pieces.{leading_next}
use Rattle.support.proofs.Table.{and_left, and_right}
use Rattle.support.proofs.Utf8Laws.{in_range_lem, row_at}

tail_range : (b : ℕ) → is_tail b ≡ true → (0x80 ≤ b) × (b ≤ 0xBF)
tail_range b e = (leb-true 0x80 b (and_left (leb 0x80 b) (leb b 0xBF) e), leb-true b 0xBF (and_right (leb 0x80 b) (leb b 0xBF) e))

-- a byte that is no tail is ASCII, or above the tails
first_range : (b : ℕ) → is_tail b ≡ false → (b < 0x80) ⊎ (0xC0 ≤ b)
first_range b e = ⊎_elim inl (λ h. ⊎_elim (λ k. differ (in_range_lem b 0x80 0xBF h (omega arith)) e) inr (below_or_not b 0xC0)) (below_or_not b 0x80)

-- ---- what follows three bytes

module _ {z y a b : ℕ} where
  pub starts_here : Follows z y a b → is_tail b ≡ false → (a < 0xC0) × (y < 0xE0) × (z < 0xF0) × InTable b
  starts_here (tailing t w s) e = differ t e
  starts_here (starting t i j k f) e = (i, j, k, f)

  tail_here : Follows z y a b → Unfinished z y a → (is_tail b ≡ true) × Second a b
  tail_here (tailing t w s) v = (t, s)
  tail_here (starting t i j k f) v = absurd (⊎_elim (λ h. omega arith) (λ u. ⊎_elim (λ h. omega arith) (λ h. omega arith) u) v)

  free_here : Follows z y a b → a < 0xC0 → y < 0xE0 → z < 0xF0 → is_tail b ≡ false
  free_here (tailing t w s) i j k = absurd (⊎_elim (λ h. omega arith) (λ u. ⊎_elim (λ h. omega arith) (λ h. omega arith) u) w)
  free_here (starting t i j k f) l m n = t

-- ---- one character, by its bytes

module _ (a : ℕ) (s : Bytes) where
  one_byte : a < 0x80 → char_length (a ∷ s) ≡ 1
  unfolding fits rows
  one_byte h = row_at 0 0x00 0x7F [] refl refl a s (omega arith) (omega arith)

module _ (a b : ℕ) (s : Bytes) (t : is_tail b ≡ true) where
  two_bytes : 0xC2 ≤ a → a < 0xE0 → char_length (a ∷ b ∷ s) ≡ 2
  unfolding fits rows
  two_bytes h k = row_at 1 0xC2 0xDF (tail ∷ []) refl refl a (b ∷ s) h (omega arith) ∙ ap (λ u. if (u && true) 2 0) t

module _ (a b c : ℕ) (s : Bytes) (t : is_tail b ≡ true) (u : is_tail c ≡ true) (q : Second a b) where
  three_of : (lo hi : ℕ) → in_range b (to lo hi) ≡ true → ◌≡◌ {A = ℕ} (if (fits (to lo hi ∷ tail ∷ []) (b ∷ c ∷ s)) 3 0) 3
  unfolding fits
  three_of lo hi p = ap (λ x. if (x && (is_tail c && true)) 3 0) p ∙ ap (λ x. if (x && true) 3 0) u

  three_bytes : 0xE0 ≤ a → a < 0xF0 → char_length (a ∷ b ∷ c ∷ s) ≡ 3
  unfolding rows
  three_bytes h k =
      let r = tail_range b t in
      ⊎_elim
      (λ l. row_at 2 0xE0 0xE0 (to 0xA0 0xBF ∷ tail ∷ []) refl refl a (b ∷ c ∷ s) h (omega arith) ∙ three_of 0xA0 0xBF (in_range_lem b 0xA0 0xBF (q.e0 (omega arith)) r.1))
      (λ l. ⊎_elim
      (λ m. row_at 3 0xE1 0xEC (tail ∷ tail ∷ []) refl refl a (b ∷ c ∷ s) l (omega arith) ∙ three_of 0x80 0xBF t)
      (λ m. ⊎_elim
      (λ n. row_at 4 0xED 0xED (to 0x80 0x9F ∷ tail ∷ []) refl refl a (b ∷ c ∷ s) m (omega arith) ∙ three_of 0x80 0x9F (in_range_lem b 0x80 0x9F r.0 (q.ed (omega arith))))
      (λ n. row_at 5 0xEE 0xEF (tail ∷ tail ∷ []) refl refl a (b ∷ c ∷ s) n (omega arith) ∙ three_of 0x80 0xBF t)
      (below_or_not a 0xEE))
      (below_or_not a 0xED))
      (below_or_not a 0xE1)

module _ (a b c d : ℕ) (s : Bytes) (t : is_tail b ≡ true) (u : is_tail c ≡ true) (v : is_tail d ≡ true) (q : Second a b) where
  four_of : (lo hi : ℕ) → in_range b (to lo hi) ≡ true → ◌≡◌ {A = ℕ} (if (fits (to lo hi ∷ tail ∷ tail ∷ []) (b ∷ c ∷ d ∷ s)) 4 0) 4
  unfolding fits
  four_of lo hi p = ap (λ x. if (x && (is_tail c && (is_tail d && true))) 4 0) p ∙ ap (λ x. if (x && (is_tail d && true)) 4 0) u ∙ ap (λ x. if (x && true) 4 0) v

  four_bytes : 0xF0 ≤ a → a ≤ 0xF4 → char_length (a ∷ b ∷ c ∷ d ∷ s) ≡ 4
  unfolding rows
  four_bytes h k =
      let r = tail_range b t in
      ⊎_elim
      (λ l. row_at 6 0xF0 0xF0 (to 0x90 0xBF ∷ tail ∷ tail ∷ []) refl refl a (b ∷ c ∷ d ∷ s) h (omega arith) ∙ four_of 0x90 0xBF (in_range_lem b 0x90 0xBF (q.f0 (omega arith)) r.1))
      (λ l. ⊎_elim
      (λ m. row_at 7 0xF1 0xF3 (tail ∷ tail ∷ tail ∷ []) refl refl a (b ∷ c ∷ d ∷ s) l (omega arith) ∙ four_of 0x80 0xBF t)
      (λ m. row_at 8 0xF4 0xF4 (to 0x80 0x8F ∷ tail ∷ tail ∷ []) refl refl a (b ∷ c ∷ d ∷ s) m k ∙ four_of 0x80 0x8F (in_range_lem b 0x80 0x8F r.0 (q.f4 (omega arith))))
      (below_or_not a 0xF4))
      (below_or_not a 0xF1)

-- ---- several characters: m bytes on stands no tail

abbrev AllFollow : ℕ → ℕ → ℕ → Bytes → Type 0
AllFollow z y x [] = Unit {0}
AllFollow z y x (a ∷ s) = Follows z y x a × AllFollow y x a s

abbrev Chars : ℕ → Type 0
Chars f = (m z y x : ℕ) (s : Bytes) → m ≤ f → m < length s → AllFollow z y x (take (suc m) s) → is_tail (get_or s 0 0) ≡ false → is_tail (get_or s m 0) ≡ false
    → valid_length s ≡ m + valid_length (drop m s)

module _ {f : ℕ} (rec : Chars f) (z y x a : ℕ) (t : is_tail a ≡ false) where
  case_one : (m : ℕ) (s : Bytes) → m ≤ f → m < length s → AllFollow z y x (take (suc (suc m)) (a ∷ s)) → is_tail (get_or s m 0) ≡ false → a < 0x80
      → valid_length (a ∷ s) ≡ suc m + valid_length (drop m s)
  case_one m [] h l w e k = absurd (omega arith)
  case_one m (b ∷ s) h l w e k =
      let st = starts_here w.0 t in
      let n = free_here w.1.0 (omega arith) (omega (arith, st.0)) (omega (arith, st.1)) in
      omega (arith, leading_next char_length (a ∷ b ∷ s) 0 1 (one_byte a (b ∷ s) k) (omega arith), rec m y x a (b ∷ s) h l w.1 n e)

  case_two : (m : ℕ) (s : Bytes) → m ≤ f → m < length s → AllFollow z y x (take (suc (suc m)) (a ∷ s)) → is_tail (get_or s m 0) ≡ false → 0xC2 ≤ a → a < 0xE0
      → valid_length (a ∷ s) ≡ suc m + valid_length (drop m s)
  case_two m [] h l w e k j = absurd (omega arith)
  case_two zero (b ∷ s) h l w e k j = differ (tail_here w.1.0 (inl (omega arith))).0 e
  case_two (suc m) (b ∷ []) h l w e k j = absurd (omega arith)
  case_two (suc m) (b ∷ c ∷ s) h l w e k j =
      let st = starts_here w.0 t in
      let tb = tail_here w.1.0 (inl (omega arith)) in
      let r = tail_range b tb.0 in
      let n = free_here w.1.1.0 (omega arith) (omega arith) (omega (arith, st.0)) in
      omega (arith, leading_next char_length (a ∷ b ∷ c ∷ s) 0 2 (two_bytes a b (c ∷ s) tb.0 k j) (omega arith), rec m x a b (c ∷ s) (omega arith) (omega arith) w.1.1 n e)

  case_three : (m : ℕ) (s : Bytes) → m ≤ f → m < length s → AllFollow z y x (take (suc (suc m)) (a ∷ s)) → is_tail (get_or s m 0) ≡ false → 0xE0 ≤ a → a < 0xF0
      → valid_length (a ∷ s) ≡ suc m + valid_length (drop m s)
  case_three m [] h l w e k j = absurd (omega arith)
  case_three zero (b ∷ s) h l w e k j = differ (tail_here w.1.0 (inl (omega arith))).0 e
  case_three (suc m) (b ∷ []) h l w e k j = absurd (omega arith)
  case_three (suc zero) (b ∷ c ∷ s) h l w e k j = differ (tail_here w.1.1.0 (inr (inl k))).0 e
  case_three (suc (suc m)) (b ∷ c ∷ []) h l w e k j = absurd (omega arith)
  case_three (suc (suc m)) (b ∷ c ∷ d ∷ s) h l w e k j =
      let tb = tail_here w.1.0 (inl (omega arith)) in
      let tc = tail_here w.1.1.0 (inr (inl k)) in
      let r = tail_range b tb.0 in
      let q = tail_range c tc.0 in
      let n = free_here w.1.1.1.0 (omega arith) (omega arith) (omega arith) in
      omega (arith, leading_next char_length (a ∷ b ∷ c ∷ d ∷ s) 0 3 (three_bytes a b c (d ∷ s) tb.0 tc.0 tb.1 k j) (omega arith), rec m a b c (d ∷ s) (omega arith) (omega arith) w.1.1.1 n e)

  case_four : (m : ℕ) (s : Bytes) → m ≤ f → m < length s → AllFollow z y x (take (suc (suc m)) (a ∷ s)) → is_tail (get_or s m 0) ≡ false → 0xF0 ≤ a → a ≤ 0xF4
      → valid_length (a ∷ s) ≡ suc m + valid_length (drop m s)
  case_four m [] h l w e k j = absurd (omega arith)
  case_four zero (b ∷ s) h l w e k j = differ (tail_here w.1.0 (inl (omega arith))).0 e
  case_four (suc m) (b ∷ []) h l w e k j = absurd (omega arith)
  case_four (suc zero) (b ∷ c ∷ s) h l w e k j = differ (tail_here w.1.1.0 (inr (inl (omega arith)))).0 e
  case_four (suc (suc m)) (b ∷ c ∷ []) h l w e k j = absurd (omega arith)
  case_four (suc (suc zero)) (b ∷ c ∷ d ∷ s) h l w e k j = differ (tail_here w.1.1.1.0 (inr (inr k))).0 e
  case_four (suc (suc (suc m))) (b ∷ c ∷ d ∷ []) h l w e k j = absurd (omega arith)
  case_four (suc (suc (suc m))) (b ∷ c ∷ d ∷ g ∷ s) h l w e k j =
      let tb = tail_here w.1.0 (inl (omega arith)) in
      let tc = tail_here w.1.1.0 (inr (inl (omega arith))) in
      let td = tail_here w.1.1.1.0 (inr (inr k)) in
      let r = tail_range b tb.0 in
      let q = tail_range c tc.0 in
      let o = tail_range d td.0 in
      let n = free_here w.1.1.1.1.0 (omega arith) (omega arith) (omega arith) in
      omega (arith, leading_next char_length (a ∷ b ∷ c ∷ d ∷ g ∷ s) 0 4 (four_bytes a b c d (g ∷ s) tb.0 tc.0 td.0 tb.1 k j) (omega arith), rec m b c d (g ∷ s) (omega arith) (omega arith) w.1.1.1.1 n e)

chars_next : {f : ℕ} → Chars f → Chars (suc f)
chars_next rec zero z y x s h l w t e = omega arith
chars_next rec (suc m) z y x [] h l w t e = absurd (omega arith)
chars_next rec (suc m) z y x (a ∷ s) h l w t e =
    let st = starts_here w.0 t in
    ⊎_elim (λ k. case_one rec z y x a t m s (omega arith) (omega arith) w e k)
    (λ k. ⊎_elim (λ j. case_two rec z y x a t m s (omega arith) (omega arith) w e (st.3.low k) j)
    (λ j. ⊎_elim (λ i. case_three rec z y x a t m s (omega arith) (omega arith) w e j i)
    (λ i. case_four rec z y x a t m s (omega arith) (omega arith) w e i st.3.high)
    (below_or_not a 0xF0)) (below_or_not a 0xE0)) (first_range a t)

chars_none : Chars 0
chars_none zero z y x s h l w t e = omega arith
chars_none (suc m) z y x s h l w t e = absurd (omega arith)

chars : (f : ℕ) → Chars f
chars zero = chars_none
chars (suc f) = chars_next (chars f)

-- ---- as the code asks it

all_of : (z y x : ℕ) (s : Bytes) → FollowsAll (z ∷ y ∷ x ∷ s) → AllFollow z y x s
all_of z y x [] f = tt
all_of z y x (a ∷ s) f = (f 0 (omega arith), all_of y x a s (λ k h. f (suc k) (omega arith)))

all_take : (n k z y x : ℕ) (s : Bytes) → k ≤ n → AllFollow z y x (take n s) → AllFollow z y x (take k s)
all_take n zero z y x s h w = tt
all_take n (suc k) z y x [] h w = tt
all_take zero (suc k) z y x (a ∷ s) h w = absurd (omega arith)
all_take (suc n) (suc k) z y x (a ∷ s) h w = (w.0, all_take n k y x a s (omega arith) w.1)

-- one more byte looked at
pub follows_more : (s : Bytes) (i : ℕ) → 3 ≤ i → Follows (get_or s (i - 3) 0) (get_or s (i - 2) 0) (get_or s (i - 1) 0) (get_or s i 0)
    → (k : ℕ) → suc (suc (suc k)) ≡ i → Follows (get_or s k 0) (get_or s (suc k) 0) (get_or s (suc (suc k)) 0) (get_or s (suc (suc (suc k))) 0)
follows_more s i h f k e =
    let a : i - 3 ≡ k = omega arith in
    let b : i - 2 ≡ suc k = omega arith in
    let c : i - 1 ≡ suc (suc k) = omega arith in
    subst (λ n. Follows (get_or s k 0) (get_or s (suc k) 0) (get_or s (suc (suc k)) 0) (get_or s n 0)) (sym e)
    (subst (λ n. Follows (get_or s k 0) (get_or s (suc k) 0) (get_or s n 0) (get_or s i 0)) c
    (subst (λ n. Follows (get_or s k 0) (get_or s n 0) (get_or s (i - 1) 0) (get_or s i 0)) b
    (subst (λ n. Follows (get_or s n 0) (get_or s (i - 2) 0) (get_or s (i - 1) 0) (get_or s i 0)) a f)))

pub back_on : (s : Bytes) (from i : ℕ) → from ≤ i → is_tail (get_or s from 0) ≡ false → is_tail (get_or s i 0) ≡ true → from < i
back_on s from i h e f = ⊎_elim (λ k. k) (λ k. let q : i ≡ from = omega arith in differ f (ap (λ n. is_tail (get_or s n 0)) q ∙ e)) (below_or_not from i)

-- a block of ASCII
ascii_run : (n : ℕ) (s : Bytes) → n ≤ length s → ((k : ℕ) → k < n → get_or s k 0 < 0x80) → valid_length s ≡ n + valid_length (drop n s)
ascii_run zero s h f = omega arith
ascii_run (suc n) [] h f = absurd (omega arith)
ascii_run (suc n) (b ∷ s) h f =
    omega (arith, ascii_run n s (omega arith) (λ k l. f (suc k) (omega arith)), leading_next char_length (b ∷ s) 0 1 (one_byte b s (f 0 (omega arith))) (omega arith))

module _ (s : Bytes) (i e : ℕ) (h : i ≤ e) (l : e ≤ length s) where
  pub ascii_block : ((k : ℕ) → get_or (take (e - i) (drop i s)) k 0 < 0x80) → valid_length (drop i s) ≡ (e - i) + valid_length (drop e s)
  ascii_block f =
      let q : i + (e - i) ≡ e = omega arith in
      ascii_run (e - i) (drop i s) (omega (arith, length-drop i s)) (λ k l. omega (arith, f k, get_or-take (e - i) (drop i s) k 0 l))
      ∙ ap (λ t. (e - i) + valid_length t) (drop-drop (e - i) i s ∙ ap (λ n. drop n s) q)

  pub chars_block : 3 ≤ i → (r : ℕ) → i ≤ r → r < e → is_tail (get_or s i 0) ≡ false → is_tail (get_or s r 0) ≡ false → FollowsAll (take (e - (i - 3)) (drop (i - 3) s))
      → valid_length (drop i s) ≡ (r - i) + valid_length (drop r s)
  chars_block j r a b t u f =
      let q : i + (r - i) ≡ r = omega arith in
      let o : suc (suc (suc (i - 3))) ≡ i = omega arith in
      let p : e - (i - 3) ≡ suc (suc (suc (e - i))) = omega arith in
      let m = i - 3 in
      let cut : drop m s ≡ get_or s m 0 ∷ get_or s (suc m) 0 ∷ get_or s (suc (suc m)) 0 ∷ drop i s =
      drop-cons s m 0 (omega arith) ∙ ap (λ w. get_or s m 0 ∷ w) (drop-cons s (suc m) 0 (omega arith) ∙ ap (λ w. get_or s (suc m) 0 ∷ w) (drop-cons s (suc (suc m)) 0 (omega arith) ∙ ap (λ n. get_or s (suc (suc m)) 0 ∷ drop n s) o)) in
      let g = all_of (get_or s m 0) (get_or s (suc m) 0) (get_or s (suc (suc m)) 0) (take (e - i) (drop i s)) (subst (λ w. FollowsAll (take (suc (suc (suc (e - i)))) w)) cut (subst (λ n. FollowsAll (take n (drop m s))) p f)) in
      let z : i + 0 ≡ i = omega arith in
      chars (r - i) (r - i) (get_or s m 0) (get_or s (suc m) 0) (get_or s (suc (suc m)) 0) (drop i s) (omega arith) (omega (arith, length-drop i s)) (all_take (e - i) (suc (r - i)) (get_or s m 0) (get_or s (suc m) 0) (get_or s (suc (suc m)) 0) (drop i s) (omega arith) g)
      (ap is_tail (get_or-drop i s 0 0 ∙ ap (λ n. get_or s n 0) z) ∙ t) (ap is_tail (get_or-drop i s (r - i) 0 ∙ ap (λ n. get_or s n 0) q) ∙ u)
      ∙ ap (λ w. (r - i) + valid_length w) (drop-drop (r - i) i s ∙ ap (λ n. drop n s) q)
