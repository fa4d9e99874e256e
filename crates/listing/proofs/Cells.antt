-- Entries in cells: moving those behind a place on by one, and what the cells hold after one more entry. By the laws of parts of lists.
-- Assumes nothing.
use Prim.Native.Nat.{ℕ, suc, ◌+◌, ◌-◌, ◌≤◌, ◌<◌}
use native.Mathlib.Omega.{arith}
use native.Mathlib.Numerals.{add-one}
use mathlib.Core.Path.{◌≡◌, sym, ap, subst, ◌∙◌}
use mathlib.Core.List.{List, [], ◌∷◌, ◌++◌, append_assoc}
use mathlib.Core.Bool.{true, false}
use lib.ListN.{length, get_or, take, drop, set, length-append, length-take, length-drop, length-set}
use lib.Seq.{take-suc, take-set-lt, get_or-take, take-take, take-add, drop_at, length-take-le, paste, length-paste, take-paste}
use Rattle.std.proofs.lemmas.List.{set_at}
use Rattle.support.specs.Bytes.{Bytes, same_bytes}
use Rattle.listing.specs.Held.{InOrder, put_entry, PlaceIs, CellsHold}
use Rattle.std.specs.Prelude.{Some, None}
use Rattle.listing.proofs.Entries.{put_same, put_new}

-- ---- moving on by one

pub moved : (h : List ℕ) (place count e : ℕ) → place ≤ count → count < length h
    → set (paste h (place + 1) (drop place h) (count - place)) place e ≡ paste h place (e ∷ drop place h) (count + 1 - place)
moved h place count e a b =
    let k : ℕ = count - place in
    let q : suc k ≡ count + 1 - place = omega arith in
    let front = take place h in
    let x = get_or h place 0 in
    let run = take k (drop place h) in
    let n : place + 1 + k ≡ place + suc k = omega arith in
    let rest = drop (place + suc k) h in
    let whole : paste h (place + 1) (drop place h) k ≡ front ++ x ∷ (run ++ rest) =
    ap (λ z. take (place + 1) h ++ run ++ drop z h) n
    ∙ ap (λ z. z ++ run ++ rest) (rw (add-one place, take-suc h place 0 (omega arith)))
    ∙ append_assoc (front ++ x ∷ []) run rest ∙ append_assoc front (x ∷ []) (run ++ rest) in
    ap (λ z. set z place e) whole ∙ set_at front x (run ++ rest) e place (length-take-le place h (omega arith))
    ∙ sym (append_assoc front (e ∷ run) rest) ∙ ap (paste h place (e ∷ drop place h)) q

-- ---- after one more entry

-- the first n cells, as a part of them from 0 on
pub from_zero : (n : ℕ) → n ≡ n - 0
from_zero n = omega arith

module _ (f : ℕ → Bytes) (h : List ℕ) (n : ℕ) where
  pub order_whole : InOrder f (take n h) → InOrder f (take (n - 0) h)
  order_whole o = subst (λ k. InOrder f (take k h)) (from_zero n) o

  pub place_whole : {k : Bytes} (e : ℕ) {i : ℕ} → k ≡ f e → PlaceIs f k (take (n - 0) h) i → PlaceIs f (f e) (take n h) i
  place_whole {k} e {i} q p = subst (λ z. PlaceIs f z (take n h) i) q (subst (λ m. PlaceIs f k (take m h) i) (sym (from_zero n)) p)

module _ (f : ℕ → Bytes) (e : ℕ) (h : List ℕ) (n : ℕ) (b : n ≤ length h) {i : ℕ} (p : PlaceIs f (f e) (take n h) i) where
  count : length (take n h) ≡ n
  count = length-take-le n h b

  pub held_same : i < n → same_bytes (f (get_or h i 0)) (f e) ≡ true → CellsHold (put_entry f e (take n h)) (set h i e) (Some n)
  held_same l s = record {
    means = (
      omega (arith, length-set h i e),
      take-set-lt n h i e l ∙ sym (put_same f e (take n h) i p (omega (arith, count)) (ap (λ z. same_bytes (f z) (f e)) (get_or-take n h i 0 l) ∙ s)),
    );
  }

  module _ (s : i < n → same_bytes (f (get_or h i 0)) (f e) ≡ false) where
    new : put_entry f e (take n h) ≡ take i (take n h) ++ e ∷ drop i (take n h)
    new =
        put_new f e (take n h) i p
        (λ l. let m : i < n = omega (arith, count) in ap (λ z. same_bytes (f z) (f e)) (get_or-take n h i 0 m) ∙ s m)

    pub held_full : length h ≤ n → CellsHold (put_entry f e (take n h)) h None
    held_full l =
        let a = length-append (take i (take n h)) (e ∷ drop i (take n h)) in
        let c = length-take i (take n h) in
        let d = length-drop i (take n h) in
        record { means = omega (arith, ap length new, count, p.inside) }

    pub held_new : n < length h → CellsHold (put_entry f e (take n h)) (paste h i (e ∷ drop i h) (n + 1 - i)) (Some (n + 1))
    held_new l =
        let m : ℕ = n - i in
        let q : n ≡ i + m = omega (arith, count, p.inside) in
        let r : n + 1 - i ≡ suc m = omega (arith, count, p.inside) in
        let t : n + 1 ≡ i + suc m = omega (arith, count, p.inside) in
        let d = length-drop i h in
        let x : i ≤ length h = omega (arith, count, p.inside) in
        let u : take n h ≡ take i h ++ take m (drop i h) = ap (λ k. take k h) q ∙ take-add i m h in
        let w : drop i (take n h) ≡ take m (drop i h) = ap (drop i) u ∙ drop_at (take i h) (take m (drop i h)) i (length-take-le i h x) in
        let v : take i (take n h) ≡ take i h = take-take i n h (omega (arith, count, p.inside)) in
        record {
          means = (
            omega (arith, length-paste h i (e ∷ drop i h) (n + 1 - i) (omega (arith, count, p.inside)) (omega (arith, count, p.inside))),
            ap (λ k. take (n + 1) (paste h i (e ∷ drop i h) k)) r ∙ ap (λ k. take k (paste h i (e ∷ drop i h) (suc m))) t
                ∙ take-paste h i (e ∷ drop i h) (suc m) x (omega (arith, count, p.inside))
                ∙ sym (new ∙ ap (λ z. z ++ e ∷ drop i (take n h)) v ∙ ap (λ z. take i h ++ e ∷ z) w),
          );
        }
