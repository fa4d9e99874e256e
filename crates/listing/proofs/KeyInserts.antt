-- Putting keys in: of the same key the later value stays, different keys may be put in in either order, and one more stands there after
-- those above it. By cases on the byte order and by induction on the keys. Assumes nothing.
use Prim.Native.Nat.{ℕ, ◌+◌, ◌≤◌, ◌<◌}
use native.Mathlib.Omega.{arith}
use mathlib.Core.Path.{◌≡◌, refl, sym, ap, ◌∙◌}
use mathlib.Core.Bool.{Bool, true, false}
use mathlib.Core.Option.{Option, some}
use Rattle.support.specs.Bytes.{Bytes, if, same_bytes, precedes}
use Rattle.support.proofs.ByteLaws.{same_refl, same_true}
use Rattle.expression.specs.Expression.{Param, Keys, no_keys, key, insert_key}
use Rattle.expression.specs.Again.{is_above}
use Rattle.expression.proofs.Order.{Order, before, equal, after, order, irreflexive, transitive, above_more, asymmetric, never}

not_same : (a b : Bytes) → precedes a b ≡ true → same_bytes a b ≡ false
not_same a b h = go (same_bytes a b) refl
  where
    go : (t : Bool) → same_bytes a b ≡ t → t ≡ false
    go true e = absurd (never (ap (precedes a) (same_true a b e) ∙ h) (irreflexive a))
    go false e = refl

same_swap : (a b : Bytes) → same_bytes a b ≡ false → same_bytes b a ≡ false
same_swap a b h = go (same_bytes b a) refl
  where
    go : (t : Bool) → same_bytes b a ≡ t → t ≡ false
    go true e = absurd (never (ap (same_bytes a) (same_true b a e) ∙ same_refl a) h)
    go false e = refl

module _ (k : Bytes) (v : Param) {j : Bytes} (w : Param) (ks : Keys) where
  insert_same : k ≡ j → insert_key k v (key j w ks) ≡ key j w ks
  unfolding insert_key
  insert_same e = let s : same_bytes k j ≡ true = ap (same_bytes k) (sym e) ∙ same_refl k in rw (s, insert_key)

  pub insert_before : precedes k j ≡ true → insert_key k v (key j w ks) ≡ key k v (key j w ks)
  unfolding insert_key
  insert_before h = rw (not_same k j h, insert_key, h)

  insert_after : precedes j k ≡ true → insert_key k v (key j w ks) ≡ key j w (insert_key k v ks)
  unfolding insert_key
  insert_after h = rw (same_swap j k (not_same j k h), insert_key, asymmetric j k h)

pub insert_twice : (k : Bytes) (v w : Param) (ks : Keys) → insert_key k v (insert_key k w ks) ≡ insert_key k w ks
unfolding insert_key
insert_twice k v w no_keys = insert_same k v w no_keys refl
insert_twice k v w (key j u ks) = go (order k j) (insert_twice k v w ks)
  where
    go : Order k j → insert_key k v (insert_key k w ks) ≡ insert_key k w ks → insert_key k v (insert_key k w (key j u ks)) ≡ insert_key k w (key j u ks)
    go (before h) r = let e = insert_before k w u ks h in ap (insert_key k v) e ∙ insert_same k v w (key j u ks) refl ∙ sym e
    go (equal h) r = let e = insert_same k w u ks h in ap (insert_key k v) e ∙ insert_same k v u ks h ∙ sym e
    go (after h) r =
        let e = insert_after k w u ks h in
        ap (insert_key k v) e ∙ insert_after k v u (insert_key k w ks) h ∙ ap (key j u) r ∙ sym e

-- k stands before j and i, so also before what j put in among keys from i on begins with
insert_first : (j k : Bytes) (w v : Param) (i : Bytes) (u : Param) (ks : Keys) → precedes k j ≡ true → precedes k i ≡ true
    → insert_key k v (insert_key j w (key i u ks)) ≡ key k v (insert_key j w (key i u ks))
insert_first j k w v i u ks h p = go (order j i)
  where
    go : Order j i → insert_key k v (insert_key j w (key i u ks)) ≡ key k v (insert_key j w (key i u ks))
    go (before q) = let e = insert_before j w u ks q in ap (insert_key k v) e ∙ insert_before k v w (key i u ks) h ∙ ap (key k v) (sym e)
    go (equal q) = let e = insert_same j w u ks q in ap (insert_key k v) e ∙ insert_before k v u ks p ∙ ap (key k v) (sym e)
    go (after q) = let e = insert_after j w u ks q in ap (insert_key k v) e ∙ insert_before k v u (insert_key j w ks) p ∙ ap (key k v) (sym e)

pub insert_swap : (j k : Bytes) (w v : Param) (ks : Keys) → precedes k j ≡ true
    → insert_key j w (insert_key k v ks) ≡ insert_key k v (insert_key j w ks)
unfolding insert_key
insert_swap j k w v no_keys h = insert_after j w v no_keys h ∙ sym (insert_before k v w no_keys h)
insert_swap j k w v (key i u ks) h = go (order k i) (insert_swap j k w v ks h)
  where
    go : Order k i → insert_key j w (insert_key k v ks) ≡ insert_key k v (insert_key j w ks)
        → insert_key j w (insert_key k v (key i u ks)) ≡ insert_key k v (insert_key j w (key i u ks))
    go (before p) r =
        ap (insert_key j w) (insert_before k v u ks p) ∙ insert_after j w v (key i u ks) h ∙ sym (insert_first j k w v i u ks h p)
    go (equal p) r =
        let q : precedes i j ≡ true = ap (λ z. precedes z j) (sym p) ∙ h in
        ap (insert_key j w) (insert_same k v u ks p) ∙ insert_after j w u ks q
        ∙ sym (ap (insert_key k v) (insert_after j w u ks q) ∙ insert_same k v u (insert_key j w ks) p)
    go (after p) r =
        let q = transitive i k j p h in
        ap (insert_key j w) (insert_after k v u ks p) ∙ insert_after j w u (insert_key k v ks) q ∙ ap (key i u) r
        ∙ sym (ap (insert_key k v) (insert_after j w u ks q) ∙ insert_after k v u (insert_key j w ks) p)

-- ---- how many keys there are above a bound

abbrev pub count_above : Option Bytes → Keys → ℕ
count_above b no_keys = 0
count_above b (key k v ks) = if (is_above b k) 1 0 + count_above b ks

count_head : (b : Option Bytes) (k : Bytes) (v : Param) (ks : Keys) (t : Bool) → is_above b k ≡ t
    → count_above b (key k v ks) ≡ if t 1 0 + count_above b ks
count_head b k v ks t e = rw e

count_less : (b : Option Bytes) (j : Bytes) (ks : Keys) → is_above b j ≡ true → count_above (some j) ks ≤ count_above b ks
count_less b j no_keys h = omega arith
count_less b j (key k v ks) h = go (precedes j k) refl (count_less b j ks h)
  where
    go : (t : Bool) → precedes j k ≡ t → count_above (some j) ks ≤ count_above b ks → count_above (some j) (key k v ks) ≤ count_above b (key k v ks)
    go true e r = let x = count_head b k v ks true (above_more b j k h e) in let y = count_head (some j) k v ks true e in omega arith
    go false e r = let y = count_head (some j) k v ks false e in omega arith

pub count_insert : (b : Option Bytes) (j : Bytes) (v : Param) (ks : Keys) → is_above b j ≡ true
    → count_above (some j) ks < count_above b (insert_key j v ks)
unfolding insert_key
count_insert b j v no_keys h = let x = count_head b j v no_keys true h in omega arith
count_insert b j v (key i u ks) h = go (order j i) (count_insert b j v ks h)
  where
    go : Order j i → count_above (some j) ks < count_above b (insert_key j v ks) → count_above (some j) (key i u ks) < count_above b (insert_key j v (key i u ks))
    go (before p) r =
        let e = ap (count_above b) (insert_before j v u ks p) in
        let x = count_head b j v (key i u ks) true h in
        let y = count_less b j (key i u ks) h in
        omega arith
    go (equal p) r =
        let e = ap (count_above b) (insert_same j v u ks p) in
        let x = count_head b i u ks true (ap (is_above b) (sym p) ∙ h) in
        let y = count_head (some j) i u ks false (ap (precedes j) (sym p) ∙ irreflexive j) in
        let z = count_less b j ks h in
        omega arith
    go (after p) r =
        let e = ap (count_above b) (insert_after j v u ks p) in
        let y = count_head (some j) i u ks false (asymmetric i j p) in
        omega arith
