-- Entries in byte order: putting one in keeps the order, gives the specification's keys, and happens at the place that a search finds.
-- By induction on the entries. Assumes nothing.
use Prim.Native.Nat.{ℕ, zero, suc, ◌≤◌, ◌<◌}
use native.Mathlib.Omega.{arith}
use mathlib.Core.Path.{◌≡◌, refl, sym, ap, subst, ◌∙◌}
use mathlib.Core.List.{List, [], ◌∷◌, ◌++◌}
use mathlib.Core.Bool.{Bool, true, false}
use mathlib.Core.Option.{Option, none, some}
use lib.Dec.{ltb}
use lib.ListN.{length, get_or, take, drop, set}
use borrow.Author.Tests.{ltb-true, ltb-false}
use Rattle.std.proofs.lemmas.Grind.{get_or_default_zero}
use Rattle.support.specs.Bytes.{Bytes, same_bytes, precedes}
use Rattle.support.proofs.ByteLaws.{same_true}
use Rattle.expression.specs.Expression.{Param, Keys, no_keys, key, insert_key}
use Rattle.expression.specs.Again.{is_above}
use Rattle.expression.proofs.Order.{transitive, comes_after}
use Rattle.listing.specs.Held.{All, Before, InOrder, keys_by, put_entry, key_count, PlaceIs}
use Rattle.listing.proofs.KeyInserts.{insert_before, insert_twice, insert_swap, count_above, count_insert}

-- what a comparison of two keys told
pub told : (q : Bytes → Bytes → Bool) {a b x y : Bytes} {r t : Bool} → a ≡ x → b ≡ y → r ≡ q a b → r ≡ t → q x y ≡ t
told q e f g h = cc

-- ---- what each entry has

pub all_put : (P : ℕ → Type 0) (f : ℕ → Bytes) (e : ℕ) (es : List ℕ) → P e → All P es → All P (put_entry f e es)
unfolding put_entry
all_put P f e [] h a = (h, tt)
all_put P f e (b ∷ es) h a = go (precedes (f b) (f e)) (same_bytes (f b) (f e)) (all_put P f e es h a.1)
  where
    go : (s t : Bool) → All P (put_entry f e es)
        → All P (elim s [ true ↦ b ∷ put_entry f e es | false ↦ elim t [ true ↦ e ∷ es | false ↦ e ∷ b ∷ es ] ])
    go true t r = (a.0, r)
    go false true r = (h, a.1)
    go false false r = (h, a)

pub all_at : (P : ℕ → Type 0) (es : List ℕ) (j : ℕ) → All P es → j < length es → P (get_or es j 0)
all_at P [] j a h = absurd (omega arith)
all_at P (e ∷ es) zero a h = a.0
all_at P (e ∷ es) (suc j) a h = all_at P es j a.1 (omega arith)

module _ (f : ℕ → Bytes) where
  -- ---- the order

  before_less : (i j : Bytes) (es : List ℕ) → precedes i j ≡ true → Before f j es → Before f i es
  before_less i j [] h b = tt
  before_less i j (e ∷ es) h b = (transitive i j (f e) h b.0, before_less i j es h b.1)

  pub order_put : (e : ℕ) (es : List ℕ) → InOrder f es → InOrder f (put_entry f e es)
  unfolding put_entry
  order_put e [] o = (tt, tt)
  order_put e (b ∷ es) o = go (precedes (f b) (f e)) refl (same_bytes (f b) (f e)) refl (order_put e es o.1)
    where
      go : (s : Bool) → precedes (f b) (f e) ≡ s → (t : Bool) → same_bytes (f b) (f e) ≡ t → InOrder f (put_entry f e es)
          → InOrder f (elim s [ true ↦ b ∷ put_entry f e es | false ↦ elim t [ true ↦ e ∷ es | false ↦ e ∷ b ∷ es ] ])
      go true p t q r = (all_put (λ z. precedes (f b) (f z) ≡ true) f e es p o.0, r)
      go false p true q r = (subst (λ z. Before f z es) (same_true (f b) (f e) q) o.0, o.1)
      go false p false q r = let h = comes_after (f b) (f e) q p in ((h, before_less (f e) (f b) es h o.0), o)

  -- an earlier entry stands before a later one
  in_order : (es : List ℕ) (i j : ℕ) → InOrder f es → i < j → j < length es → precedes (f (get_or es i 0)) (f (get_or es j 0)) ≡ true
  in_order [] i j o h l = absurd (omega arith)
  in_order (e ∷ es) i zero o h l = absurd (omega arith)
  in_order (e ∷ es) zero (suc j) o h l = all_at (λ z. precedes (f e) (f z) ≡ true) es j o.0 (omega arith)
  in_order (e ∷ es) (suc i) (suc j) o h l = in_order es i j o.1 (omega arith) (omega arith)

  -- ---- the keys

  module _ (g : ℕ → Param) where
    -- the keys of entries before later ones
    abbrev pub onto : List ℕ → Keys → Keys
    onto [] ks = ks
    onto (e ∷ es) ks = insert_key (f e) (g e) (onto es ks)

    onto_insert : (k : Bytes) (v : Param) (es : List ℕ) (ks : Keys) → Before f k es → onto es (insert_key k v ks) ≡ insert_key k v (onto es ks)
    onto_insert k v [] ks b = refl
    onto_insert k v (e ∷ es) ks b = ap (insert_key (f e) (g e)) (onto_insert k v es ks b.1) ∙ insert_swap (f e) k (g e) v (onto es ks) b.0

    pub onto_put : (e : ℕ) (es : List ℕ) (ks : Keys) → InOrder f es → onto (put_entry f e es) ks ≡ onto es (insert_key (f e) (g e) ks)
    unfolding put_entry
    onto_put e [] ks o = refl
    onto_put e (b ∷ es) ks o = go (precedes (f b) (f e)) refl (same_bytes (f b) (f e)) refl (onto_put e es ks o.1)
      where
        go : (s : Bool) → precedes (f b) (f e) ≡ s → (t : Bool) → same_bytes (f b) (f e) ≡ t → onto (put_entry f e es) ks ≡ onto es (insert_key (f e) (g e) ks)
            → onto (elim s [ true ↦ b ∷ put_entry f e es | false ↦ elim t [ true ↦ e ∷ es | false ↦ e ∷ b ∷ es ] ]) ks ≡ onto (b ∷ es) (insert_key (f e) (g e) ks)
        go true p t q r = ap (insert_key (f b) (g b)) r
        go false p true q r =
            let s = same_true (f b) (f e) q in
            sym
            (ap (insert_key (f b) (g b)) (onto_insert (f e) (g e) es ks (subst (λ z. Before f z es) s o.0))
            ∙ ap (λ z. insert_key z (g b) (insert_key (f e) (g e) (onto es ks))) s
            ∙ insert_twice (f e) (g b) (g e) (onto es ks))
        go false p false q r =
            let h = comes_after (f b) (f e) q p in
            sym (onto_insert (f e) (g e) (b ∷ es) ks (h, before_less (f e) (f b) es h o.0))

    -- each entry has a key of its own
    count_onto : (b : Option Bytes) (es : List ℕ) (ks : Keys) → All (λ e. is_above b (f e) ≡ true) es → InOrder f es
        → length es ≤ count_above b (onto es ks)
    count_onto b [] ks a o = omega arith
    count_onto b (e ∷ es) ks a o =
        let r = count_onto (some (f e)) es ks o.0 o.1 in let s = count_insert b (f e) (g e) (onto es ks) a.0 in omega arith

    pub at_least : (es : List ℕ) (ks : Keys) → InOrder f es → length es ≤ key_count (onto es ks)
    at_least es ks o = let a = count_onto none es ks (every es) o in let b = count_all (onto es ks) in omega arith
      where
        every : (es : List ℕ) → All (λ e. true ≡ true) es
        every [] = tt
        every (e ∷ es) = (refl, every es)

        count_all : (ks : Keys) → count_above none ks ≡ key_count ks
        count_all no_keys = refl
        count_all (key k v ks) = let r = count_all ks in omega arith

    insert_all : (k : Bytes) (v : Param) (es : List ℕ) → Before f k es → insert_key k v (keys_by f g es) ≡ key k v (keys_by f g es)
    unfolding insert_key keys_by
    insert_all k v [] b = refl
    insert_all k v (e ∷ es) b = insert_before k v (g e) (keys_by f g es) b.0

    -- before no other they are the keys
    pub onto_none : (es : List ℕ) → InOrder f es → onto es no_keys ≡ keys_by f g es
    unfolding keys_by
    onto_none [] o = refl
    onto_none (e ∷ es) o = ap (insert_key (f e) (g e)) (onto_none es o.1) ∙ insert_all (f e) (g e) es o.0

  -- ---- the place of a key

  place_later : {k : Bytes} {b : ℕ} {es : List ℕ} {i : ℕ} → PlaceIs f k (b ∷ es) (suc i) → PlaceIs f k es i
  place_later h = record {
    inside = omega (arith, h.inside);
    before = λ j l. h.before (suc j) (omega arith);
    after = λ j l m. h.after (suc j) (omega arith) (omega arith);
  }

  module _ (e : ℕ) where
    -- behind an entry that stands before e
    put_later : (b : ℕ) (es : List ℕ) → precedes (f b) (f e) ≡ true → put_entry f e (b ∷ es) ≡ b ∷ put_entry f e es
    unfolding put_entry
    put_later b es h = rw (h, put_entry)

    pub put_same : (es : List ℕ) (i : ℕ) → PlaceIs f (f e) es i → i < length es → same_bytes (f (get_or es i 0)) (f e) ≡ true
        → put_entry f e es ≡ set es i e
    unfolding put_entry
    put_same [] i h l s = absurd (omega arith)
    put_same (b ∷ es) zero h l s = rw (h.after 0 (omega arith) (omega arith), put_entry, s)
    put_same (b ∷ es) (suc i) h l s =
        put_later b es (h.before 0 (omega arith)) ∙ ap (λ z. b ∷ z) (put_same es i (place_later h) (omega arith) s)

    pub put_new : (es : List ℕ) (i : ℕ) → PlaceIs f (f e) es i → (i < length es → same_bytes (f (get_or es i 0)) (f e) ≡ false)
        → put_entry f e es ≡ take i es ++ e ∷ drop i es
    unfolding put_entry
    put_new [] zero h s = refl
    put_new [] (suc i) h s = absurd (omega (arith, h.inside))
    put_new (b ∷ es) zero h s = rw (h.after 0 (omega arith) (omega arith), put_entry, s (omega arith))
    put_new (b ∷ es) (suc i) h s =
        put_later b es (h.before 0 (omega arith)) ∙ ap (λ z. b ∷ z) (put_new es i (place_later h) (λ l. s (omega arith)))

-- those that stand before a key come first
pub parted : (f : ℕ → Bytes) (k : Bytes) (es : List ℕ) → InOrder f es → (i j d : ℕ) → i ≤ j → j < length es
    → precedes (f (get_or es j d)) k ≡ true → precedes (f (get_or es i d)) k ≡ true
parted f k es o i j d h l t = go (ltb i j) refl
  where
    go : (u : Bool) → ltb i j ≡ u → precedes (f (get_or es i d)) k ≡ true
    go true e = rw (get_or_default_zero es i d (omega (arith, ltb-true i j e))) (transitive (f (get_or es i 0)) (f (get_or es j 0)) k (in_order f es i j o (ltb-true i j e) l) (rw (get_or_default_zero es j d l) at t))
    go false e = let q : i ≡ j = omega (arith, ltb-false i j e) in ap (λ z. precedes (f (get_or es z d)) k) q ∙ t
