-- The keys of an expression stand in byte order, each once; so the first of those above a bound is the least that one pass over the parts
-- finds, and those above it are the others. By induction on the keys and on the parts. Assumes nothing.
use mathlib.Core.Path.{◌≡◌, refl, sym, ap, ◌∙◌}
use mathlib.Core.List.{List, [], ◌∷◌}
use mathlib.Core.Bool.{Bool, true, false}
use mathlib.Core.Option.{Option, none, some}
use Rattle.support.specs.Bytes.{Bytes, if, same_bytes, precedes}
use Rattle.expression.specs.Expression.{Param, Keys, no_keys, key, Part, parameter, hash, block, right_tilde, skipped, insert_key, keys_of}
use Rattle.expression.specs.Again.{is_above, keys_above}
use Rattle.expression.specs.Least.{lower, least_of}
use Rattle.support.proofs.ByteLaws.{same_true}
use Rattle.expression.proofs.Order.{never, irreflexive, transitive, above_more, asymmetric, not_before, comes_after}

-- k stands before every key
abbrev Below : Bytes → Keys → Type 0
Below k no_keys = Unit {0}
Below k (key j w ks) = (precedes k j ≡ true) × Below k ks

abbrev pub Sorted : Keys → Type 0
Sorted no_keys = Unit {0}
Sorted (key j w ks) = Below j ks × Sorted ks

below_less : (i j : Bytes) (ks : Keys) → precedes i j ≡ true → Below j ks → Below i ks
below_less i j no_keys h b = tt
below_less i j (key k w ks) h b = (transitive i j k h b.0, below_less i j ks h b.1)

below_insert : (i k : Bytes) (v : Param) (ks : Keys) → precedes i k ≡ true → Below i ks → Below i (insert_key k v ks)
unfolding insert_key
below_insert i k v no_keys h b = (h, tt)
below_insert i k v (key j w ks) h b = go (same_bytes k j) (precedes k j) (below_insert i k v ks h b.1)
  where
    go : (s t : Bool) → Below i (insert_key k v ks)
        → Below i (elim s [ true ↦ key j w ks | false ↦ elim t [ true ↦ key k v (key j w ks) | false ↦ key j w (insert_key k v ks) ] ])
    go true t r = b
    go false true r = (h, b)
    go false false r = (b.0, r)

sorted_insert : (k : Bytes) (v : Param) (ks : Keys) → Sorted ks → Sorted (insert_key k v ks)
unfolding insert_key
sorted_insert k v no_keys o = (tt, tt)
sorted_insert k v (key j w ks) o = go (same_bytes k j) refl (precedes k j) refl (sorted_insert k v ks o.1)
  where
    go : (s : Bool) → same_bytes k j ≡ s → (t : Bool) → precedes k j ≡ t → Sorted (insert_key k v ks)
        → Sorted (elim s [ true ↦ key j w ks | false ↦ elim t [ true ↦ key k v (key j w ks) | false ↦ key j w (insert_key k v ks) ] ])
    go true e t f r = o
    go false e true f r = ((f, below_less k j ks f o.0), o)
    go false e false f r = (below_insert j k v ks (comes_after k j e f) o.0, r)

pub sorted_keys : (xs : List Part) → Sorted (keys_of xs)
unfolding keys_of
sorted_keys [] = tt
sorted_keys (parameter p ∷ xs) = sorted_keys xs
sorted_keys (hash k v ∷ xs) = sorted_insert k v (keys_of xs) (sorted_keys xs)
sorted_keys (block b ∷ xs) = sorted_keys xs
sorted_keys (right_tilde ∷ xs) = sorted_keys xs
sorted_keys (skipped ∷ xs) = sorted_keys xs

-- ---- the first key above a bound

abbrev pub first : Keys → Option (Bytes × Param)
first no_keys = none
first (key k v ks) = some (k, v)

-- one key more, and what is above the bound of the others
abbrev kept : Bool → Bytes → Param → Keys → Keys
kept t k v ks = elim t [ true ↦ key k v ks | false ↦ ks ]

above_cons : (b : Option Bytes) (k : Bytes) (v : Param) (ks : Keys) (t : Bool) → is_above b k ≡ t
    → keys_above b (key k v ks) ≡ kept t k v (keys_above b ks)
unfolding keys_above
above_cons b k v ks t e = rw (e, keys_above)

-- every key is above the bound
all_above : (b : Option Bytes) (j : Bytes) (ks : Keys) → is_above b j ≡ true → Below j ks → keys_above b ks ≡ ks
unfolding keys_above
all_above b j no_keys h o = refl
all_above b j (key k v ks) h o = above_cons b k v ks true (above_more b j k h o.0) ∙ ap (key k v) (all_above b j ks h o.1)

-- the same where the bound is j itself
all_after : (j : Bytes) (ks : Keys) → Below j ks → keys_above (some j) ks ≡ ks
unfolding keys_above
all_after j no_keys o = refl
all_after j (key k v ks) o = above_cons (some j) k v ks true o.0 ∙ ap (key k v) (all_after j ks o.1)

same_pair : {j k : Bytes} {w v : Param} → ◌≡◌ {A = Option (Bytes × Param)} (some (j, w)) (some (k, v))
    → ◌≡◌ {A = Bytes × Param} (j, w) (k, v)
same_pair e = cc

below_first : (b : Option Bytes) (i k : Bytes) (v : Param) (ks : Keys) → Below i ks → first (keys_above b ks) ≡ some (k, v)
    → precedes i k ≡ true
unfolding keys_above
below_first b i k v no_keys o e = cc
below_first b i k v (key j w ks) o e = go (is_above b j) e (below_first b i k v ks o.1)
  where
    go : (t : Bool) → first (kept t j w (keys_above b ks)) ≡ some (k, v) → (first (keys_above b ks) ≡ some (k, v) → precedes i k ≡ true)
        → precedes i k ≡ true
    go true f r = let q : j ≡ k = ap (λ a. a.0) (same_pair f) in ap (precedes i) (sym q) ∙ o.0
    go false f r = r f

-- those above the first are the others
pub others_above : (b : Option Bytes) (k : Bytes) (v : Param) (ks : Keys) → Sorted ks → first (keys_above b ks) ≡ some (k, v)
    → keys_above b ks ≡ key k v (keys_above (some k) ks)
unfolding keys_above
others_above b k v no_keys o e = cc
others_above b k v (key j w ks) o e = go (is_above b j) refl e (others_above b k v ks o.1)
  where
    go : (t : Bool) → is_above b j ≡ t → first (kept t j w (keys_above b ks)) ≡ some (k, v)
        → (first (keys_above b ks) ≡ some (k, v) → keys_above b ks ≡ key k v (keys_above (some k) ks))
        → kept t j w (keys_above b ks) ≡ key k v (keys_above (some k) (key j w ks))
    go true h f s =
        let q : j ≡ k = ap (λ a. a.0) (same_pair f) in
        let r : w ≡ v = ap (λ a. a.1) (same_pair f) in
        let l : keys_above (some j) (key j w ks) ≡ ks = above_cons (some j) j w ks false (irreflexive j) ∙ all_after j ks o.0 in
        ap (key j w) (all_above b j ks h o.0 ∙ sym l) ∙ ap (λ z. key z w (keys_above (some z) (key j w ks))) q ∙ ap (λ z. key k z (keys_above (some k) (key j w ks))) r
    go false h f s =
        let l : precedes k j ≡ false = asymmetric j k (below_first b j k v ks o.0 f) in
        s f ∙ ap (key k v) (sym (above_cons (some k) j w ks false l))

pub none_above : (ks : Keys) → first ks ≡ none → ks ≡ no_keys
none_above no_keys e = refl
none_above (key k v ks) e = cc

-- ---- the least of the parts

abbrev found : Bool → Bytes → Param → Option (Bytes × Param)
found t k v = if t (some (k, v)) none

-- the earlier key stands before every key that is left
lower_first : (k : Bytes) (v : Param) (o : Option (Bytes × Param)) → ((j : Bytes) (w : Param) → o ≡ some (j, w) → precedes k j ≡ true)
    → some (k, v) ≡ lower (some (k, v)) o
lower_first k v none h = refl
lower_first k v (some a) h = rw (h a.0 a.1 refl)

first_insert : (b : Option Bytes) (k : Bytes) (v : Param) (ks : Keys) → Sorted ks
    → first (keys_above b (insert_key k v ks)) ≡ lower (found (is_above b k) k v) (first (keys_above b ks))
unfolding insert_key keys_above
first_insert b k v no_keys o = go (is_above b k)
  where
    go : (t : Bool) → first (kept t k v no_keys) ≡ lower (found t k v) none
    go true = refl
    go false = refl
first_insert b k v (key j w ks) o = go (same_bytes k j) refl (precedes k j) refl (is_above b k) refl (is_above b j) refl (first_insert b k v ks o.1)
  where
    go : (s : Bool) → same_bytes k j ≡ s → (t : Bool) → precedes k j ≡ t → (x : Bool) → is_above b k ≡ x → (y : Bool) → is_above b j ≡ y
        → first (keys_above b (insert_key k v ks)) ≡ lower (found x k v) (first (keys_above b ks))
        → first (keys_above b (elim s [ true ↦ key j w ks | false ↦ elim t [ true ↦ key k v (key j w ks) | false ↦ key j w (insert_key k v ks) ] ])) ≡ lower (found x k v) (first (kept y j w (keys_above b ks)))
    -- the same key
    go true e t f true g true h r = ap first (above_cons b j w ks true h) ∙ rw (ap (precedes k) (sym (same_true k j e)) ∙ irreflexive k)
    go true e t f false g true h r = ap first (above_cons b j w ks true h)
    go true e t f true g false h r = absurd (never (ap (is_above b) (sym (same_true k j e)) ∙ g) h)
    go true e t f false g false h r = ap first (above_cons b j w ks false h)
    -- before all
    go false e true f true g y h r =
        ap first (above_cons b k v (key j w ks) true g)
        ∙ lower_first k v (first (kept y j w (keys_above b ks))) (λ i u q. below_first b k i u (key j w ks) (f, below_less k j ks f o.0) (ap first (above_cons b j w ks y h) ∙ q))
    go false e true f false g y h r = ap first (above_cons b k v (key j w ks) false g ∙ above_cons b j w ks y h)
    -- behind j
    go false e false f true g true h r = ap first (above_cons b j w (insert_key k v ks) true h) ∙ rw f
    go false e false f false g true h r = ap first (above_cons b j w (insert_key k v ks) true h)
    go false e false f x g false h r = ap first (above_cons b j w (insert_key k v ks) false h) ∙ r

pub first_least : (b : Option Bytes) (xs : List Part) → first (keys_above b (keys_of xs)) ≡ least_of b xs
unfolding keys_of least_of keys_above
first_least b [] = refl
first_least b (parameter p ∷ xs) = first_least b xs
first_least b (hash k v ∷ xs) = first_insert b k v (keys_of xs) (sorted_keys xs) ∙ ap (lower (found (is_above b k) k v)) (first_least b xs)
first_least b (block c ∷ xs) = first_least b xs
first_least b (right_tilde ∷ xs) = first_least b xs
first_least b (skipped ∷ xs) = first_least b xs

pub lower_none : (x : Option (Bytes × Param)) → lower x none ≡ x
lower_none none = refl
lower_none (some a) = refl

-- the order of comparing does not matter
pub lower_lower : (x y z : Option (Bytes × Param)) → lower x (lower y z) ≡ lower (lower x y) z
lower_lower none y z = refl
lower_lower (some a) none z = refl
lower_lower (some a) (some b) none = go (precedes a.0 b.0)
  where
    go : (t : Bool) → if t (some a) (some b) ≡ lower (if t (some a) (some b)) none
    go true = refl
    go false = refl
lower_lower (some a) (some b) (some c) = go (precedes a.0 b.0) refl (precedes b.0 c.0) refl
  where
    go : (t : Bool) → precedes a.0 b.0 ≡ t → (u : Bool) → precedes b.0 c.0 ≡ u
        → lower (some a) (if u (some b) (some c)) ≡ lower (if t (some a) (some b)) (some c)
    go true e true f = rw (e, transitive a.0 b.0 c.0 e f)
    go true e false f = refl
    go false e true f = rw (e, f)
    go false e false f = rw (f, not_before a.0 b.0 c.0 e f)
