-- Byte order is a total order: of two strings one stands before the other, or they are the same. By induction on both. Assumes nothing.
use Prim.Native.Nat.{ℕ, ◌<◌}
use native.Mathlib.Omega.{arith}
use mathlib.Core.Path.{◌≡◌, refl, sym, ap, ◌∙◌}
use mathlib.Core.List.{[], ◌∷◌}
use mathlib.Core.Bool.{Bool, true, false}
use mathlib.Core.Option.{Option, none, some}
use lib.Dec.{eqb, ltb}
use borrow.Author.Tests.{eq-eqb, ne_eqb, eqb-true, eqb-false, lt-ltb, ltb-true, ltb-false}
use Rattle.support.specs.Bytes.{Bytes, if, same_bytes, precedes}
use Rattle.support.proofs.ByteLaws.{same_refl}
use Rattle.expression.specs.Again.{is_above}

pub data Order (a b : Bytes) : Type 0 where
  before : precedes a b ≡ true → Order a b
  equal : a ≡ b → Order a b
  after : precedes b a ≡ true → Order a b

-- the first bytes decide, or, where they are the same, what follows them
precedes_first : (x y : ℕ) (a b : Bytes) → x < y → precedes (x ∷ a) (y ∷ b) ≡ true
unfolding precedes
precedes_first x y a b h = let n : x ≡ y → ⊥ = λ e. omega arith in rw (ne_eqb x y n, lt-ltb x y h)

precedes_later : (x : ℕ) (a b : Bytes) → precedes (x ∷ a) (x ∷ b) ≡ precedes a b
unfolding precedes
precedes_later x a b = rw (eq-eqb x x refl)

pub order : (a b : Bytes) → Order a b
unfolding precedes
order [] [] = equal refl
order [] (y ∷ b) = before refl
order (x ∷ a) [] = after refl
order (x ∷ a) (y ∷ b) = go (eqb x y) refl (ltb x y) refl (order a b)
  where
    go : (t : Bool) → eqb x y ≡ t → (u : Bool) → ltb x y ≡ u → Order a b → Order (x ∷ a) (y ∷ b)
    go true e u f (before h) = let q = eqb-true x y e in before (rw q (precedes_later y a b ∙ h))
    go true e u f (equal h) = equal (let q = eqb-true x y e in cc)
    go true e u f (after h) = let q = eqb-true x y e in after (rw q (precedes_later y b a ∙ h))
    go false e true f o = before (precedes_first x y a b (ltb-true x y f))
    go false e false f o = let n = eqb-false x y e in let l = ltb-false x y f in after (precedes_first y x b a (omega arith))

pub irreflexive : (a : Bytes) → precedes a a ≡ false
unfolding precedes
irreflexive [] = refl
irreflexive (x ∷ a) = precedes_later x a a ∙ irreflexive a

pub transitive : (a b c : Bytes) → precedes a b ≡ true → precedes b c ≡ true → precedes a c ≡ true
unfolding precedes
transitive [] [] c h k = cc
transitive [] (y ∷ b) [] h k = cc
transitive [] (y ∷ b) (z ∷ c) h k = refl
transitive (x ∷ a) [] c h k = cc
transitive (x ∷ a) (y ∷ b) [] h k = cc
transitive (x ∷ a) (y ∷ b) (z ∷ c) h k = go (eqb x y) refl (eqb y z) refl h k (transitive a b c)
  where
    go : (t : Bool) → eqb x y ≡ t → (u : Bool) → eqb y z ≡ u → if t (precedes a b) (ltb x y) ≡ true → if u (precedes b c) (ltb y z) ≡ true
        → (precedes a b ≡ true → precedes b c ≡ true → precedes a c ≡ true) → precedes (x ∷ a) (z ∷ c) ≡ true
    go true e true f h k r = rw (eq-eqb x z (eqb-true x y e ∙ eqb-true y z f)) (r h k)
    go true e false f h k r = let q = eqb-true x y e in let l = ltb-true y z k in precedes_first x z a c (omega arith)
    go false e true f h k r = let q = eqb-true y z f in let l = ltb-true x y h in precedes_first x z a c (omega arith)
    go false e false f h k r = let l = ltb-true x y h in let m = ltb-true y z k in precedes_first x z a c (omega arith)

-- what comes after a key above a bound is above it too
pub above_more : (b : Option Bytes) (j k : Bytes) → is_above b j ≡ true → precedes j k ≡ true → is_above b k ≡ true
above_more none j k h e = refl
above_more (some i) j k h e = transitive i j k h e

pub never : {b : Bool} → b ≡ true → b ≡ false → ⊥
never e f = let z : ◌≡◌ {A = ℕ} 0 1 = cc in absurd (omega arith)

pub asymmetric : (a b : Bytes) → precedes a b ≡ true → precedes b a ≡ false
asymmetric a b h = go (precedes b a) refl
  where
    go : (t : Bool) → precedes b a ≡ t → t ≡ false
    go true e = absurd (never (transitive a b a h e) (irreflexive a))
    go false e = refl

-- not before is the same or after, and so goes on to what is not before
pub not_before : (a b c : Bytes) → precedes a b ≡ false → precedes b c ≡ false → precedes a c ≡ false
not_before a b c h k = go (precedes a c) refl (order a b)
  where
    go : (t : Bool) → precedes a c ≡ t → Order a b → t ≡ false
    go false e o = refl
    go true e (before f) = absurd (never f h)
    go true e (equal f) = absurd (never e (ap (λ z. precedes z c) f ∙ k))
    go true e (after f) = absurd (never (transitive b a c f e) k)

-- neither the same nor before is after
pub comes_after : (a b : Bytes) → same_bytes a b ≡ false → precedes a b ≡ false → precedes b a ≡ true
comes_after a b h k = go (order a b)
  where
    go : Order a b → precedes b a ≡ true
    go (before f) = absurd (never f k)
    go (equal f) = absurd (never (ap (same_bytes a) (sym f) ∙ same_refl a) h)
    go (after f) = f
