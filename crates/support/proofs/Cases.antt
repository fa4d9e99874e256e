-- Which of two cases holds, and a choice whose test is known. Assumes nothing.
use Prim.Native.Nat.{ℕ, ◌≤◌, ◌<◌}
use native.Mathlib.Omega.{arith}
use mathlib.Core.Bool.{Bool, true, false, ◌||◌}
use mathlib.Core.Logic.{◌⊎◌, inl, inr}
use mathlib.Core.Path.{◌≡◌, refl}
use lib.Dec.{ltb}
use borrow.Author.Tests.{ltb-true, ltb-false}
use Rattle.support.specs.Bytes.{if}

pub true_or_false : (b : Bool) → (b ≡ true) ⊎ (b ≡ false)
true_or_false true = inl refl
true_or_false false = inr refl

pub below_or_not : (a b : ℕ) → (a < b) ⊎ (b ≤ a)
below_or_not a b = go (ltb a b) refl
  where
    go : (t : Bool) → ltb a b ≡ t → (a < b) ⊎ (b ≤ a)
    go true e = inl (ltb-true a b e)
    go false e = inr (ltb-false a b e)

-- neither test of two
pub none_left : (a b : Bool) → a || b ≡ false → a ≡ false
none_left true b e = e
none_left false b e = refl

pub none_right : (a b : Bool) → a || b ≡ false → b ≡ false
none_right true b e = cc
none_right false b e = e

-- no test is both
pub differ : {A : Type 0} {b : Bool} → b ≡ true → b ≡ false → A
differ e f = absurd (let z : ◌≡◌ {A = ℕ} 0 1 = cc in omega arith)

pub never : {A : Type 0} → false ≡ true → A
never e = absurd (let z : ◌≡◌ {A = ℕ} 0 1 = cc in omega arith)

-- a choice whose test is known
pub yes : {A : Type 0} {b : Bool} (x y : A) → b ≡ true → if b x y ≡ x
yes x y e = rw e

pub no : {A : Type 0} {b : Bool} (x y : A) → b ≡ false → if b x y ≡ y
no x y e = rw e
