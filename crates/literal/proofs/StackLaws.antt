-- The open brackets as the bits of a number: one more, one fewer, and that they have room.
use Prim.Native.Nat.{ℕ, zero, suc, ◌+◌, ◌-◌, ◌*◌, ◌/◌, ◌%◌, ◌≤◌, ◌<◌}
use native.Mathlib.Numerals.{add-one}
use native.Mathlib.Omega.{arith}
use mathlib.Core.List.{◌∷◌}
use mathlib.Core.Path.{◌≡◌, refl, ap, subst}
use lib.ListN.{length, drop}
use Rattle.literal.specs.Means.{open_means}
use Rattle.literal.specs.Stack.{stack_means, power_of2}
use Rattle.literal.specs.declared.mode.Bracket.{Bracket}

pub pushed_array : (d b : ℕ) → stack_means (d + 1) (b * 2) ≡ open_means Bracket.Array ∷ stack_means d b
unfolding stack_means
pushed_array d b = let u : (b * 2) % 2 ≡ 0 = omega arith in let v : (b * 2) / 2 ≡ b = omega arith in rw (add-one d, u, v)

pub pushed_object : (d b : ℕ) → stack_means (d + 1) (b * 2 + 1) ≡ open_means Bracket.Object ∷ stack_means d b
unfolding stack_means
pushed_object d b = let u : (b * 2 + 1) % 2 ≡ 1 = omega arith in let v : (b * 2 + 1) / 2 ≡ b = omega arith in rw (add-one d, u, v)

pub popped : (d b : ℕ) → stack_means (d - 1) (b / 2) ≡ drop 1 (stack_means d b)
unfolding stack_means
popped zero b = refl
popped (suc d) b = let q : suc d - 1 ≡ d = omega arith in rw q

pub stack_length : (d b : ℕ) → length (stack_means d b) ≡ d
unfolding stack_means
stack_length zero b = refl
stack_length (suc d) b = ap suc (stack_length d (b / 2))

pub power_push : (d b x : ℕ) → b < power_of2 d → x ≤ b * 2 + 1 → x < power_of2 (d + 1)
unfolding power_of2
power_push d b x h k = rw (add-one d) (omega arith)

pub power_pop : (d b : ℕ) → b < power_of2 d → b / 2 < power_of2 (d - 1)
unfolding power_of2
power_pop zero b h = omega arith
power_pop (suc d) b h = let q : suc d - 1 ≡ d = omega arith in rw q (omega arith)

grows : (k d : ℕ) → power_of2 d ≤ power_of2 (k + d)
unfolding power_of2
grows zero d = let q : 0 + d ≡ d = omega arith in rw q (omega arith)
grows (suc k) d = let q : suc k + d ≡ suc (k + d) = omega arith in let g = grows k d in rw q (omega arith)

pub power_small : (d b : ℕ) → d ≤ 32 → b < power_of2 d → b < 4294967296
unfolding power_of2
power_small d b h k = let q : (32 - d) + d ≡ 32 = omega arith in let g : power_of2 d ≤ power_of2 32 = subst (λ n. power_of2 d ≤ power_of2 n) q (grows (32 - d) d) in omega arith
