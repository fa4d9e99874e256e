-- What a length says, as the code answers it. Assumes nothing.
use Prim.Native.Nat.{ℕ, zero, suc, ◌<◌}
use native.Mathlib.Omega.{arith}
use mathlib.Core.Path.{◌≡◌, refl}
use Rattle.std.specs.Prelude.{Some, None}
use Rattle.support.specs.Code.Lengths.{as_option}

pub length_some : (m : ℕ) {n : ℕ} → Some n ≡ as_option m → (m ≡ n) × (0 < n)
length_some zero e = absurd (cc)
length_some (suc m) {n} e = let q : n ≡ suc m = cc in (omega arith, omega arith)

pub length_none : (m : ℕ) → None ≡ as_option m → m ≡ 0
length_none zero e = refl
length_none (suc m) e = absurd (cc)
