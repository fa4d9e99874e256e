-- Words that are stored behind others, and past the end. Assumes nothing.
use Prim.Native.Nat.{ℕ, suc, ◌+◌, ◌≤◌}
use native.Mathlib.Omega.{arith}
use mathlib.Core.Path.{◌≡◌, refl, ap, ◌∙◌}
use mathlib.Core.List.{List, [], ◌∷◌, ◌++◌}
use lib.ListN.{length, set}
use lib.Seq.{sets, set_out}

pub stored_more : (ws vs l : List ℕ) (i : ℕ) → sets l i (ws ++ vs) ≡ sets (sets l i ws) (i + length ws) vs
stored_more [] vs l i = let q : i + 0 ≡ i = omega arith in rw q
stored_more (w ∷ ws) vs l i = let q : i + suc (length ws) ≡ suc i + length ws = omega arith in rw q (stored_more ws vs (set l i w) (suc i))

pub stored_out : (ws l : List ℕ) (i : ℕ) → length l ≤ i → sets l i ws ≡ l
stored_out [] l i h = refl
stored_out (w ∷ ws) l i h = ap (λ z. sets z (suc i) ws) (set_out l i w h) ∙ stored_out ws l (suc i) (omega arith)
