-- The names' bytes and how many are left of each, as the scan has them.
use Prim.Native.Nat.{ℕ, zero, suc, ◌+◌}
use mathlib.Core.Bool.{Bool}
use mathlib.Core.List.{List}
use mathlib.Core.Path.{◌≡◌, refl, sym, ap}
use lib.Dec.{eqb}
use lib.ListN.{take, drop}
use Rattle.support.specs.Bytes.{Bytes, if}
use Rattle.literal.specs.Means.{name_bytes, name_left, name_means}
use Rattle.literal.specs.Scan.{Open, on, none, after, in_name, after_name, step}

pub at_name : (st : List Open) (c b : ℕ) (bs : Bytes) (a : Bool) → eqb c b ≡ a → if a (after_name bs st) none ≡ step st (in_name b bs) c
unfolding step
at_name st c b bs a e = ap (λ t. if t (after_name bs st) none) (sym e)

pub name_last : (i : ℕ) (st : List Open) → name_left i ≡ 0 → on st after ≡ after_name (take (name_left i) (drop (i + 1) name_bytes)) st
name_last i st e = ap (λ n. after_name (take n (drop (i + 1) name_bytes)) st) (sym e)

pub name_more : (i : ℕ) (st : List Open) → (name_left i ≡ 0 → ⊥) → on st (name_means (i + 1)) ≡ after_name (take (name_left i) (drop (i + 1) name_bytes)) st
name_more zero st e = refl
name_more (suc zero) st e = refl
name_more (suc (suc zero)) st e = absurd (e refl)
name_more (suc (suc (suc zero))) st e = refl
name_more (suc (suc (suc (suc zero)))) st e = refl
name_more (suc (suc (suc (suc (suc zero))))) st e = refl
name_more (suc (suc (suc (suc (suc (suc zero)))))) st e = absurd (e refl)
name_more (suc (suc (suc (suc (suc (suc (suc zero))))))) st e = refl
name_more (suc (suc (suc (suc (suc (suc (suc (suc zero)))))))) st e = refl
name_more (suc (suc (suc (suc (suc (suc (suc (suc (suc zero))))))))) st e = absurd (e refl)
name_more (suc (suc (suc (suc (suc (suc (suc (suc (suc (suc i)))))))))) st e = absurd (e refl)
