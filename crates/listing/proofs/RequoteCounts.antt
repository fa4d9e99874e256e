-- The length of a rewritten text is the sum of what its bytes take: by induction along `unescape_single`, since two `\'` cannot overlap.
-- The sum goes on block by block, each with the byte behind it. Assumes nothing.
use Prim.Native.Nat.{ℕ, zero, suc, ◌+◌, ◌-◌, ◌≤◌, ◌<◌}
use native.Mathlib.Omega.{arith}
use native.Mathlib.Nat.{add-zero, add-suc}
use native.Mathlib.Numerals.{add-one}
use mathlib.Core.Path.{◌≡◌, refl, sym, ap, ◌∙◌}
use mathlib.Core.List.{[], ◌∷◌, ◌++◌}
use mathlib.Core.Bool.{Bool, true, false, ◌&&◌}
use lib.Dec.{eqb}
use lib.ListN.{length, get_or, take, drop, length-append, length-drop, get_or-eq_default}
use lib.Seq.{get_or-take, get_or-drop, drop-drop}
use borrow.Author.Tests.{eqb-true, ne_eqb}
use Rattle.support.specs.Bytes.{Bytes, if}
use Rattle.support.proofs.Table.{and_right}
use Rattle.literal.specs.Requote.{unescape_single, escape_double, requoted}
use Rattle.listing.specs.Quoted.{escape, escaped, quoted}
use Rattle.listing.specs.Code.Cost.{cost_alone, cost, cost_to}
use Rattle.listing.proofs.Writes.{escaped_append, escape_other}

-- one byte
module _ (b : ℕ) where
  pub alone_quote : b ≡ 0x22 → cost_alone b ≡ 4
  unfolding cost_alone escape_double escaped escape
  alone_quote e = rw e

  pub alone_backslash : b ≡ 0x5C → cost_alone b ≡ 2
  unfolding cost_alone escape_double escaped escape
  alone_backslash e = rw e

  pub alone_feed : b ≡ 0x0A → cost_alone b ≡ 2
  unfolding cost_alone escape_double escaped escape
  alone_feed e = rw e

  pub alone_other : (b ≡ 0x5C → ⊥) → (b ≡ 0x22 → ⊥) → (b ≡ 0x0A → ⊥) → cost_alone b ≡ 1
  unfolding cost_alone escape_double escaped
  alone_other x y z =
      let d : escape_double (b ∷ []) ≡ b ∷ [] = rw (ne_eqb b 0x22 y, escape_double) in
      ap (λ t. length (escaped t)) d ∙ ap (λ t. length (t ++ [])) (escape_other b x y z)

  module _ (next : ℕ) where
    pub cost_single : (eqb b 0x5C && eqb next 0x27) ≡ true → cost b next ≡ 0
    unfolding cost
    cost_single e = rw e

    pub cost_own : (eqb b 0x5C && eqb next 0x27) ≡ false → cost b next ≡ cost_alone b
    unfolding cost
    cost_own e = rw e

-- behind the last byte stands none
cost_end : (b : ℕ) → cost b 0 ≡ cost_alone b
cost_end b = cost_own b 0 (never (eqb b 0x5C))
  where
    never : (u : Bool) → (u && false) ≡ false
    never true = refl
    never false = refl

-- the bytes of quoted text for a text whose `"` are yet to be rewritten, one byte of it in turn
abbrev size : Bytes → ℕ
size t = length (escaped (escape_double t))

double_first : (a : ℕ) (t : Bytes) → escape_double (a ∷ t) ≡ escape_double (a ∷ []) ++ escape_double t
unfolding escape_double
double_first a t = go (eqb a 0x22) refl
  where
    go : (u : Bool) → eqb a 0x22 ≡ u → escape_double (a ∷ t) ≡ escape_double (a ∷ []) ++ escape_double t
    go true e = rw (e, escape_double)
    go false e = rw (e, escape_double)

size_first : (a : ℕ) (t : Bytes) → size (a ∷ t) ≡ cost_alone a + size t
unfolding cost_alone
size_first a t =
    let one = escape_double (a ∷ []) in
    ap (λ d. length (escaped d)) (double_first a t) ∙ ap length (escaped_append one (escape_double t)) ∙ length-append (escaped one) (escaped (escape_double t))

cost_first : (a : ℕ) (s : Bytes) (n : ℕ) → cost_to (a ∷ s) (suc n) ≡ cost a (get_or s 0 0) + cost_to s n
unfolding cost_to
cost_first a s zero = omega arith
cost_first a s (suc n) = omega (arith, cost_first a s n)

-- the whole text
inner_cost : (s : Bytes) → size (unescape_single s) ≡ cost_to s (length s)
unfolding unescape_single escape_double escaped cost_to
inner_cost [] = refl
inner_cost (a ∷ []) = omega (arith, size_first a [], cost_end a)
inner_cost (a ∷ b ∷ s) = go (eqb a 0x5C && eqb b 0x27) refl (inner_cost s) (inner_cost (b ∷ s))
  where
    first : (u : Bool) → (eqb a 0x5C && eqb b 0x27) ≡ u → unescape_single (a ∷ b ∷ s) ≡ if u (0x27 ∷ unescape_single s) (a ∷ unescape_single (b ∷ s))
    first u e = ap (λ v. if v (0x27 ∷ unescape_single s) (a ∷ unescape_single (b ∷ s))) e

    go : (u : Bool) → (eqb a 0x5C && eqb b 0x27) ≡ u → size (unescape_single s) ≡ cost_to s (length s) → size (unescape_single (b ∷ s)) ≡ cost_to (b ∷ s) (suc (length s))
        → size (unescape_single (a ∷ b ∷ s)) ≡ cost_to (a ∷ b ∷ s) (suc (suc (length s)))
    go true e h g =
        let y : b ≡ 0x27 = eqb-true b 0x27 (and_right (eqb a 0x5C) (eqb b 0x27) e) in
        let own : size (0x27 ∷ unescape_single s) ≡ cost_alone b + size (unescape_single s) = size_first 0x27 (unescape_single s) ∙ ap (λ c. cost_alone c + size (unescape_single s)) (sym y) in
        let next : cost b (get_or s 0 0) ≡ cost_alone b = ap (λ c. cost c (get_or s 0 0)) y ∙ cost_own 0x27 (get_or s 0 0) refl ∙ ap cost_alone (sym y) in
        ap size (first true e) ∙ own ∙ omega (arith, h, cost_first a (b ∷ s) (suc (length s)), cost_first b s (length s), cost_single a b e)
    go false e h g =
        ap size (first false e) ∙ size_first a (unescape_single (b ∷ s)) ∙ omega (arith, g, cost_first a (b ∷ s) (suc (length s)), cost_own a b e)

-- one more byte
pub cost_more : (s : Bytes) (i : ℕ) → cost_to s (i + 1) ≡ cost_to s i + cost (get_or s i 0) (get_or s (i + 1) 0)
unfolding cost_to
cost_more s i = rw (add-one i)

-- m bytes more, each with the one behind it
cost_add : (s : Bytes) (i k m : ℕ) → m < k → cost_to s (i + m) ≡ cost_to s i + cost_to (take k (drop i s)) m
unfolding cost_to
cost_add s i k zero h = omega (arith, ap (cost_to s) (add-zero i))
cost_add s i k (suc m) h =
    let w = take k (drop i s) in
    let b : get_or w m 0 ≡ get_or s (i + m) 0 = get_or-take k (drop i s) m 0 (omega arith) ∙ get_or-drop i s m 0 in
    let next : get_or w (suc m) 0 ≡ get_or s (suc (i + m)) 0 = get_or-take k (drop i s) (suc m) 0 h ∙ get_or-drop i s (suc m) 0 ∙ ap (λ n. get_or s n 0) (add-suc i m) in
    ap (cost_to s) (add-suc i m) ∙ omega (arith, cost_add s i k m (omega arith), ap (λ c. cost c (get_or s (suc (i + m)) 0)) b, ap (cost (get_or w m 0)) next)

pub cost_last : (s : Bytes) → 0 < length s → cost_to s (length s) ≡ cost_to s (length s - 1) + cost_alone (get_or s (length s - 1) 0)
cost_last s h =
    let last = length s - 1 in
    let b = get_or s last 0 in
    let q : length s ≡ last + 1 = omega arith in
    ap (cost_to s) q ∙ cost_more s last ∙ ap (λ next. cost_to s last + cost b next) (get_or-eq_default s 0 (omega arith)) ∙ ap (λ c. cost_to s last + c) (cost_end b)

-- the quotes
pub quoted_cost : (s : Bytes) → length (quoted (requoted s)) ≡ 6 + cost_to s (length s)
unfolding quoted escaped escape
quoted_cost s =
    let t = escape_double (unescape_single s) in
    omega (arith, inner_cost s, ap length (escaped_append t (0x22 ∷ [])), length-append (escaped t) (escaped (0x22 ∷ [])), length-append (escaped (t ++ (0x22 ∷ []))) (0x22 ∷ []))

-- ---- the bytes passed, i of them, and those that are left, at least one

pub record Behind (P : ℕ → Type 0) (s rest : Bytes) : Type 0 where
  pub passed : ℕ
  pub left : rest ≡ drop passed s
  pub whole : passed + length rest ≡ length s
  pub some : 1 ≤ length rest
  pub holds : P passed

pub behind_none : (P : ℕ → Type 0) {s rest : Bytes} → rest ≡ s → 1 ≤ length s → P 0 → Behind P s rest
behind_none P {s} e h p = record { passed = 0; left = e; whole = omega (arith, ap length e); some = omega (arith, ap length e); holds = p }

-- m more are passed
pub behind_more : {P : ℕ → Type 0} {s rest left : Bytes} (Q : ℕ → Type 0) (m : ℕ) → left ≡ drop m rest → m < length rest
    → (g : Behind P s rest) → Q (g.passed + m) → Behind Q s left
behind_more {s = s} {rest = rest} {left = left} Q m e h g q =
    record {
      passed = g.passed + m;
      left = e ∙ ap (drop m) g.left ∙ drop-drop m g.passed s;
      whole = omega (arith, g.whole, ap length e, length-drop m rest);
      some = omega (arith, ap length e, length-drop m rest);
      holds = q;
    }

-- a block of m bytes and one more
pub cost_run : {rest block : Bytes} (s : Bytes) (i m : ℕ) → rest ≡ drop i s → block ≡ take (m + 1) rest → length block ≡ m + 1 → cost_to s (i + m) ≡ cost_to s i + cost_to block (length block - 1)
cost_run {block = block} s i m e p h =
    let q : m ≡ length block - 1 = omega arith in
    let w : block ≡ take (m + 1) (drop i s) = p ∙ ap (take (m + 1)) e in
    cost_add s i (m + 1) m (omega arith) ∙ ap (λ z. cost_to s i + cost_to z m) (sym w) ∙ ap (λ z. cost_to s i + cost_to block z) q
