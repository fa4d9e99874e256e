-- What `read_field` and `read_line` read: their cases, and the bytes that they take. Assumes nothing.
use Prim.Native.Nat.{ℕ, suc, ◌+◌, ◌≤◌, ◌<◌}
use native.Mathlib.Omega.{arith}
use mathlib.Core.Path.{◌≡◌, refl, sym, ap, ◌∙◌}
use mathlib.Core.Bool.{Bool, true, false}
use mathlib.Core.List.{List, [], ◌∷◌, ◌++◌}
use lib.Dec.{leb, eqb}
use lib.ListN.{length, drop, length-append}
use borrow.Author.Tests.{leb-true, eqb-true}
use Rattle.support.specs.Bytes.{Bytes, if}
use Rattle.support.proofs.Table.{and_left, and_right}
use Rattle.card.specs.Number.{leading_digits, decimal}
use Rattle.card.specs.Card.{max_digits}
use Rattle.card.specs.Read.{Read, read, other, and_then, is_number, read_mark, read_field, read_line}
use Rattle.card.proofs.Numbers.{leading_split}

-- what is read otherwise is not read
pub not_both : {A : Type 0} {B : Type 0} {a : A} {r : Bytes} {x : Read A} → x ≡ other → x ≡ read a r → B
not_both e f = let z : ◌≡◌ {A = ℕ} 0 1 = cc in absurd (omega arith)

-- ---- a number and the byte behind it

module _ (mark : ℕ) (s : Bytes) where
  pub field_no : is_number (leading_digits s) ≡ false → read_field mark s ≡ other
  unfolding read_field
  field_no e = rw (e, read_field)

  pub field_yes : is_number (leading_digits s) ≡ true → read_field mark s ≡ and_then (read_mark mark (drop (length (leading_digits s)) s)) (λ c q. read (decimal (leading_digits s)) q)
  unfolding read_field
  field_yes e = rw (e, read_field)

-- what a number and the byte behind it take
pub record Taken (mark : ℕ) (s : Bytes) (v : ℕ) (r : Bytes) : Type 0 where
  pub split : s ≡ leading_digits s ++ (mark ∷ r)
  pub least : 1 ≤ length (leading_digits s)
  pub most : length (leading_digits s) ≤ max_digits
  pub value : decimal (leading_digits s) ≡ v

-- a byte that is read is the one in front
mark_taken : (mark : ℕ) (s : Bytes) (v w : ℕ) (r : Bytes) → and_then (read_mark mark s) (λ c q. read w q) ≡ read v r → (s ≡ mark ∷ r) × (w ≡ v)
mark_taken mark [] v w r e = (cc, cc)
mark_taken mark (c ∷ s) v w r e = go (eqb c mark) refl e
  where
    go : (b : Bool) → eqb c mark ≡ b → and_then (if b (read c s) other) (λ c q. read w q) ≡ read v r → (c ∷ s ≡ mark ∷ r) × (w ≡ v)
    go true f g = let h = eqb-true c mark f in (cc, cc)
    go false f g = (cc, cc)

pub field_taken : (mark : ℕ) (s : Bytes) (v : ℕ) (r : Bytes) → read_field mark s ≡ read v r → Taken mark s v r
field_taken mark s v r e = go (is_number (leading_digits s)) refl
  where
    go : (b : Bool) → is_number (leading_digits s) ≡ b → Taken mark s v r
    go true f =
        let t = mark_taken mark (drop (length (leading_digits s)) s) v (decimal (leading_digits s)) r (sym (field_yes mark s f) ∙ e) in
        record {
          split = sym (leading_split s) ∙ ap (leading_digits s ++◌) t.0;
          least = leb-true 1 (length (leading_digits s)) (and_left (leb 1 (length (leading_digits s))) (leb (length (leading_digits s)) max_digits) f);
          most = leb-true (length (leading_digits s)) max_digits (and_right (leb 1 (length (leading_digits s))) (leb (length (leading_digits s)) max_digits) f);
          value = t.1;
        }
    go false f = not_both (field_no mark s f) e

pub field_shorter : {mark : ℕ} {s : Bytes} {v : ℕ} {r : Bytes} → Taken mark s v r → length r + 2 ≤ length s
field_shorter {mark} {s} {v} {r} t =
    let h : length s ≡ length (leading_digits s) + suc (length r) = ap length t.split ∙ length-append (leading_digits s) (mark ∷ r) in
    omega arith

-- ---- a span line

module _ (s : Bytes) where
  pub line_no_tag : read_field 32 s ≡ other → read_line s ≡ other
  unfolding read_line
  line_no_tag e = rw (e, read_line)

  module _ (a : ℕ) (r : Bytes) (e : read_field 32 s ≡ read a r) where
    pub line_no_start : read_field 32 r ≡ other → read_line s ≡ other
    unfolding read_line
    line_no_start f = rw (e, f, read_line)

    module _ (b : ℕ) (q : Bytes) (f : read_field 32 r ≡ read b q) where
      pub line_no_end : read_field 10 q ≡ other → read_line s ≡ other
      unfolding read_line
      line_no_end g = rw (e, f, g, read_line)

      pub line_yes : (c : ℕ) (p : Bytes) → read_field 10 q ≡ read c p → read_line s ≡ read (a ∷ b ∷ c ∷ []) p
      unfolding read_line
      line_yes c p g = rw (e, f, g, read_line)

-- what a span line takes: three numbers with the bytes behind them
pub record LineTaken (s : Bytes) (ws : List ℕ) (r : Bytes) : Type 0 where
  pub tag : ℕ
  pub start : ℕ
  pub end : ℕ
  pub behind_tag : Bytes
  pub behind_start : Bytes
  pub first : Taken 32 s tag behind_tag
  pub second : Taken 32 behind_tag start behind_start
  pub third : Taken 10 behind_start end r
  pub words : ws ≡ tag ∷ start ∷ end ∷ []

pub line_taken : (s : Bytes) (ws : List ℕ) (r : Bytes) → read_line s ≡ read ws r → LineTaken s ws r
line_taken s ws r e = one (read_field 32 s) refl
  where
    three : (a : ℕ) (p : Bytes) (b : ℕ) (q : Bytes) → read_field 32 s ≡ read a p → read_field 32 p ≡ read b q → (x : Read ℕ) → read_field 10 q ≡ x → LineTaken s ws r
    three a p b q f g (read c o) h =
        let k = sym (line_yes s a p f b q g c o h) ∙ e in
        let m : o ≡ r = cc in
        record {
          tag = a;
          start = b;
          end = c;
          behind_tag = p;
          behind_start = q;
          first = field_taken 32 s a p f;
          second = field_taken 32 p b q g;
          third = field_taken 10 q c r (h ∙ ap (read c) m);
          words = (cc);
        }
    three a p b q f g other h = not_both (line_no_end s a p f b q g h) e

    two : (a : ℕ) (p : Bytes) → read_field 32 s ≡ read a p → (x : Read ℕ) → read_field 32 p ≡ x → LineTaken s ws r
    two a p f (read b q) g = three a p b q f g (read_field 10 q) refl
    two a p f other g = not_both (line_no_start s a p f g) e

    one : (x : Read ℕ) → read_field 32 s ≡ x → LineTaken s ws r
    one (read a p) f = two a p f (read_field 32 p) refl
    one other f = not_both (line_no_tag s f) e

pub line_shorter : (s : Bytes) (ws : List ℕ) (r : Bytes) → read_line s ≡ read ws r → length r < length s
line_shorter s ws r e =
    let t = line_taken s ws r e in
    let a = field_shorter t.first in
    let b = field_shorter t.second in
    let c = field_shorter t.third in
    omega arith
