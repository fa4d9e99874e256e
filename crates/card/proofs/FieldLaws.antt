-- The laws for the code that reads fields and span lines at an offset. Assumes nothing.
use Prim.Native.Nat.{ℕ, ◌+◌, ◌-◌, ◌≤◌, ◌<◌}
use native.Mathlib.Omega.{arith}
use mathlib.Core.Path.{◌≡◌, sym, ap, subst, ◌∙◌}
use mathlib.Core.Bool.{true, false}
use lib.ListN.{length, get_or, drop, drop_of_length-le}
use lib.Seq.{drop-drop}
use borrow.Author.Tests.{le-leb, lt-leb, eq-eqb, ne_eqb}
use Rattle.std.specs.Prelude.{Option, Some, None}
use Rattle.support.specs.Bytes.{Bytes}
use Rattle.support.proofs.WhiteLaws.{at_offset}
use Rattle.card.specs.Number.{leading_digits, decimal}
use Rattle.card.specs.Read.{Read, read, other, and_then, is_number, read_mark, read_field}
use Rattle.card.specs.Answers.{DigitsIs, FieldIs, LineIs}
use Rattle.card.specs.declared.number.Digits.{Digits}
use Rattle.card.proofs.Numbers.{leading_all, few_fit}
use Rattle.card.proofs.Fields.{field_no, field_yes, line_no_tag, line_no_start, line_no_end, line_yes}

-- ---- the byte at an offset

module _ (mark : ℕ) (s : Bytes) (e : ℕ) where
  pub mark_past : length s ≤ e → read_mark mark (drop e s) ≡ other
  mark_past h = ap (read_mark mark) (drop_of_length-le s h)

  module _ (h : e < length s) where
    pub mark_other : (get_or s e 0 ≡ mark → ⊥) → read_mark mark (drop e s) ≡ other
    mark_other k = ap (read_mark mark) (at_offset s e h) ∙ rw (ne_eqb (get_or s e 0) mark k)

    pub mark_here : get_or s e 0 ≡ mark → read_mark mark (drop e s) ≡ read (get_or s e 0) (drop (e + 1) s)
    mark_here k = ap (read_mark mark) (at_offset s e h) ∙ rw (eq-eqb (get_or s e 0) mark k)

-- ---- a number and the byte behind it

module _ {s : Bytes} {at : ℕ} (mark : ℕ) {d : Digits} (g : DigitsIs s at d) where
  pub field_empty : d.end ≡ at → FieldIs s at mark None
  field_empty h =
      let n : is_number (leading_digits (drop at s)) ≡ false = (let q = g.end in rw (lt-leb 1 (length (leading_digits (drop at s))) (omega arith))) in
      record { means = sym (field_no mark (drop at s) n); inside = tt }

  pub field_long : (d.end ≡ at → ⊥) → 5 < d.end - at → FieldIs s at mark None
  field_long k h =
      let n : is_number (leading_digits (drop at s)) ≡ false = (let q = g.end in rw (le-leb 1 (length (leading_digits (drop at s))) (omega arith), lt-leb (length (leading_digits (drop at s))) 5 (omega arith))) in
      record { means = sym (field_no mark (drop at s) n); inside = tt }

  module _ (k : d.end ≡ at → ⊥) (h : d.end - at ≤ 5) where
    -- what is read depends on the byte behind the digits
    field_by : (x : Read ℕ) → read_mark mark (drop d.end s) ≡ x → read_field mark (drop at s) ≡ and_then x (λ c q. read (decimal (leading_digits (drop at s))) q)
    field_by x e =
        let q = g.end in
        let n : is_number (leading_digits (drop at s)) ≡ true = rw (le-leb 1 (length (leading_digits (drop at s))) (omega arith), le-leb (length (leading_digits (drop at s))) 5 (omega arith)) in
        field_yes mark (drop at s) n
        ∙ ap (λ z. and_then z (λ c q. read (decimal (leading_digits (drop at s))) q))
        (ap (read_mark mark) (drop-drop (length (leading_digits (drop at s))) at s ∙ ap (λ z. drop z s) (sym g.end)) ∙ e)

    pub field_past : length s ≤ d.end → FieldIs s at mark None
    field_past e = record { means = sym (field_by other (mark_past mark s d.end e)); inside = tt }

    module _ (l : d.end < length s) where
      pub field_other : (get_or s d.end 0 ≡ mark → ⊥) → FieldIs s at mark None
      field_other e = record { means = sym (field_by other (mark_other mark s d.end l e)); inside = tt }

      pub field_found : get_or s d.end 0 ≡ mark → FieldIs s at mark (Some (d.value, d.end + 1))
      field_found e =
          let q = g.end in
          let v = g.value ∙ few_fit (leading_digits (drop at s)) (leading_all (drop at s)) (omega arith) in
          record {
            means = ap (λ z. read z (drop (d.end + 1) s)) v ∙ sym (field_by (read (get_or s d.end 0) (drop (d.end + 1) s)) (mark_here mark s d.end l e));
            inside = (omega arith, omega arith);
          }

-- what an answer says once its case is known
pub record Found (s : Bytes) (at mark v next : ℕ) : Type 0 where
  pub reads : read_field mark (drop at s) ≡ read v (drop next s)
  pub least : at + 2 ≤ next
  pub most : next ≤ length s

module _ {s : Bytes} {at mark : ℕ} {n : Option (ℕ × ℕ)} where
  pub number_found : {v next : ℕ} → n ≡ Some (v, next) → FieldIs s at mark n → Found s at mark v next
  number_found e h = let k = subst (λ z. FieldIs s at mark z) e h in record { reads = sym k.means; least = k.inside.0; most = k.inside.1 }

  pub number_none : n ≡ None → FieldIs s at mark n → read_field mark (drop at s) ≡ other
  number_none e h = sym (subst (λ z. FieldIs s at mark z) e h).means

-- ---- a span line

module _ {s : Bytes} {at : ℕ} where
  pub span_no_tag : read_field 32 (drop at s) ≡ other → LineIs s at None
  span_no_tag e = record { means = sym (line_no_tag (drop at s) e); inside = tt }

  module _ {a i : ℕ} (f : Found s at 32 a i) where
    pub span_no_start : read_field 32 (drop i s) ≡ other → LineIs s at None
    span_no_start e = record { means = sym (line_no_start (drop at s) a (drop i s) f.reads e); inside = tt }

    module _ {b j : ℕ} (g : Found s i 32 b j) where
      pub span_no_end : read_field 10 (drop j s) ≡ other → LineIs s at None
      span_no_end e = record { means = sym (line_no_end (drop at s) a (drop i s) f.reads b (drop j s) g.reads e); inside = tt }

      pub span_read : {c k : ℕ} → Found s j 10 c k → LineIs s at (Some (record { tag = a; start = b; end = c; next = k }))
      span_read {c} {k} h =
          let p = f.least in let q = g.least in let r = h.least in let t = h.most in
          record {
            means = sym (line_yes (drop at s) a (drop i s) f.reads b (drop j s) g.reads c (drop k s) h.reads);
            inside = (omega arith, omega arith);
          }
