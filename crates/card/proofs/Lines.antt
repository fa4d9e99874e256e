-- Span lines one after the other: `read_lines` without a bound on their number. Assumes nothing.
use Prim.Native.Nat.{ℕ, zero, suc, ◌≤◌}
use native.Mathlib.Omega.{arith}
use mathlib.Core.Path.{◌≡◌, refl, sym, ap, ◌∙◌}
use mathlib.Core.List.{List, [], ◌∷◌, ◌++◌}
use lib.ListN.{length}
use Rattle.support.specs.Bytes.{Bytes}
use Rattle.card.specs.Number.{leading_digits}
use Rattle.card.specs.Read.{Read, read, other, read_line, Lines, lines, prepend, lines_by, read_lines, line_words, line_rest}
use Rattle.card.proofs.Fields.{not_both, field_no, line_no_tag, line_shorter}

pub by_read : (n : ℕ) (s : Bytes) (ws : List ℕ) (r : Bytes) → read_line s ≡ read ws r → lines_by (suc n) s ≡ prepend ws (lines_by n r)
unfolding lines_by
by_read n s ws r e = rw (e, lines_by)

pub by_other : (n : ℕ) (s : Bytes) → read_line s ≡ other → lines_by n s ≡ lines [] s
unfolding lines_by
by_other zero s e = refl
by_other (suc n) s e = rw (e, lines_by)

pub line_nil : read_line [] ≡ other
unfolding leading_digits
line_nil = line_no_tag [] (field_no 32 [] refl)

no_line : (s : Bytes) → length s ≤ 0 → read_line s ≡ other
no_line [] h = line_nil
no_line (b ∷ s) h = absurd (omega arith)

-- a bound that is no less than the bytes makes no difference
enough : (n m : ℕ) (s : Bytes) → length s ≤ n → length s ≤ m → lines_by n s ≡ lines_by m s
enough zero m s h k = by_other zero s (no_line s h) ∙ sym (by_other m s (no_line s h))
enough (suc n) zero s h k = by_other (suc n) s (no_line s k) ∙ sym (by_other zero s (no_line s k))
enough (suc n) (suc m) s h k = go (read_line s) refl (λ r i j. enough n m r i j)
  where
    go : (x : Read (List ℕ)) → read_line s ≡ x → ((r : Bytes) → length r ≤ n → length r ≤ m → lines_by n r ≡ lines_by m r) → lines_by (suc n) s ≡ lines_by (suc m) s
    go (read ws r) e ih =
        let l = line_shorter s ws r e in
        by_read n s ws r e ∙ ap (prepend ws) (ih r (omega arith) (omega arith)) ∙ sym (by_read m s ws r e)
    go other e ih = by_other (suc n) s e ∙ sym (by_other (suc m) s e)

pub lines_read : (s : Bytes) (ws : List ℕ) (r : Bytes) → read_line s ≡ read ws r → read_lines s ≡ prepend ws (read_lines r)
unfolding read_lines
lines_read [] ws r e = not_both line_nil e
lines_read (b ∷ s) ws r e =
    let l = line_shorter (b ∷ s) ws r e in
    by_read (length s) (b ∷ s) ws r e ∙ ap (prepend ws) (enough (length s) (length r) r (omega arith) (omega arith))

pub lines_other : (s : Bytes) → read_line s ≡ other → read_lines s ≡ lines [] s
unfolding read_lines
lines_other s e = by_other (length s) s e

pub words_prepend : (ws : List ℕ) (x : Lines) → line_words (prepend ws x) ≡ ws ++ line_words x
words_prepend ws (lines vs r) = refl

pub rest_prepend : (ws : List ℕ) (x : Lines) → line_rest (prepend ws x) ≡ line_rest x
rest_prepend ws (lines vs r) = refl
