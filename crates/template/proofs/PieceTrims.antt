-- Parts of a text, and what a trim leaves of a piece: again a piece, at the same end or from the same start. Assumes nothing.
use Prim.Native.Nat.{ℕ, suc, ◌+◌, ◌-◌, ◌≤◌, ◌<◌}
use native.Mathlib.Omega.{arith}
use mathlib.Core.Path.{◌≡◌, sym, ap, ap₂, ◌∙◌}
use mathlib.Core.List.{[], ◌∷◌, ◌++◌, reverse}
use mathlib.Core.Bool.{Bool, true, false}
use lib.ListN.{length, get_or, take, drop, length-drop}
use lib.Seq.{drop-cons, take-add, take-take, drop-drop, drop_at, length-take-le}
use Rattle.support.specs.Bytes.{Bytes, if, part, is_empty}
use Rattle.support.specs.Utf8.{Valid}
use Rattle.support.specs.Leading.{leading}
use Rattle.support.specs.WhiteSpace.{white_length, white_length_back}
use Rattle.support.specs.TextRules.{blank_length}
use Rattle.support.proofs.Pieces.{leading_le}
use Rattle.support.proofs.TrimLaws.{start_part, start_blanks_part, end_part, end_blanks_part, start_valid, start_blanks_valid, end_valid, end_blanks_valid}
use Rattle.support.proofs.Joins.{start_join, start_blanks_join, end_join, end_blanks_join}
use Rattle.template.specs.Raw.{Piece, start_trim, end_trim}

-- ---- parts of a part

module _ (t : Bytes) (a e : ℕ) (h : a ≤ e) (k : e ≤ length t) where
  pub part_length : length (part t a e) ≡ e - a
  part_length = length-take-le (e - a) (drop a t) (omega (arith, length-drop a t))

  -- its last n bytes, and its first
  pub part_last : (n : ℕ) → n ≤ e - a → drop (length (part t a e) - n) (part t a e) ≡ part t (e - n) e
  part_last n g =
      let m = e - a - n in
      let p : e - a ≡ m + n = omega arith in
      let q : length (part t a e) - n ≡ m = omega (arith, part_length) in
      let r : e - (e - n) ≡ n = omega arith in
      let s : a + m ≡ e - n = omega arith in
      let l : length (take m (drop a t)) ≡ m = length-take-le m (drop a t) (omega (arith, length-drop a t)) in
      ap (λ i. drop i (part t a e)) q
      ∙ ap (λ i. drop m (take i (drop a t))) p
      ∙ ap (drop m) (take-add m n (drop a t))
      ∙ drop_at (take m (drop a t)) (take n (drop m (drop a t))) m l
      ∙ ap (take n) (drop-drop m a t)
      ∙ ap (λ i. take n (drop i t)) s
      ∙ ap (λ i. take i (drop (e - n) t)) (sym r)

  pub part_first : (n : ℕ) → n ≤ e - a → take n (part t a e) ≡ part t a (a + n)
  part_first n g =
      let q : a + n - a ≡ n = omega arith in
      take-take n (e - a) (drop a t) g ∙ ap (λ i. take i (drop a t)) (sym q)

pub part_empty : (t : Bytes) (a : ℕ) → part t a a ≡ []
part_empty t a = let q : a - a ≡ 0 = omega arith in rw q

pub part_cons : (t : Bytes) (a e : ℕ) → a < e → e ≤ length t → part t a e ≡ get_or t a 0 ∷ part t (suc a) e
part_cons t a e h k = let q : e - a ≡ suc (e - suc a) = omega arith in ap₂ take q (drop-cons t a 0 (omega arith))

-- ---- what a trim leaves

drop_left : (s u : Bytes) (k : ℕ) → k ≤ length s → u ≡ drop k s → (length u ≤ length s) × (u ≡ drop (length s - length u) s)
drop_left s u k h e =
    let l : length u ≡ length s - k = ap length e ∙ length-drop k s in
    let q : k ≡ length s - length u = omega arith in
    (omega arith, e ∙ ap (λ i. drop i s) q)

take_left : (s u : Bytes) (k : ℕ) → k ≤ length s → u ≡ take k s → (length u ≤ length s) × (u ≡ take (length u) s)
take_left s u k h e =
    let l : length u ≡ k = ap length e ∙ length-take-le k s h in
    (omega arith, e ∙ ap (λ i. take i s) (sym l))

pub start_left : (w : Bool) (s : Bytes) → (length (start_trim w s) ≤ length s) × (start_trim w s ≡ drop (length s - length (start_trim w s)) s)
start_left true s = drop_left s _ (leading white_length s) (leading_le white_length 0 s) (start_part s)
start_left false s = drop_left s _ (leading blank_length s) (leading_le blank_length 0 s) (start_blanks_part s)

pub end_left : (w : Bool) (s : Bytes) → (length (end_trim w s) ≤ length s) × (end_trim w s ≡ take (length (end_trim w s)) s)
end_left true s = take_left s _ (length s - leading white_length_back (reverse s)) (omega arith) (end_part s)
end_left false s = take_left s _ (length s - leading blank_length (reverse s)) (omega arith) (end_blanks_part s)

start_valid_by : (w : Bool) (s : Bytes) → Valid s → Valid (start_trim w s)
start_valid_by true s v = start_valid s v
start_valid_by false s v = start_blanks_valid s v

end_valid_by : (w : Bool) (s : Bytes) → Valid s → Valid (end_trim w s)
end_valid_by true s v = end_valid s v
end_valid_by false s v = end_blanks_valid s v

pub start_join_by : (w : Bool) (s t : Bytes) → Valid s → start_trim w (s ++ t) ≡ if (is_empty (start_trim w s)) (start_trim w t) (start_trim w s ++ t)
start_join_by true s t v = start_join s t v
start_join_by false s t v = start_blanks_join s t v

pub end_join_by : (w : Bool) (s t : Bytes) → Valid t → end_trim w (s ++ t) ≡ if (is_empty (end_trim w t)) (end_trim w s) (s ++ end_trim w t)
end_join_by true s t v = end_join s t v
end_join_by false s t v = end_blanks_join s t v

module _ (w : Bool) {text : Bytes} {a e : ℕ} (p : Piece text a e) where
  -- the trimmed piece is a piece
  pub start_trimmed : part text (e - length (start_trim w (part text a e))) e ≡ start_trim w (part text a e)
  start_trimmed =
      let l = start_left w (part text a e) in
      let n = part_length text a e p.order p.inside in
      sym (l.1 ∙ part_last text a e p.order p.inside (length (start_trim w (part text a e))) (omega (arith, l.0)))

  pub start_piece : Piece text (e - length (start_trim w (part text a e))) e
  start_piece = record { order = omega arith; inside = p.inside; valid = rw start_trimmed (start_valid_by w (part text a e) p.valid) }

  pub end_trimmed : part text a (a + length (end_trim w (part text a e))) ≡ end_trim w (part text a e)
  end_trimmed =
      let l = end_left w (part text a e) in
      let n = part_length text a e p.order p.inside in
      sym (l.1 ∙ part_first text a e p.order p.inside (length (end_trim w (part text a e))) (omega (arith, l.0)))

  pub end_piece : Piece text a (a + length (end_trim w (part text a e)))
  end_piece =
      let l = end_left w (part text a e) in
      let n = part_length text a e p.order p.inside in
      record { order = omega arith; inside = omega (arith, l.0, p.inside, p.order); valid = rw end_trimmed (end_valid_by w (part text a e) p.valid) }
