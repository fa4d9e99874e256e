-- Trimming a cut piece by piece: a first piece that is all trimmed goes, with the removed byte after it, and so does a last one. Assumes nothing.
use Prim.Native.Nat.{ℕ, ◌+◌, ◌-◌, ◌≤◌, ◌<◌}
use native.Mathlib.Omega.{arith}
use mathlib.Core.Path.{◌≡◌, refl, sym, ap, subst, ◌∙◌}
use mathlib.Core.List.{List, [], ◌∷◌, ◌++◌, append-nil}
use mathlib.Core.Bool.{Bool}
use mathlib.Core.Logic.{◌⊎◌, inl, inr}
use lib.ListN.{length}
use Rattle.support.specs.Bytes.{Bytes, if, part, is_empty}
use Rattle.support.proofs.ByteLaws.{no_bytes}
use Rattle.template.specs.Raw.{cut_means, Piece, CutGood, CutIs, piece_end, piece_start, from_start, to_end, without_first, without_last, start_trim, end_trim}
use Rattle.template.specs.declared.raw.Cut.{Cut}
use Rattle.template.proofs.PieceTrims.{part_length, part_empty, start_left, end_left, start_join_by, end_join_by, start_trimmed, start_piece, end_trimmed, end_piece}
use Rattle.template.proofs.CutLaws.{rest_means, rest_more, rest_none, split_front, first_piece, start_good, front_means, front_more, front_none, split_back, last_piece, end_good}

empty_if : {A : Type 0} (s : Bytes) (x y : A) → length s ≡ 0 → if (is_empty s) x y ≡ x
empty_if [] x y e = refl
empty_if (b ∷ s) x y e = absurd (omega arith)

some_if : {A : Type 0} (s : Bytes) (x y : A) → 0 < length s → if (is_empty s) x y ≡ y
some_if [] x y h = absurd (omega arith)
some_if (b ∷ s) x y h = refl

-- ---- the front

module _ {text : Bytes} {words : List ℕ} (w : Bool) (c : Cut) (g : CutGood text words c) where
  joined : start_trim w (cut_means text words c) ≡ if (is_empty (start_trim w (part text c.start (piece_end words c)))) (start_trim w (rest_means text words c)) (start_trim w (part text c.start (piece_end words c)) ++ rest_means text words c)
  joined =
      ap (start_trim w) (split_front text words c c.start)
      ∙ start_join_by w (part text c.start (piece_end words c)) (rest_means text words c) (first_piece text words c g).valid

  pub front_some : 0 < length (start_trim w (part text c.start (piece_end words c)))
      → CutIs text words (start_trim w (cut_means text words c)) (from_start c (piece_end words c - length (start_trim w (part text c.start (piece_end words c)))))
  front_some h =
      let p = first_piece text words c g in
      let e = piece_end words c in
      let s = start_trim w (part text c.start e) in
      record {
        good = start_good text words c (e - length s) g (start_piece w p);
        means =
            split_front text words c (e - length s)
            ∙ ap (◌++ rest_means text words c) (start_trimmed w p)
            ∙ sym (joined ∙ some_if s (start_trim w (rest_means text words c)) (s ++ rest_means text words c) h);
      }

  pub front_on : length (start_trim w (part text c.start (piece_end words c))) ≡ 0 → c.first < c.last
      → start_trim w (cut_means text words c) ≡ start_trim w (cut_means text words (without_first c (piece_end words c)))
  front_on z h =
      let s = start_trim w (part text c.start (piece_end words c)) in
      joined ∙ empty_if s (start_trim w (rest_means text words c)) (s ++ rest_means text words c) z ∙ ap (start_trim w) (rest_more text words c h)

  pub front_end : length (start_trim w (part text c.start (piece_end words c))) ≡ 0 → c.last ≤ c.first
      → CutIs text words (start_trim w (cut_means text words c)) (from_start c (piece_end words c))
  front_end z h =
      let p = first_piece text words c g in
      let e = piece_end words c in
      let s = start_trim w (part text c.start e) in
      let q : e - length s ≡ e = omega arith in
      let none = rest_none text words c h in
      record {
        good = start_good text words c e g (subst (λ i. Piece text i e) q (start_piece w p));
        means =
            split_front text words c e
            ∙ ap (◌++ rest_means text words c) (part_empty text e)
            ∙ none
            ∙ sym (no_bytes (start_trim w []) (omega (arith, (start_left w []).0)))
            ∙ ap (start_trim w) (sym none)
            ∙ sym (joined ∙ empty_if s (start_trim w (rest_means text words c)) (s ++ rest_means text words c) z);
      }

-- ---- the end

module _ {text : Bytes} {words : List ℕ} (w : Bool) (c : Cut) (g : CutGood text words c) where
  joined_back : end_trim w (cut_means text words c) ≡ if (is_empty (end_trim w (part text (piece_start words c) c.end))) (end_trim w (front_means text words c)) (front_means text words c ++ end_trim w (part text (piece_start words c) c.end))
  joined_back =
      ap (end_trim w) (split_back text words c c.end)
      ∙ end_join_by w (front_means text words c) (part text (piece_start words c) c.end) (last_piece text words c g).valid

  module _ (t : Bytes) (e : end_trim w (part text (piece_start words c) c.end) ≡ t) where
    good_back : CutGood text words (to_end c (piece_start words c + length t))
    good_back = rw e at (end_good text words c (piece_start words c + length (end_trim w (part text (piece_start words c) c.end))) g (end_piece w (last_piece text words c g)))

    means_back : cut_means text words (to_end c (piece_start words c + length t)) ≡ front_means text words c ++ t
    means_back =
        split_back text words c (piece_start words c + length t)
        ∙ ap (front_means text words c ++◌) (rw e at (end_trimmed w (last_piece text words c g)))

  pub back_some : 0 < length (end_trim w (part text (piece_start words c) c.end))
      → CutIs text words (end_trim w (cut_means text words c)) (to_end c (piece_start words c + length (end_trim w (part text (piece_start words c) c.end))))
  back_some h =
      let s = end_trim w (part text (piece_start words c) c.end) in
      record {
        good = good_back s refl;
        means = means_back s refl ∙ sym (joined_back ∙ some_if s (end_trim w (front_means text words c)) (front_means text words c ++ s) h);
      }

  pub back_on : length (end_trim w (part text (piece_start words c) c.end)) ≡ 0 → c.first < c.last
      → end_trim w (cut_means text words c) ≡ end_trim w (cut_means text words (without_last c (piece_start words c)))
  back_on z h =
      let s = end_trim w (part text (piece_start words c) c.end) in
      joined_back ∙ empty_if s (end_trim w (front_means text words c)) (front_means text words c ++ s) z ∙ ap (end_trim w) (front_more text words c h)

  pub back_end : length (end_trim w (part text (piece_start words c) c.end)) ≡ 0 → c.last ≤ c.first
      → CutIs text words (end_trim w (cut_means text words c)) (to_end c (piece_start words c))
  back_end z h =
      let s = end_trim w (part text (piece_start words c) c.end) in
      let none = front_none text words c h in
      let n : end_trim w [] ≡ [] = no_bytes (end_trim w []) (omega (arith, (end_left w []).0)) in
      let q : piece_start words c + 0 ≡ piece_start words c = omega arith in
      let k = no_bytes s z in
      record {
        good = subst (λ i. CutGood text words (to_end c i)) q (good_back [] k);
        means =
            ap (λ i. cut_means text words (to_end c i)) (sym q)
            ∙ means_back [] k
            ∙ append-nil (front_means text words c)
            ∙ none
            ∙ sym n
            ∙ ap (end_trim w) (sym none)
            ∙ sym (joined_back ∙ empty_if s (end_trim w (front_means text words c)) (front_means text words c ++ s) z);
      }

-- ---- the loops: what is trimmed of c is t, what is trimmed of the cut at the start

module _ {text : Bytes} {words : List ℕ} (w : Bool) {t : Bytes} {c : Cut} (g : CutGood text words c) (m : start_trim w (cut_means text words c) ≡ t)
    {end left : ℕ} {s : Bytes} (e : end ≡ piece_end words c) (p : s ≡ part text c.start end) (l : left ≡ length (start_trim w s)) where
  front_size : left ≡ length (start_trim w (part text c.start (piece_end words c)))
  front_size = l ∙ ap (λ u. length (start_trim w u)) (p ∙ ap (part text c.start) e)

  pub fronting_fits : left ≤ end
  fronting_fits =
      let k = first_piece text words c g in
      let n = part_length text c.start (piece_end words c) k.order k.inside in
      omega (arith, front_size, e, n, (start_left w (part text c.start (piece_end words c))).0)

  pub fronting_done : {r : Cut} → (0 < left) ⊎ ((left ≤ 0) × (c.last ≤ c.first)) → r ≡ from_start c (end - left) → CutIs text words t r
  fronting_done {r} (inl h) q =
      let k = front_some w c g (rw front_size at h) in
      rw (q, e, front_size) (record { good = k.good; means = k.means ∙ m })
  fronting_done {r} (inr h) q =
      let k = front_end w c g (omega (arith, h.0, front_size)) h.1 in
      let d : end - left ≡ end = omega (arith, h.0) in
      rw (q, d, e) (record { good = k.good; means = k.means ∙ m })

  pub fronting_on : {r : Cut} → left ≤ 0 → c.first < c.last → r ≡ without_first c end → start_trim w (cut_means text words r) ≡ t
  fronting_on {r} z h q =
      rw (q, e) (sym (front_on w c g (omega (arith, front_size)) h) ∙ m)

module _ {text : Bytes} {words : List ℕ} (w : Bool) {t : Bytes} {c : Cut} (g : CutGood text words c) (m : end_trim w (cut_means text words c) ≡ t)
    {start left : ℕ} {s : Bytes} (e : start ≡ piece_start words c) (p : s ≡ part text start c.end) (l : left ≡ length (end_trim w s)) where
  back_size : left ≡ length (end_trim w (part text (piece_start words c) c.end))
  back_size = l ∙ ap (λ u. length (end_trim w u)) (p ∙ ap (λ i. part text i c.end) e)

  pub backing_fits : start + left ≤ length text
  backing_fits =
      let k = last_piece text words c g in
      let n = part_length text (piece_start words c) c.end k.order k.inside in
      omega (arith, back_size, e, n, k.order, k.inside, (end_left w (part text (piece_start words c) c.end)).0)

  pub backing_done : {r : Cut} → (0 < left) ⊎ ((left ≤ 0) × (c.last ≤ c.first)) → r ≡ to_end c (start + left) → CutIs text words t r
  backing_done {r} (inl h) q =
      let k = back_some w c g (rw back_size at h) in
      rw (q, e, back_size) (record { good = k.good; means = k.means ∙ m })
  backing_done {r} (inr h) q =
      let k = back_end w c g (omega (arith, h.0, back_size)) h.1 in
      let d : start + left ≡ start = omega (arith, h.0) in
      rw (q, d, e) (record { good = k.good; means = k.means ∙ m })

  pub backing_on : {r : Cut} → left ≤ 0 → c.first < c.last → r ≡ without_last c start → end_trim w (cut_means text words r) ≡ t
  backing_on {r} z h q =
      rw (q, e) (sym (back_on w c g (omega (arith, back_size)) h) ∙ m)
