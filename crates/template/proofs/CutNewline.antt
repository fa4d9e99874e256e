-- The first newline of a cut goes, over removed bytes: the byte at its front stands before what the rest denotes. Assumes nothing.
use Prim.Native.Nat.{ℕ, suc, ◌+◌, ◌≤◌, ◌<◌}
use native.Mathlib.Omega.{arith}
use native.Mathlib.Numerals.{add-one}
use mathlib.Core.Path.{◌≡◌, refl, sym, ap, subst, ◌∙◌}
use mathlib.Core.List.{List, [], ◌∷◌, ◌++◌}
use mathlib.Core.Bool.{Bool, true, false}
use lib.Dec.{ltb}
use lib.ListN.{get_or}
use borrow.Author.Tests.{ltb-true, ltb-false, ne_eqb}
use Rattle.support.specs.Bytes.{Bytes, part}
use Rattle.support.specs.Utf8.{rows, fits, row_length, char_length, Valid}
use Rattle.support.specs.TextRules.{strip_first_newline}
use Rattle.support.proofs.Characters.{ValidFrom, valid_start, first_char}
use Rattle.template.specs.Raw.{cut_means, CutGood, CutIs, piece_end, from_start, without_first, Skipped}
use Rattle.template.specs.declared.raw.Cut.{Cut}
use Rattle.template.proofs.PieceTrims.{part_empty, part_cons}
use Rattle.template.proofs.CutLaws.{rest_means, end_none, rest_more, rest_none, split_front, first_piece, start_good, rest_good, good_order}

-- ---- removed bytes at the front

module _ {text : Bytes} {words : List ℕ} {t : Bytes} {c : Cut} (s : CutIs text words t c) where
  pub skip_on : c.first < c.last → piece_end words c ≤ c.start → CutIs text words t (without_first c (piece_end words c))
  skip_on h k =
      let p = first_piece text words c s.good in
      let q : piece_end words c ≡ c.start = omega (arith, p.order) in
      record {
        good = rest_good text words c h s.good;
        means =
            sym (split_front text words c c.start
            ∙ ap (◌++ rest_means text words c) (ap (part text c.start) q ∙ part_empty text c.start)
            ∙ rest_more text words c h)
            ∙ s.means;
      }

  pub skip_next : {end : ℕ} {r : Cut} → end ≡ piece_end words c → c.first < c.last → end ≤ c.start → r ≡ without_first c end → CutIs text words t r
  skip_next {end} {r} e h k q = rw (q, e) (skip_on h (rw e at k))

pub skip_none : {text : Bytes} {words : List ℕ} {t : Bytes} {c : Cut} → CutIs text words t c → c.last ≤ c.first → Skipped text words t c
skip_none s h = record { is = s; byte = λ k. absurd (omega arith) }

pub skip_found : {text : Bytes} {words : List ℕ} {t : Bytes} {c : Cut} {end : ℕ} → CutIs text words t c → end ≡ piece_end words c → c.start < end
    → Skipped text words t c
skip_found s e h = record { is = s; byte = λ k. omega arith }

-- ---- the first newline

-- an ASCII character goes
pub ascii_first : (b : ℕ) (s : Bytes) → char_length (b ∷ s) ≡ 1 → Valid (b ∷ s) → Valid s
ascii_first b s e v =
    let f = first_char b s (valid_start (b ∷ s) v) in
    let q : f.0 ≡ 0 = omega (arith, f.1) in
    (subst (λ n. ValidFrom n s) q f.2).whole

feed_char : (s : Bytes) → char_length (10 ∷ s) ≡ 1
unfolding char_length row_length rows fits
feed_char s = refl

return_char : (s : Bytes) → char_length (13 ∷ s) ≡ 1
unfolding char_length row_length rows fits
return_char s = refl

strip_other_byte : (b : ℕ) (s : Bytes) → (b ≡ 10 → ⊥) → (b ≡ 13 → ⊥) → strip_first_newline (b ∷ s) ≡ b ∷ s
unfolding strip_first_newline
strip_other_byte b [] h k = rw (ne_eqb b 10 h)
strip_other_byte b (d ∷ s) h k = rw (ne_eqb b 10 h, ne_eqb b 13 k)

strip_feed_byte : (s : Bytes) → strip_first_newline (10 ∷ s) ≡ s
unfolding strip_first_newline
strip_feed_byte [] = refl
strip_feed_byte (b ∷ s) = refl

strip_lone_byte : (b : ℕ) (s : Bytes) → (b ≡ 10 → ⊥) → strip_first_newline (13 ∷ b ∷ s) ≡ 13 ∷ b ∷ s
unfolding strip_first_newline
strip_lone_byte b s h = rw (ne_eqb b 10 h)

module _ {text : Bytes} {words : List ℕ} {t : Bytes} {c : Cut} (s : Skipped text words t c) where
  there : c.start < c.end → c.start < piece_end words c
  there h = go (ltb c.first c.last) refl
    where
      go : (u : Bool) → ltb c.first c.last ≡ u → c.start < piece_end words c
      go true e = s.byte (ltb-true c.first c.last e)
      go false e = let q = end_none words c (ltb-false c.first c.last e) in omega arith

  -- the first byte before the others, and none at the end
  first_byte : c.start < c.end → t ≡ get_or text c.start 0 ∷ cut_means text words (from_start c (c.start + 1))
  first_byte h =
      let p = first_piece text words c s.is.good in
      let e = piece_end words c in
      let k = there h in
      sym s.is.means
      ∙ split_front text words c c.start
      ∙ ap (◌++ rest_means text words c) (part_cons text c.start e k p.inside)
      ∙ ap (λ i. get_or text c.start 0 ∷ (part text i e ++ rest_means text words c)) (sym (add-one c.start))
      ∙ ap (get_or text c.start 0 ∷◌) (sym (split_front text words c (c.start + 1)))

  no_byte : c.end ≤ c.start → t ≡ []
  no_byte h = go (ltb c.first c.last) refl
    where
      g : CutGood text words c
      g = s.is.good

      go : (u : Bool) → ltb c.first c.last ≡ u → t ≡ []
      go true e =
          let l = ltb-true c.first c.last e in
          let k = s.byte l in
          let o = good_order text words (without_first c (piece_end words c)) (rest_good text words c l g) in
          absurd (omega (arith, o.0))
      go false e =
          let l = ltb-false c.first c.last e in
          let o = good_order text words c g in
          let q : piece_end words c ≡ c.start = end_none words c l ∙ omega (arith, o.0) in
          sym s.is.means
          ∙ split_front text words c c.start
          ∙ ap (◌++ rest_means text words c) (ap (part text c.start) q ∙ part_empty text c.start)
          ∙ rest_none text words c l

  good_after : (b : ℕ) → ((u : Bytes) → char_length (b ∷ u) ≡ 1) → get_or text c.start 0 ≡ b → c.start < c.end
      → CutGood text words (from_start c (c.start + 1))
  good_after b one q h =
      let p = first_piece text words c s.is.good in
      let e = piece_end words c in
      let k = there h in
      let u = part text (suc c.start) e in
      let r : part text c.start e ≡ b ∷ u = part_cons text c.start e k p.inside ∙ ap (◌∷ u) q in
      start_good text words c (c.start + 1) s.is.good (record {
        order = omega arith;
        inside = p.inside;
        valid = rw (add-one c.start) (ascii_first b u (one u) (rw r at p.valid));
      })

module _ {text : Bytes} {words : List ℕ} {t : Bytes} {c : Cut} (s : Skipped text words t c) where
  pub strip_empty : c.end ≤ c.start → CutIs text words (strip_first_newline t) c
  unfolding strip_first_newline
  strip_empty h = let q = no_byte s h in record { good = s.is.good; means = s.is.means ∙ q ∙ sym (ap strip_first_newline q) }

  pub strip_feed : {r : Cut} → c.start < c.end → get_or text c.start 0 ≡ 10 → r ≡ from_start c (c.start + 1)
      → CutIs text words (strip_first_newline t) r
  strip_feed {r} h e q =
      let u = cut_means text words (from_start c (c.start + 1)) in
      rw q (record {
        good = good_after s 10 feed_char e h;
        means = sym (ap strip_first_newline (first_byte s h ∙ ap (◌∷ u) e) ∙ strip_feed_byte u);
      })

  pub strip_other : c.start < c.end → (get_or text c.start 0 ≡ 10 → ⊥) → (get_or text c.start 0 ≡ 13 → ⊥)
      → CutIs text words (strip_first_newline t) c
  strip_other h a b =
      let u = cut_means text words (from_start c (c.start + 1)) in
      let q = first_byte s h in
      record {
        good = s.is.good;
        means = s.is.means ∙ q ∙ sym (ap strip_first_newline q ∙ strip_other_byte (get_or text c.start 0) u a b);
      }

  -- k is what follows a CR
  module _ {k : Cut} (h : c.start < c.end) (e : get_or text c.start 0 ≡ 13) (q : k ≡ from_start c (c.start + 1)) where
    pub return_good : CutGood text words k
    return_good = rw q (good_after s 13 return_char e h)

    after_return : t ≡ 13 ∷ cut_means text words k
    after_return = rw q (first_byte s h ∙ ap (◌∷ cut_means text words (from_start c (c.start + 1))) e)

module _ {text : Bytes} {words : List ℕ} {t : Bytes} {c k : Cut} (s : Skipped text words t c)
    (h : c.start < c.end) (e : get_or text c.start 0 ≡ 13) (q : k ≡ from_start c (c.start + 1))
    {text₁ : Bytes} {words₁ : List ℕ} {f : Cut} (r : Skipped text₁ words₁ (cut_means text words k) f) where
  -- a lone CR stays
  pub return_end : f.end ≤ f.start → CutIs text words (strip_first_newline t) c
  unfolding strip_first_newline
  return_end z =
      let p : t ≡ 13 ∷ [] = after_return s h e q ∙ ap (13 ∷◌) (no_byte r z) in
      record { good = s.is.good; means = s.is.means ∙ p ∙ sym (ap strip_first_newline p) }

  pub return_other : f.start < f.end → (get_or text₁ f.start 0 ≡ 10 → ⊥) → CutIs text words (strip_first_newline t) c
  return_other z n =
      let b = get_or text₁ f.start 0 in
      let u = cut_means text₁ words₁ (from_start f (f.start + 1)) in
      let p : t ≡ 13 ∷ b ∷ u = after_return s h e q ∙ ap (13 ∷◌) (first_byte r z) in
      record { good = s.is.good; means = s.is.means ∙ p ∙ sym (ap strip_first_newline p ∙ strip_lone_byte b u n) }

  pub return_feed : {m : Cut} → f.start < f.end → get_or text₁ f.start 0 ≡ 10 → m ≡ from_start f (f.start + 1)
      → CutIs text₁ words₁ (strip_first_newline t) m
  unfolding strip_first_newline
  return_feed {m} z n w =
      let u = cut_means text₁ words₁ (from_start f (f.start + 1)) in
      let p : t ≡ 13 ∷ 10 ∷ u = after_return s h e q ∙ ap (13 ∷◌) (first_byte r z ∙ ap (◌∷ u) n) in
      rw w (record { good = good_after r 10 feed_char n z; means = sym (ap strip_first_newline p) })
