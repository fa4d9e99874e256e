-- The pieces of a cut: the first one before the rest, and the last one behind it. The escapes of a cut are those from its first number on, so
-- the rest is again a cut. Assumes nothing.
use Prim.Native.Nat.{ℕ, zero, suc, ◌+◌, ◌-◌, ◌≤◌, ◌<◌}
use native.Mathlib.Omega.{arith}
use native.Mathlib.Numerals.{add-one}
use mathlib.Core.Path.{◌≡◌, refl, sym, ap, ◌∙◌}
use mathlib.Core.List.{List, [], ◌∷◌, ◌++◌, append-nil, append_assoc}
use mathlib.Core.Bool.{Bool, true, false}
use lib.Dec.{ltb}
use lib.ListN.{length}
use borrow.Author.Tests.{ltb-true, ltb-false, lt-ltb, le-ltb}
use Rattle.support.specs.Bytes.{Bytes, if, part}
use Rattle.json_path.specs.Span.{Span, span_at}
use Rattle.template.specs.Escapes.{unescaped}
use Rattle.template.specs.Raw.{numbered, cut_escapes, cut_means, Piece, Pieces, CutGood, piece_end, piece_start, from_start, to_end, without_first, without_last}
use Rattle.template.specs.declared.raw.Cut.{Cut}

-- ---- escapes by number

pub numbered_last : (words : List ℕ) (k n : ℕ) → numbered words k (suc n) ≡ numbered words k n ++ (span_at words (k + n) ∷ [])
unfolding numbered
numbered_last words k zero = let q : k + 0 ≡ k = omega arith in rw q
numbered_last words k (suc n) =
    let q : k + 1 + n ≡ k + suc n = omega arith in
    ap (span_at words k ∷◌) (numbered_last words (k + 1) n) ∙ rw q

module _ (words : List ℕ) (c : Cut) where
  escapes_none : c.last ≤ c.first → cut_escapes words c ≡ []
  unfolding numbered
  escapes_none h = let q : c.last - c.first ≡ 0 = omega arith in rw q

  escapes_first : c.first < c.last → cut_escapes words c ≡ span_at words c.first ∷ numbered words (c.first + 1) (c.last - (c.first + 1))
  unfolding numbered
  escapes_first h = let q : c.last - c.first ≡ suc (c.last - (c.first + 1)) = omega arith in rw q

  escapes_last : c.first < c.last → cut_escapes words c ≡ numbered words c.first (c.last - 1 - c.first) ++ (span_at words (c.last - 1) ∷ [])
  escapes_last h =
      let q : c.last - c.first ≡ suc (c.last - 1 - c.first) = omega arith in
      let r : c.first + (c.last - 1 - c.first) ≡ c.last - 1 = omega arith in
      ap (numbered words c.first) q ∙ numbered_last words c.first (c.last - 1 - c.first) ∙ rw r

  pub end_more : c.first < c.last → piece_end words c ≡ (span_at words c.first).start
  end_more h = rw (lt-ltb c.first c.last h)

  pub end_none : c.last ≤ c.first → piece_end words c ≡ c.end
  end_none h = rw (le-ltb c.first c.last h)

  pub start_more : c.first < c.last → piece_start words c ≡ (span_at words (c.last - 1)).start + 1
  start_more h = rw (lt-ltb c.first c.last h)

  pub start_none : c.last ≤ c.first → piece_start words c ≡ c.start
  start_none h = rw (le-ltb c.first c.last h)

-- the rest has an escape less
pub rest_less : (c : Cut) (e : ℕ) {r : Cut} → r ≡ without_first c e → c.first < c.last → r.last - r.first < c.last - c.first
rest_less c e q h = omega (arith, ap (λ z. z.first) q, ap (λ z. z.last) q)

pub front_less : (c : Cut) (a : ℕ) {r : Cut} → r ≡ without_last c a → c.first < c.last → r.last - r.first < c.last - c.first
front_less c a q h = omega (arith, ap (λ z. z.first) q, ap (λ z. z.last) q)

-- ---- the last escape of a list

unescaped_last : (text : Bytes) (a e : ℕ) (r : List Span) (x : Span) → unescaped text a e (r ++ (x ∷ [])) ≡ unescaped text a x.start r ++ part text (suc x.start) e
unfolding unescaped
unescaped_last text a e [] x = refl
unescaped_last text a e (y ∷ r) x =
    ap (part text a y.start ++◌) (unescaped_last text (suc y.start) e r x)
    ∙ sym (append_assoc (part text a y.start) (unescaped text (suc y.start) x.start r) (part text (suc x.start) e))

pieces_last : (text : Bytes) (a e : ℕ) (r : List Span) (x : Span) → Pieces text a e (r ++ (x ∷ [])) → Pieces text a x.start r × Piece text (suc x.start) e
pieces_last text a e [] x p = p
pieces_last text a e (y ∷ r) x p = let q = pieces_last text (suc y.start) e r x p.1 in ((p.0, q.0), q.1)

pieces_join : (text : Bytes) (a e : ℕ) (r : List Span) (x : Span) → Pieces text a x.start r → Piece text (suc x.start) e → Pieces text a e (r ++ (x ∷ []))
pieces_join text a e [] x p q = (p, q)
pieces_join text a e (y ∷ r) x p q = (p.0, pieces_join text (suc y.start) e r x p.1 q)

pub pieces_order : (text : Bytes) (a e : ℕ) (r : List Span) → Pieces text a e r → (a ≤ e) × (e ≤ length text)
pieces_order text a e [] p = (p.order, p.inside)
pieces_order text a e (x ∷ r) p = let q = pieces_order text (suc x.start) e r p.1 in (omega (arith, p.0.order, q.0), q.1)

-- ---- the first piece of a cut

module _ (text : Bytes) (words : List ℕ) (c : Cut) where
  -- what follows the first piece
  pub rest_means : Bytes
  rest_means = if (ltb c.first c.last) (cut_means text words (without_first c (piece_end words c))) []

  pub rest_more : c.first < c.last → rest_means ≡ cut_means text words (without_first c (piece_end words c))
  unfolding rest_means
  rest_more h = rw (lt-ltb c.first c.last h)

  pub rest_none : c.last ≤ c.first → rest_means ≡ []
  unfolding rest_means
  rest_none h = rw (le-ltb c.first c.last h)

  pub split_front : (a : ℕ) → cut_means text words (from_start c a) ≡ part text a (piece_end words c) ++ rest_means
  unfolding cut_means rest_means unescaped
  split_front a = go (ltb c.first c.last) refl
    where
      go : (u : Bool) → ltb c.first c.last ≡ u
          → cut_means text words (from_start c a)
          ≡ part text a (if u (span_at words c.first).start c.end) ++ if u (cut_means text words (without_first c (if u (span_at words c.first).start c.end))) []
      go true e =
          ap (unescaped text a c.end) (escapes_first words c (ltb-true c.first c.last e))
          ∙ rw (add-one (span_at words c.first).start)
      go false e = ap (unescaped text a c.end) (escapes_none words c (ltb-false c.first c.last e)) ∙ sym (append-nil (part text a c.end))

  -- the parts of a good cut
  pub first_piece : CutGood text words c → Piece text c.start (piece_end words c)
  first_piece g = go (ltb c.first c.last) refl
    where
      go : (u : Bool) → ltb c.first c.last ≡ u → Piece text c.start (if u (span_at words c.first).start c.end)
      go true e = (rw (escapes_first words c (ltb-true c.first c.last e)) at g.pieces).0
      go false e = rw (escapes_none words c (ltb-false c.first c.last e)) at g.pieces

  pub start_good : (a : ℕ) → CutGood text words c → Piece text a (piece_end words c) → CutGood text words (from_start c a)
  start_good a g p = go (ltb c.first c.last) refl p
    where
      go : (u : Bool) → ltb c.first c.last ≡ u → Piece text a (if u (span_at words c.first).start c.end) → CutGood text words (from_start c a)
      go true e p =
          let q = escapes_first words c (ltb-true c.first c.last e) in
          record { pieces = rw q (p, (rw q at g.pieces).1) }
      go false e p = record { pieces = rw (escapes_none words c (ltb-false c.first c.last e)) p }

  pub rest_good : c.first < c.last → CutGood text words c → CutGood text words (without_first c (piece_end words c))
  rest_good h g = rw (end_more words c h, add-one (span_at words c.first).start) (record { pieces = (rw (escapes_first words c h) at g.pieces).1 })

  pub good_order : CutGood text words c → (c.start ≤ c.end) × (c.end ≤ length text)
  good_order g = pieces_order text c.start c.end (cut_escapes words c) g.pieces

  -- an escape's first byte stands in the text
  pub end_inside : {end : ℕ} → CutGood text words c → end ≡ piece_end words c → c.first < c.last → end < length text
  end_inside g e h = let o = pieces_order text (piece_end words c + 1) c.end (cut_escapes words (without_first c (piece_end words c))) (rest_good h g).pieces in omega (arith, o.0, o.1, e)

-- ---- and the last one

module _ (text : Bytes) (words : List ℕ) (c : Cut) where
  -- what stands before the last piece
  pub front_means : Bytes
  front_means = if (ltb c.first c.last) (cut_means text words (without_last c (piece_start words c))) []

  pub front_more : c.first < c.last → front_means ≡ cut_means text words (without_last c (piece_start words c))
  unfolding front_means
  front_more h = rw (lt-ltb c.first c.last h)

  pub front_none : c.last ≤ c.first → front_means ≡ []
  unfolding front_means
  front_none h = rw (le-ltb c.first c.last h)

  pub split_back : (e : ℕ) → cut_means text words (to_end c e) ≡ front_means ++ part text (piece_start words c) e
  unfolding cut_means front_means unescaped
  split_back e = go (ltb c.first c.last) refl
    where
      go : (u : Bool) → ltb c.first c.last ≡ u
          → cut_means text words (to_end c e)
          ≡ (if u (cut_means text words (without_last c (if u ((span_at words (c.last - 1)).start + 1) c.start))) []) ++ part text (if u ((span_at words (c.last - 1)).start + 1) c.start) e
      go true q =
          let x = span_at words (c.last - 1) in
          let s : x.start + 1 - 1 ≡ x.start = omega arith in
          ap (unescaped text c.start e) (escapes_last words c (ltb-true c.first c.last q))
          ∙ unescaped_last text c.start e (numbered words c.first (c.last - 1 - c.first)) x
          ∙ rw (s, add-one x.start)
      go false q = ap (unescaped text c.start e) (escapes_none words c (ltb-false c.first c.last q))

  pub last_piece : CutGood text words c → Piece text (piece_start words c) c.end
  last_piece g = go (ltb c.first c.last) refl
    where
      go : (u : Bool) → ltb c.first c.last ≡ u → Piece text (if u ((span_at words (c.last - 1)).start + 1) c.start) c.end
      go true q =
          let x = span_at words (c.last - 1) in
          let p = pieces_last text c.start c.end (numbered words c.first (c.last - 1 - c.first)) x (rw (escapes_last words c (ltb-true c.first c.last q)) at g.pieces) in
          rw (add-one x.start) p.1
      go false q = rw (escapes_none words c (ltb-false c.first c.last q)) at g.pieces

  pub front_good : c.first < c.last → CutGood text words c → CutGood text words (without_last c (piece_start words c))
  front_good h g =
      let x = span_at words (c.last - 1) in
      let s : x.start + 1 - 1 ≡ x.start = omega arith in
      let p = pieces_last text c.start c.end (numbered words c.first (c.last - 1 - c.first)) x (rw (escapes_last words c h) at g.pieces) in
      rw (start_more words c h, s) (record { pieces = p.0 })

  pub end_good : (e : ℕ) → CutGood text words c → Piece text (piece_start words c) e → CutGood text words (to_end c e)
  end_good e g p = go (ltb c.first c.last) refl p
    where
      go : (u : Bool) → ltb c.first c.last ≡ u → Piece text (if u ((span_at words (c.last - 1)).start + 1) c.start) e → CutGood text words (to_end c e)
      go true q p =
          let x = span_at words (c.last - 1) in
          let l = escapes_last words c (ltb-true c.first c.last q) in
          let r = numbered words c.first (c.last - 1 - c.first) in
          let f = pieces_last text c.start c.end r x (rw l at g.pieces) in
          record { pieces = rw l (pieces_join text c.start e r x f.0 (rw (add-one x.start) at p)) }
      go false q p = record { pieces = rw (escapes_none words c (ltb-false c.first c.last q)) p }

  -- the byte before it stands in the text
  pub start_byte : CutGood text words c → c.first < c.last → (span_at words (c.last - 1)).start < length text
  start_byte g h = let p = last_piece g in omega (arith, p.order, p.inside, start_more words c h)
