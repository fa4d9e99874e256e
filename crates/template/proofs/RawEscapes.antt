-- The escapes of a text: those from a number on up to one that ends past the text, by number; and on a good input the pieces between them are
-- valid, since each begins and ends at a character and a backslash is one. Assumes nothing.
use Prim.Native.Nat.{ℕ, zero, suc, ◌+◌, ◌-◌, ◌≤◌, ◌<◌}
use native.Mathlib.Omega.{arith}
use mathlib.Core.Path.{◌≡◌, refl, sym, ap, subst, ◌∙◌}
use mathlib.Core.List.{List, [], ◌∷◌, ◌++◌, append-nil, append_assoc}
use mathlib.Core.Bool.{Bool, true, false, ◌||◌, not, false≢true}
use mathlib.Core.Option.{Option, none, some}
use lib.Dec.{ltb, leb, eqb}
use lib.ListN.{length, get_or, drop, length-drop}
use lib.Seq.{get_or-drop, drop-drop, drop-cons}
use borrow.Author.Tests.{ltb-true, ltb-false, eqb-true, eqb-false, lt-ltb, le-ltb, not-true, not-false}
use Rattle.support.specs.Bytes.{Bytes}
use Rattle.support.specs.Utf8.{rows, fits, row_length, char_length, is_tail, is_char_boundary, Valid}
use Rattle.support.proofs.Table.{and_right}
use Rattle.support.proofs.Characters.{valid_cut}
use Rattle.json_path.specs.Span.{Span, span_at, span_count, is_escape, all_from, leading_escapes, escapes_from}
use Rattle.json_path.specs.Answers.{Escapes}
use Rattle.json_path.proofs.Spans.{all_end, all_next}
use Rattle.template.specs.Checks.{max_tag, bad_span, first_bad, bad_span_of}
use Rattle.template.specs.Escapes.{escapes_to, bad_escape, bad_escapes, unescaped}
use Rattle.template.specs.Element.{Good, RawGood, raw_escapes, raw_means, front_trim, back_trim}
use Rattle.template.specs.Raw.{numbered, cut_means, Piece, Pieces, CutIs}
use Rattle.template.specs.declared.raw.Cut.{Cut}
use Rattle.template.specs.declared.element.RawString.{RawString}
use Rattle.template.proofs.CutLaws.{numbered_last}
use Rattle.template.proofs.CutNewline.{ascii_first}

-- ---- counting them: those before k, and then those from k on

pub record Counting (words : List ℕ) (limit from k : ℕ) : Type 0 where
  pub same : escapes_to limit (escapes_from words from) ≡ numbered words from (k - from) ++ escapes_to limit (escapes_from words k)
  pub onward : from ≤ k

pub counting_start : (words : List ℕ) (limit from : ℕ) → Counting words limit from from
unfolding numbered
counting_start words limit from = let q : from - from ≡ 0 = omega arith in record { same = rw q; onward = omega arith }

module _ {words : List ℕ} {limit from k : ℕ} (g : Counting words limit from k) where
  stopped : escapes_to limit (escapes_from words k) ≡ [] → numbered words from (k - from) ≡ escapes_to limit (escapes_from words from)
  stopped e = sym (g.same ∙ ap (numbered words from (k - from) ++◌) e ∙ append-nil (numbered words from (k - from)))

  pub counting_end : escapes_from words k ≡ [] → numbered words from (k - from) ≡ escapes_to limit (escapes_from words from)
  unfolding escapes_to
  counting_end e = stopped (ap (escapes_to limit) e)

  module _ {x : Span} (w : Escapes words k x) where
    pub counting_stop : limit < x.end → numbered words from (k - from) ≡ escapes_to limit (escapes_from words from)
    unfolding escapes_to
    counting_stop h = stopped (ap (escapes_to limit) w.first ∙ rw (lt-ltb limit x.end h, escapes_to))

    pub counting_on : x.end ≤ limit → Counting words limit from (x.number + 1)
    unfolding escapes_to
    counting_on h =
        let n : x.number ≡ k = ap (λ z. z.number) w.stands in
        let q : k + 1 - from ≡ suc (k - from) = omega (arith, g.onward) in
        let p : from + (k - from) ≡ k = omega (arith, g.onward) in
        let r = escapes_to limit (escapes_from words (k + 1)) in
        let s : escapes_to limit (escapes_from words k) ≡ span_at words k ∷ r = ap (escapes_to limit) w.first ∙ rw (le-ltb limit x.end h, escapes_to) (ap (◌∷ r) w.stands) in
        rw n (record {
          same =
              g.same
              ∙ ap (numbered words from (k - from) ++◌) s
              ∙ sym (append_assoc (numbered words from (k - from)) (span_at words k ∷ []) r)
              ∙ ap (◌++ r) (ap (λ i. numbered words from (k - from) ++ (span_at words i ∷ [])) (sym p) ∙ sym (numbered_last words from (k - from)) ∙ ap (numbered words from) (sym q));
          onward = omega (arith, g.onward);
        })

-- ---- their pieces

pub or_false_left : (a b : Bool) → a || b ≡ false → a ≡ false
or_false_left true b e = e
or_false_left false b e = refl

pub or_false_right : (a b : Bool) → a || b ≡ false → b ≡ false
or_false_right true b e = absurd (false≢true (sym e))
or_false_right false b e = e

bad_none : (text : Bytes) (x : Span) (r : List Span) → first_bad text (x ∷ r) ≡ none → (bad_span text x ≡ false) × (first_bad text r ≡ none)
unfolding first_bad
bad_none text x r e = go (bad_span text x) refl e
  where
    go : (u : Bool) → bad_span text x ≡ u → ◌≡◌ {A = Option ℕ} (elim u [ true ↦ some x.number | false ↦ first_bad text r ]) none → (bad_span text x ≡ false) × (first_bad text r ≡ none)
    go true q e = let z : ◌≡◌ {A = ℕ} 0 1 = cc in absurd (omega arith)
    go false q e = (q, e)

-- no span from number k on is bad
none_from : (text : Bytes) (words : List ℕ) → bad_span_of text words ≡ none → (k : ℕ) → first_bad text (all_from words k) ≡ none
unfolding first_bad
none_from text words e zero = e
none_from text words e (suc k) = go (ltb k (span_count words)) refl (none_from text words e k)
  where
    go : (u : Bool) → ltb k (span_count words) ≡ u → first_bad text (all_from words k) ≡ none → first_bad text (all_from words (suc k)) ≡ none
    go true q f =
        let p : k + 1 ≡ suc k = omega arith in
        let h = all_next words k (ltb-true k (span_count words) q) in
        subst (λ i. first_bad text (all_from words i) ≡ none) p (bad_none text (span_at words k) (all_from words (k + 1)) (rw h at f)).1
    go false q f = let h : span_count words ≤ suc k = omega (arith, ltb-false k (span_count words) q) in rw (all_end words (suc k) h)

-- a span that is not bad ends no earlier than it starts
span_order : (text : Bytes) (x : Span) → bad_span text x ≡ false → x.start ≤ x.end
unfolding bad_span
span_order text x e =
    let rest = ltb (length text) x.end || (not (is_char_boundary text x.start) || not (is_char_boundary text x.end)) in
    ltb-false x.end x.start (or_false_left (ltb x.end x.start) rest (or_false_right (ltb max_tag x.tag) (ltb x.end x.start || rest) e))

boundary_tail : (text : Bytes) (n : ℕ) → is_char_boundary text n ≡ true → is_tail (get_or text n 0) ≡ false
unfolding is_char_boundary
boundary_tail text n e = not-true (is_tail (get_or text n 0)) (and_right (leb n (length text)) (not (is_tail (get_or text n 0))) e)

-- a valid text from a on is cut before a byte that is no tail byte
piece_cut : (text : Bytes) (a e : ℕ) → Valid (drop a text) → a ≤ e → e ≤ length text → is_tail (get_or text e 0) ≡ false → Piece text a e
piece_cut text a e v h k t =
    let q : a + (e - a) ≡ e = omega arith in
    let s : get_or (drop a text) (e - a) 0 ≡ get_or text e 0 = get_or-drop a text (e - a) 0 ∙ ap (λ i. get_or text i 0) q in
    record {
      order = h;
      inside = k;
      valid = (valid_cut (drop a text) (e - a) v (omega (arith, length-drop a text)) (ap is_tail s ∙ t)).0;
    }

-- what a good escape is: a backslash from `least` on
pub record Backslash (text : Bytes) (least : ℕ) (x : Span) : Type 0 where
  pub some : x.start ≡ x.end → ⊥
  pub byte : get_or text x.start 0 ≡ 92
  pub from : least ≤ x.start

good_escape : (text : Bytes) (least : ℕ) (x : Span) → bad_escape text least x ≡ false → Backslash text least x
good_escape text least x e =
    let b = not (eqb (get_or text x.start 0) 92) in
    let l = ltb x.start least in
    let r = or_false_right (eqb x.start x.end) (b || l) e in
    record {
      some = eqb-false x.start x.end (or_false_left (eqb x.start x.end) (b || l) e);
      byte = eqb-true (get_or text x.start 0) 92 (not-false (eqb (get_or text x.start 0) 92) (or_false_left b l r));
      from = ltb-false x.start least (or_false_right b l r);
    }

bad_escapes_none : (text : Bytes) (least : ℕ) (x : Span) (r : List Span) → bad_escapes text least (x ∷ r) ≡ false
    → Backslash text least x × (bad_escapes text (suc x.start) r ≡ false)
unfolding bad_escapes
bad_escapes_none text least x r e = go (bad_escape text least x) refl e
  where
    go : (u : Bool) → bad_escape text least x ≡ u → elim u [ true ↦ true | false ↦ bad_escapes text (suc x.start) r ] ≡ false
        → Backslash text least x × (bad_escapes text (suc x.start) r ≡ false)
    go true q e = absurd (false≢true (sym e))
    go false q e = (good_escape text least x q, e)

backslash_char : (s : Bytes) → char_length (92 ∷ s) ≡ 1
unfolding char_length row_length rows fits
backslash_char s = refl

module _ (text : Bytes) (limit : ℕ) (inside : limit ≤ length text) (ends : is_tail (get_or text limit 0) ≡ false) where
  -- behind a backslash the text is valid again
  behind : (a s : ℕ) → Valid (drop a text) → a ≤ s → s < length text → get_or text s 0 ≡ 92 → Piece text a s × Valid (drop (suc s) text)
  behind a s v h k b =
      let q : a + (s - a) ≡ s = omega arith in
      let t : is_tail (get_or text s 0) ≡ false = ap is_tail b in
      let g : get_or (drop a text) (s - a) 0 ≡ get_or text s 0 = get_or-drop a text (s - a) 0 ∙ ap (λ i. get_or text i 0) q in
      let c = valid_cut (drop a text) (s - a) v (omega (arith, length-drop a text)) (ap is_tail g ∙ t) in
      let d : drop (s - a) (drop a text) ≡ 92 ∷ drop (suc s) text = drop-drop (s - a) a text ∙ ap (λ i. drop i text) q ∙ drop-cons text s 0 k ∙ ap (◌∷ drop (suc s) text) b in
      (piece_cut text a s v h (omega arith) t, ascii_first 92 (drop (suc s) text) (backslash_char (drop (suc s) text)) (rw d at c.1))

  pieces : (l : List Span) (a : ℕ) → first_bad text l ≡ none → Valid (drop a text) → a ≤ limit
      → bad_escapes text a (escapes_to limit (leading_escapes l)) ≡ false → Pieces text a limit (escapes_to limit (leading_escapes l))
  unfolding escapes_to leading_escapes
  pieces [] a f v h b = piece_cut text a limit v h inside ends
  pieces (x ∷ r) a f v h b = go (is_escape x) refl b (λ w k d. pieces r (suc x.start) (bad_none text x r f).1 w k d)
    where
      n : (bad_span text x ≡ false) × (first_bad text r ≡ none)
      n = bad_none text x r f

      xs : List Span
      xs = escapes_to limit (leading_escapes r)

      Next : Type 0
      Next = Valid (drop (suc x.start) text) → suc x.start ≤ limit → bad_escapes text (suc x.start) xs ≡ false → Pieces text (suc x.start) limit xs

      own : (u : Bool) → ltb limit x.end ≡ u → bad_escapes text a (elim u [ true ↦ [] | false ↦ x ∷ xs ]) ≡ false → Next
          → Pieces text a limit (elim u [ true ↦ [] | false ↦ x ∷ xs ])
      own true q b next = piece_cut text a limit v h inside ends
      own false q b next =
          let g = bad_escapes_none text a x xs b in
          let o = span_order text x n.0 in
          let e = ltb-false limit x.end q in
          let s : suc x.start ≤ limit = omega (arith, g.0.some, o, e) in
          let p = behind a x.start v g.0.from (omega arith) g.0.byte in
          (p.0, next p.1 s g.1)

      go : (u : Bool) → is_escape x ≡ u → bad_escapes text a (escapes_to limit (elim u [ true ↦ x ∷ leading_escapes r | false ↦ [] ])) ≡ false → Next
          → Pieces text a limit (escapes_to limit (elim u [ true ↦ x ∷ leading_escapes r | false ↦ [] ]))
      go true q b next = own (ltb limit x.end) refl b next
      go false q b next = piece_cut text a limit v h inside ends

-- the cut of a text that the walk makes
pub raw_cut : {text : Bytes} {words : List ℕ} {r : RawString} → Good text words → RawGood text words r
    → (q : ℕ) → numbered words r.escapes (q - r.escapes) ≡ escapes_to r.end (escapes_from words r.escapes)
    → CutIs text words (unescaped text r.start r.end (raw_escapes text words r)) (record { start = r.start; end = r.end; first = r.escapes; last = q })
unfolding escapes_from cut_means
raw_cut {text} {words} {r} g w q e =
    let h : r.start ≤ length text = omega (arith, w.order, w.inside) in
    let v = (valid_cut text r.start g.valid h (boundary_tail text r.start w.starts)).1 in
    let f = none_from text words g.spans r.escapes in
    record {
      good = record { pieces = rw e (pieces text r.end w.inside (boundary_tail text r.end w.ends) (all_from words r.escapes) r.start f v w.order w.escapes) };
      means = ap (unescaped text r.start r.end) e;
    }

-- both trims of it give the text's meaning
pub raw_means_lem : {text text₁ text₂ : Bytes} {words words₁ words₂ : List ℕ} {whole d c : Cut} (r : RawString)
    → CutIs text words (unescaped text r.start r.end (raw_escapes text words r)) whole
    → CutIs text₁ words₁ (front_trim r.front (cut_means text words whole)) d → CutIs text₂ words₂ (back_trim r.back (cut_means text₁ words₁ d)) c
    → cut_means text₂ words₂ c ≡ raw_means text words r
unfolding raw_means
raw_means_lem r w f b = b.means ∙ ap (back_trim r.back) (f.means ∙ ap (front_trim r.front) w.means)
