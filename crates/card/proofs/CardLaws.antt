-- The laws for the code that stores the words of span lines and reads a card. Assumes nothing.
use Prim.Native.Nat.{ℕ, suc, ◌+◌, ◌-◌, ◌≤◌, ◌<◌}
use native.Mathlib.Omega.{arith}
use mathlib.Core.Path.{◌≡◌, refl, sym, ap, subst, ◌∙◌}
use mathlib.Core.List.{List, [], ◌∷◌, ◌++◌, append_assoc, append-nil}
use mathlib.Core.Option.{none, some}
use lib.ListN.{length, get_or, drop, set, length-append, length-drop}
use lib.Seq.{sets, length-sets}
use borrow.Author.Tests.{le-leb, lt-leb}
use Rattle.std.specs.Prelude.{Option, Some, None}
use Rattle.support.specs.Bytes.{Bytes}
use Rattle.support.proofs.ByteLaws.{no_bytes}
use Rattle.card.specs.Card.{max_bytes, said}
use Rattle.card.specs.Read.{Read, read, other, read_mark, read_field, Lines, lines, read_lines, read_text, read_card, line_words, line_rest}
use Rattle.card.specs.Answers.{LineIs, LinesIs, answer_of, words_of, CardIs}
use Rattle.card.specs.declared.read.SpanLine as declared
use Rattle.card.specs.declared.read.Lines as declared_lines
use Rattle.card.proofs.Lines.{lines_read, lines_other, words_prepend, rest_prepend}
use Rattle.card.proofs.Stores.{stored_more}
use Rattle.card.proofs.FieldLaws.{Found, mark_past, mark_other, mark_here}

-- ---- three words more behind those that are stored

stored_three : (ws l : List ℕ) (n a b c : ℕ) → length ws ≡ n → set (set (set (sets l 0 ws) n a) (n + 1) b) (n + 2) c ≡ sets l 0 (ws ++ (a ∷ b ∷ c ∷ []))
stored_three ws l n a b c e =
    let h : 0 + length ws ≡ n = omega arith in
    let i : n + 1 ≡ suc n = omega arith in
    let j : n + 2 ≡ suc (suc n) = omega arith in
    ap (λ z. set (set (set (sets l 0 ws) n a) z b) (n + 2) c) i
    ∙ ap (λ z. set (set (set (sets l 0 ws) n a) (suc n) b) z c) j
    ∙ sym (stored_more ws (a ∷ b ∷ c ∷ []) l 0 ∙ ap (λ z. sets (sets l 0 ws) z (a ∷ b ∷ c ∷ [])) h)

-- ---- the loop over span lines: n words, ws, of the lines before `at` are stored

pub record Storing (s : Bytes) (from : ℕ) (l m : List ℕ) (n at : ℕ) : Type 0 where
  pub ws : List ℕ
  pub count : length ws ≡ n
  pub stored : m ≡ sets l 0 ws
  pub words : line_words (read_lines (drop from s)) ≡ ws ++ line_words (read_lines (drop at s))
  pub rest : line_rest (read_lines (drop from s)) ≡ line_rest (read_lines (drop at s))
  pub short : n ≤ at
  pub inside : at ≤ length s

pub storing_starts : (s : Bytes) (from : ℕ) (l : List ℕ) → from ≤ length s → Storing s from l l 0 from
storing_starts s from l h = record { ws = []; count = refl; stored = refl; words = refl; rest = refl; short = omega arith; inside = h }

module _ {s : Bytes} {from : ℕ} {l m : List ℕ} {n at : ℕ} (g : Storing s from l m n at) where
  pub storing_ends : {x : Option declared.SpanLine} → x ≡ None → LineIs s at x → LinesIs s from l m (record { words = n; next = at })
  storing_ends {x} e h =
      let o = lines_other (drop at s) (sym (subst (λ z. LineIs s at z) e h).means) in
      let w : line_words (read_lines (drop from s)) ≡ g.ws = g.words ∙ ap (λ z. g.ws ++ line_words z) o ∙ append-nil g.ws in
      record { stored = g.stored ∙ ap (sets l 0) (sym w); words = sym g.count ∙ ap length (sym w); rest = g.rest ∙ ap line_rest o }

  module _ {x : Option declared.SpanLine} {p : declared.SpanLine} (e : x ≡ Some p) (h : LineIs s at x) where
    line : LineIs s at (Some p)
    line = subst (λ z. LineIs s at z) e h

    pub line_least : at + 6 ≤ p.next
    line_least = line.inside.0

    pub line_most : p.next ≤ length s
    line_most = line.inside.1

    pub storing_goes_on : {m₁ m₂ m₃ : List ℕ} → m₁ ≡ set m n p.tag → m₂ ≡ set m₁ (n + 1) p.start → m₃ ≡ set m₂ (n + 2) p.end → Storing s from l m₃ (n + 3) p.next
    storing_goes_on {m₁} {m₂} {m₃} e₁ e₂ e₃ =
        let a = line_least in
        let q = g.count in
        let i = g.short in
        let vs : List ℕ = p.tag ∷ p.start ∷ p.end ∷ [] in
        let r = lines_read (drop at s) vs (drop p.next s) (sym line.means) in
        record {
          ws = g.ws ++ vs;
          count = (let t = length-append g.ws vs in omega arith);
          stored =
              e₃ ∙ ap (λ y. set y (n + 2) p.end) (e₂ ∙ ap (λ y. set y (n + 1) p.start) (e₁ ∙ ap (λ y. set y n p.tag) g.stored))
              ∙ stored_three g.ws l n p.tag p.start p.end g.count;
          words =
              g.words ∙ ap (λ y. g.ws ++ line_words y) r ∙ ap (g.ws ++◌) (words_prepend vs (read_lines (drop p.next s)))
              ∙ sym (append_assoc g.ws vs (line_words (read_lines (drop p.next s))));
          rest = g.rest ∙ ap line_rest r ∙ rest_prepend vs (read_lines (drop p.next s));
          short = omega arith;
          inside = line_most;
        }

-- ---- a card

module _ (o : ℕ) where
  text_other : (x : Lines) → read_mark 10 (line_rest x) ≡ other → read_text o x ≡ none
  text_other (lines ws r) e = rw (e, read_text)

  text_read : (x : Lines) (c : ℕ) (t : Bytes) → read_mark 10 (line_rest x) ≡ read c t → read_text o x ≡ some (said o (line_words x) t)
  text_read (lines ws r) c t e = rw (e, read_text)

module _ (s : Bytes) where
  pub card_long : max_bytes < length s → read_card s ≡ none
  unfolding read_card
  card_long h = rw (lt-leb (length s) max_bytes h, read_card)

  module _ (h : length s ≤ max_bytes) where
    pub card_no_options : read_field 10 s ≡ other → read_card s ≡ none
    unfolding read_card
    card_no_options e = rw (le-leb (length s) max_bytes h, e, read_card)

    pub card_options : (o : ℕ) (r : Bytes) → read_field 10 s ≡ read o r → read_card s ≡ read_text o (read_lines r)
    unfolding read_card
    card_options o r e = rw (le-leb (length s) max_bytes h, e, read_card)

-- other input: nothing is stored
untouched : (s : Bytes) (l : List ℕ) → read_card s ≡ none → CardIs s l l None
untouched s l e = record { answer = ap (answer_of s) (sym e); stored = ap (λ x. sets l 0 (words_of x)) (sym e) }

pub too_long : (s : Bytes) (l : List ℕ) → max_bytes < length s → CardIs s l l None
too_long s l h = untouched s l (card_long s h)

module _ {s : Bytes} (h : length s ≤ max_bytes) where
  pub no_options : (l : List ℕ) → read_field 10 s ≡ other → CardIs s l l None
  no_options l e = untouched s l (card_no_options s h e)

  -- the span lines are read over no words
  module _ {o from : ℕ} (f : Found s 0 10 o from) {m : List ℕ} {x : declared_lines.Lines} (g : LinesIs s from [] m x) where
    text_at : {y : Read ℕ} → read_mark 10 (drop x.next s) ≡ y → read_mark 10 (line_rest (read_lines (drop from s))) ≡ y
    text_at e = ap (read_mark 10) g.rest ∙ e

    -- which leaves the lent ones as they were
    module _ (l : List ℕ) where
      same : m ++ l ≡ l
      same = ap (◌++ l) (no_bytes m (ap length g.stored ∙ length-sets [] 0 (line_words (read_lines (drop from s)))))

      no_text : read_mark 10 (drop x.next s) ≡ other → CardIs s l (m ++ l) None
      no_text e = rw same (untouched s l (card_options s h o (drop from s) f.reads ∙ text_other o (read_lines (drop from s)) (text_at e)))

      pub ended : length s ≤ x.next → CardIs s l (m ++ l) None
      ended e = no_text (mark_past 10 s x.next e)

      module _ (k : x.next < length s) where
        pub not_empty : (get_or s x.next 0 ≡ 10 → ⊥) → CardIs s l (m ++ l) None
        not_empty e = no_text (mark_other 10 s x.next k e)

        -- and then over l
        pub card_found : get_or s x.next 0 ≡ 10 → {n : List ℕ} {y : declared_lines.Lines} → LinesIs s from (m ++ l) n y
            → CardIs s l n (Some (record { options = o; words = y.words; text = x.next + 1 }))
        card_found e {n} {y} i =
            let text : Bytes = drop (x.next + 1) s in
            let read_as = text_read o (read_lines (drop from s)) (get_or s x.next 0) text (text_at (mark_here 10 s x.next k e)) in
            let found = card_options s h o (drop from s) f.reads ∙ read_as in
            let d = length-drop (x.next + 1) s in
            let t : x.next + 1 ≡ length s - length text = omega arith in
            record {
              answer =
                  ap (λ z. Some (record { options = o; words = z; text = x.next + 1 })) i.words
                  ∙ ap (λ z. Some (record { options = o; words = length (line_words (read_lines (drop from s))); text = z })) t
                  ∙ ap (answer_of s) (sym found);
              stored = i.stored ∙ ap (λ z. sets z 0 (line_words (read_lines (drop from s)))) same ∙ ap (λ z. sets l 0 (words_of z)) (sym found);
            }
