-- What is read is what is written: `read_card` gives what a card says exactly for the bytes that are a card, and one input is one card at most.
-- Digits end at the byte behind them, which is none, so that each number is read whole. Assumes nothing.
use Prim.Native.Nat.{ℕ, zero, suc, ◌+◌, ◌-◌, ◌*◌, ◌≤◌}
use native.Mathlib.Omega.{arith}
use mathlib.Core.Path.{◌≡◌, refl, sym, ap, ◌∙◌}
use mathlib.Core.Bool.{Bool, true, false}
use mathlib.Core.List.{List, [], ◌∷◌, ◌++◌, append_assoc}
use mathlib.Core.Option.{Option, none, some}
use lib.Dec.{leb, eqb}
use lib.ListN.{length, drop, length-append}
use lib.Seq.{drop-append_seam, drop_at}
use borrow.Author.Tests.{leb-true, leb-false, le-leb, eq-eqb, eqb-true}
use Rattle.support.specs.Bytes.{Bytes, if}
use Rattle.card.specs.Number.{is_digit, leading_digits, decimal}
use Rattle.card.specs.Card.{max_bytes, max_digits, Number, SpanLine, Card, write_field, write_line, write_lines, write, IsCard, Said, said, span_words, says}
use Rattle.card.specs.Read.{Read, read, other, and_then, is_number, read_mark, read_field, read_line, Lines, lines, prepend, lines_by, read_lines, line_words, line_rest, read_text, read_card}
use Rattle.card.proofs.Numbers.{leading_all, leading_before}
use Rattle.card.proofs.Fields.{field_no, field_yes, Taken, field_taken, line_no_tag, line_yes, LineTaken, line_taken}
use Rattle.card.proofs.Lines.{by_read, by_other, lines_read, lines_other, words_prepend, rest_prepend}
use Rattle.card.proofs.CardLaws.{card_long, card_no_options, card_options}

-- ---- what is written is read

module _ (n : Number) (mark : ℕ) (e : is_digit mark ≡ false) (r : Bytes) where
  digits : leading_digits (write_field n mark r) ≡ n.digits
  digits = leading_before n.digits mark r n.each e

  field_written : read_field mark (write_field n mark r) ≡ read (decimal n.digits) r
  field_written =
      let l = n.least in
      let m = n.most in
      let few : is_number n.digits ≡ true = rw (le-leb 1 (length n.digits) l, le-leb (length n.digits) max_digits m) in
      let behind : drop (length (leading_digits (write_field n mark r))) (write_field n mark r) ≡ mark ∷ r = ap (λ z. drop (length z) (write_field n mark r)) digits ∙ drop-append_seam n.digits (mark ∷ r) in
      let here : read_mark mark (mark ∷ r) ≡ read mark r = rw (eq-eqb mark mark refl, read_mark) in
      field_yes mark (write_field n mark r) (ap is_number digits ∙ few)
      ∙ ap (λ z. and_then z (λ c q. read (decimal (leading_digits (write_field n mark r))) q)) (ap (read_mark mark) behind ∙ here)
      ∙ ap (λ z. read (decimal z) r) digits

line_written : (l : SpanLine) (r : Bytes) → read_line (write_line l r) ≡ read (decimal l.tag.digits ∷ decimal l.start.digits ∷ decimal l.end.digits ∷ []) r
unfolding is_digit
line_written l r =
    let c : Bytes = write_field l.end 10 r in
    let b : Bytes = write_field l.start 32 c in
    line_yes (write_line l r)
    (decimal l.tag.digits) b (field_written l.tag 32 refl b)
    (decimal l.start.digits) c (field_written l.start 32 refl c)
    (decimal l.end.digits) r (field_written l.end 10 refl r)

-- an empty line is no span line
line_empty : (t : Bytes) → read_line (10 ∷ t) ≡ other
unfolding leading_digits is_digit
line_empty t = line_no_tag (10 ∷ t) (field_no 32 (10 ∷ t) refl)

lines_written : (ls : List SpanLine) (t : Bytes) → read_lines (write_lines ls (10 ∷ t)) ≡ lines (span_words ls) (10 ∷ t)
unfolding write_lines span_words
lines_written [] t = lines_other (10 ∷ t) (line_empty t)
lines_written (l ∷ ls) t =
    lines_read (write_line l (write_lines ls (10 ∷ t)))
    (decimal l.tag.digits ∷ decimal l.start.digits ∷ decimal l.end.digits ∷ [])
    (write_lines ls (10 ∷ t)) (line_written l (write_lines ls (10 ∷ t)))
    ∙ ap (prepend (decimal l.tag.digits ∷ decimal l.start.digits ∷ decimal l.end.digits ∷ [])) (lines_written ls t)

-- the bytes of a card are read as what it says
pub card_is_read : (s : Bytes) (c : Card) → IsCard s c → read_card s ≡ some (says c)
unfolding is_digit
card_is_read s c h =
    let r : Bytes = write_lines c.spans (10 ∷ c.text) in
    card_options s h.within (decimal c.options.digits) r (ap (read_field 10) h.written ∙ field_written c.options 10 refl r)
    ∙ ap (read_text (decimal c.options.digits)) (lines_written c.spans c.text)

-- ---- what is read is written

-- a number with these digits
abbrev number_taken : {mark : ℕ} {s : Bytes} {v : ℕ} {r : Bytes} → Taken mark s v r → Number
number_taken {mark} {s} t = record { digits = leading_digits s; each = leading_all s; least = t.least; most = t.most }

-- span lines that are written as s before r and say ws
record Spans (s : Bytes) (ws : List ℕ) (r : Bytes) : Type 0 where
  spans : List SpanLine
  bytes : s ≡ write_lines spans r
  words : span_words spans ≡ ws

no_spans : (s : Bytes) → Spans s [] s
unfolding write_lines span_words
no_spans s = record { spans = []; bytes = refl; words = refl }

abbrev span_taken : {s : Bytes} {ws : List ℕ} {r : Bytes} → LineTaken s ws r → SpanLine
span_taken t = record { tag = number_taken t.first; start = number_taken t.second; end = number_taken t.third }

one_more_lem : {s : Bytes} {ws : List ℕ} {r : Bytes} (t : LineTaken s ws r) (vs : List ℕ) (q : Bytes) → Spans r vs q → Spans s (ws ++ vs) q
unfolding write_lines span_words
one_more_lem {s} {ws} {r} t vs q g =
    let a = t.first in
    let b = t.second in
    let c = t.third in
    record {
      spans = span_taken t ∷ g.spans;
      bytes =
          a.split ∙ ap (λ z. leading_digits s ++ (32 ∷ z)) (b.split
          ∙ ap (λ z. leading_digits t.behind_tag ++ (32 ∷ z)) (c.split
          ∙ ap (λ z. leading_digits t.behind_start ++ (10 ∷ z)) g.bytes));
      words = (let x = a.value in let y = b.value in let z = c.value in let w = g.words in let v = t.words in cc);
    }

spans_taken : (n : ℕ) (s : Bytes) → Spans s (line_words (lines_by n s)) (line_rest (lines_by n s))
unfolding lines_by
spans_taken zero s = no_spans s
spans_taken (suc n) s = go (read_line s) refl (λ r. spans_taken n r)
  where
    go : (x : Read (List ℕ)) → read_line s ≡ x → ((r : Bytes) → Spans r (line_words (lines_by n r)) (line_rest (lines_by n r))) → Spans s (line_words (lines_by (suc n) s)) (line_rest (lines_by (suc n) s))
    go (read ws r) e ih =
        rw (by_read n s ws r e)
        (rw (words_prepend ws (lines_by n r), rest_prepend ws (lines_by n r))
        (one_more_lem (line_taken s ws r e) (line_words (lines_by n r)) (line_rest (lines_by n r)) (ih r)))
    go other e ih = rw (by_other (suc n) s e) (no_spans s)

-- nothing is not something
no_said : {A : Type 0} {x : Said} {o : Option Said} → o ≡ none → o ≡ some x → A
no_said e f = let z : ◌≡◌ {A = ℕ} 0 1 = cc in absurd (omega arith)

-- a text is read behind an empty line
record Text (o : ℕ) (x : Lines) (y : Said) : Type 0 where
  text : Bytes
  rest : line_rest x ≡ 10 ∷ text
  means : said o (line_words x) text ≡ y

text_taken : (o : ℕ) (x : Lines) (y : Said) → read_text o x ≡ some y → Text o x y
text_taken o (lines ws []) y e = no_said refl e
text_taken o (lines ws (c ∷ t)) y e = go (eqb c 10) refl e
  where
    go : (b : Bool) → eqb c 10 ≡ b → ◌≡◌ {A = Option Said} (elim (if b (read c t) other) [ read d text ↦ some (said o ws text) | other ↦ none ]) (some y) → Text o (lines ws (c ∷ t)) y
    go true f g = let h = eqb-true c 10 f in record { text = t; rest = (cc); means = (cc) }
    go false f g = no_said refl g

-- a card that the bytes are, and that says x
pub record ReadFrom (s : Bytes) (x : Said) : Type 0 where
  pub card : Card
  pub is : IsCard s card
  pub means : says card ≡ x

-- what is read is what the bytes, a card, say
pub read_is_card : (s : Bytes) (x : Said) → read_card s ≡ some x → ReadFrom s x
unfolding read_lines
read_is_card s x e = long (leb (length s) max_bytes) refl
  where
    options : length s ≤ max_bytes → (y : Read ℕ) → read_field 10 s ≡ y → ReadFrom s x
    options h (read o r) f =
        let a = field_taken 10 s o r f in
        let g = spans_taken (length r) r in
        let t = text_taken o (read_lines r) x (sym (card_options s h o r f) ∙ e) in
        record {
          card = record { options = number_taken a; spans = g.spans; text = t.text };
          is = record {
            written = a.split ∙ ap (λ z. leading_digits s ++ (10 ∷ z)) (g.bytes ∙ ap (write_lines g.spans) t.rest);
            within = h;
          };
          means = ap (λ z. said z (span_words g.spans) t.text) a.value ∙ ap (λ z. said o z t.text) g.words ∙ t.means;
        }
    options h other f = no_said (card_no_options s h f) e

    long : (b : Bool) → leb (length s) max_bytes ≡ b → ReadFrom s x
    long true f = options (leb-true (length s) max_bytes f) (read_field 10 s) refl
    long false f = no_said (card_long s (leb-false (length s) max_bytes f)) e

-- where none is read the bytes are no card
pub none_is_read : (s : Bytes) (c : Card) → read_card s ≡ none → IsCard s c → ⊥
none_is_read s c e h = no_said e (card_is_read s c h)

-- one input says one thing
pub says_once : (s : Bytes) (c d : Card) → IsCard s c → IsCard s d → says c ≡ says d
says_once s c d h k = let f = card_is_read s c h in let g = card_is_read s d k in cc

-- ---- how many words there are: each takes a digit and the byte behind it

spans_long : (ls : List SpanLine) (r : Bytes) → 2 * length (span_words ls) + length r ≤ length (write_lines ls r)
unfolding write_lines span_words
spans_long [] r = omega arith
spans_long (l ∷ ls) r =
    let h = spans_long ls r in
    let rest : Bytes = write_lines ls r in
    let c : Bytes = write_field l.end 10 rest in
    let b : Bytes = write_field l.start 32 c in
    let i = length-append l.tag.digits (32 ∷ b) in
    let j = length-append l.start.digits (32 ∷ c) in
    let k = length-append l.end.digits (10 ∷ rest) in
    let x = l.tag.least in
    let y = l.start.least in
    let z = l.end.least in
    omega arith

pub words_fit : (s : Bytes) (o : ℕ) (ws : List ℕ) (t : Bytes) → read_card s ≡ some (said o ws t) → 2 * length ws ≤ max_bytes
words_fit s o ws t e =
    let f = read_is_card s (said o ws t) e in
    let c = f.card in
    let w : span_words c.spans ≡ ws = (let m = f.means in cc) in
    let n : length (span_words c.spans) ≡ length ws = ap length w in
    let r : Bytes = write_lines c.spans (10 ∷ c.text) in
    let i = length-append c.options.digits (10 ∷ r) in
    let h = spans_long c.spans (10 ∷ c.text) in
    let j : length s ≡ length (write c) = ap length f.is.written in
    let k = f.is.within in
    omega arith

-- ---- the text is the end of the bytes

lines_front : (ls : List SpanLine) (r : Bytes) → write_lines ls r ≡ write_lines ls [] ++ r
unfolding write_lines
lines_front [] r = refl
lines_front (l ∷ ls) r = rw (lines_front ls r) (simp append_assoc)

pub text_last : (s : Bytes) (c : Card) → s ≡ write c → drop (length s - length c.text) s ≡ c.text
text_last s c e =
    let o : Bytes = c.options.digits in
    let ls : Bytes = write_lines c.spans [] in
    let p : Bytes = o ++ (10 ∷ (ls ++ (10 ∷ []))) in
    let f : s ≡ p ++ c.text = e ∙ ap (λ z. o ++ (10 ∷ z)) (lines_front c.spans (10 ∷ c.text)) ∙ simp append_assoc in
    let n : length s ≡ length p + length c.text = ap length f ∙ length-append p c.text in
    ap (drop (length s - length c.text)) f ∙ drop_at p c.text (length s - length c.text) (omega arith)
