-- How long texts are: nothing that is read from a text is much longer than it. The bounds are generous. Assumes nothing.
use Prim.Native.Nat.{ℕ, zero, suc, ◌+◌, ◌-◌, ◌*◌, ◌/◌, ◌%◌, ◌≤◌}
use native.Mathlib.Omega.{arith}
use mathlib.Core.List.{List, [], ◌∷◌, reverse}
use mathlib.Core.Bool.{Bool, true, false, ◌&&◌}
use lib.Dec.{eqb, ltb}
use lib.ListN.{length, take, drop, length-take, length-drop, length-append}
use Rattle.support.specs.Bytes.{Bytes, ascii, if, part}
use Rattle.support.specs.Leading.{leading, drop_front, drop_back}
use Rattle.support.specs.WhiteSpace.{trim_start, trim_end}
use Rattle.support.specs.TextRules.{trim_start_blanks, trim_end_blanks, trailing_blanks, strip_first_newline, match_length, trim_start_matches, trim_end_matches, comment_compact_text, comment_text}
use Rattle.support.proofs.TextLaws.{end_blanks_le}
use Rattle.json_path.specs.Span.{Span, span_count, decode, all_from, is_escape, without_escapes, leading_escapes, spans_from, escapes_from}
use Rattle.literal.specs.Requote.{unescape_single, escape_double, requoted}
use Rattle.listing.specs.Quoted.{digits, decimal, escape, escaped, quoted}
use Rattle.template.specs.Escapes.{escapes_to, unescaped}
use Rattle.template.specs.Element.{front_trim, back_trim, raw_escapes, raw_means, comment_means}
use Rattle.template.specs.declared.element.Front.{Front}
use Rattle.template.specs.declared.element.Back.{Back}
use Rattle.template.specs.declared.element.RawString.{RawString}
use Rattle.template.specs.declared.element.Comment.{Comment}

-- ---- parts

pub take_short : (n : ℕ) (l : Bytes) → length (take n l) ≤ length l
take_short n l = omega (arith, length-take n l)

pub drop_short : (n : ℕ) (l : Bytes) → length (drop n l) ≤ length l
drop_short n l = omega (arith, length-drop n l)

pub part_short : (t : Bytes) (a e : ℕ) → length (part t a e) ≤ length t
part_short t a e = omega (arith, take_short (e - a) (drop a t), drop_short a t)

front_short : (size : Bytes → ℕ) (s : Bytes) → length (drop_front size s) ≤ length s
unfolding drop_front
front_short size s = drop_short (leading size s) s

back_short : (size : Bytes → ℕ) (s : Bytes) → length (drop_back size s) ≤ length s
unfolding drop_back
back_short size s = take_short (length s - leading size (reverse s)) s

start_blanks_short : (s : Bytes) → length (trim_start_blanks s) ≤ length s
unfolding trim_start_blanks
start_blanks_short s = front_short _ s

start_short : (s : Bytes) → length (trim_start s) ≤ length s
unfolding trim_start
start_short s = front_short _ s

end_short : (s : Bytes) → length (trim_end s) ≤ length s
unfolding trim_end
end_short s = back_short _ s

newline_short : (s : Bytes) → length (strip_first_newline s) ≤ length s
unfolding strip_first_newline
newline_short [] = omega arith
newline_short (a ∷ []) = go (eqb a 10)
  where
    go : (t : Bool) → length (if t [] (a ∷ [])) ≤ 1
    go true = omega arith
    go false = omega arith
newline_short (a ∷ b ∷ s) = go (eqb a 10) (eqb a 13 && eqb b 10)
  where
    go : (t u : Bool) → length (if t (b ∷ s) (if u s (a ∷ b ∷ s))) ≤ length (a ∷ b ∷ s)
    go true u = omega arith
    go false true = omega arith
    go false false = omega arith

-- the blanks at the end of a text's front
pub blanks_short : (text : Bytes) (n : ℕ) → length (trailing_blanks (take n text)) ≤ length text
unfolding trailing_blanks
blanks_short text n = omega (arith, drop_short (length (trim_end_blanks (take n text))) (take n text), take_short n text)

marks_short : (p q s : Bytes) → length (trim_end_matches p (trim_start_matches q s)) ≤ length s
unfolding trim_end_matches trim_start_matches
marks_short p q s = omega (arith, back_short (match_length (reverse p)) (drop_front (match_length q) s), front_short (match_length q) s)

compact_short : (s : Bytes) → length (comment_compact_text s) ≤ length s
unfolding comment_compact_text
compact_short s = marks_short (ascii "}}") (ascii "{{!") s

comment_text_short : (s : Bytes) → length (comment_text s) ≤ length s
unfolding comment_text
comment_text_short s = marks_short (ascii "--}}") (ascii "{{!--") s

pub comment_short : (text : Bytes) (words : List ℕ) (c : Comment) → length (comment_means text words c) ≤ length text
comment_short text words c = go c.compact
  where
    go : (t : Bool) → length (if t (comment_compact_text (part text c.start c.end)) (comment_text (part text c.start c.end))) ≤ length text
    go true = omega (arith, compact_short (part text c.start c.end), part_short text c.start c.end)
    go false = omega (arith, comment_text_short (part text c.start c.end), part_short text c.start c.end)

-- ---- spans

decode_short : (n : ℕ) (ws : List ℕ) → 3 * length (decode n ws) ≤ length ws
unfolding decode
decode_short n [] = omega arith
decode_short n (t ∷ []) = omega arith
decode_short n (t ∷ s ∷ []) = omega arith
decode_short n (t ∷ s ∷ e ∷ ws) = let h = decode_short (n + 1) ws in omega arith

all_short : (words : List ℕ) (k : ℕ) → length (all_from words k) ≤ span_count words
unfolding all_from
all_short words k = omega (arith, decode_short k (drop (3 * k) words), length-drop (3 * k) words)

without_short : (s : List Span) → length (without_escapes s) ≤ length s
unfolding without_escapes
without_short [] = omega arith
without_short (x ∷ s) = go (is_escape x) (without_short s)
  where
    go : (t : Bool) → length (without_escapes s) ≤ length s → length {A = Span} (elim t [ true ↦ without_escapes s | false ↦ x ∷ without_escapes s ]) ≤ suc (length s)
    go true h = omega arith
    go false h = omega arith

leading_short : (s : List Span) → length (leading_escapes s) ≤ length s
unfolding leading_escapes
leading_short [] = omega arith
leading_short (x ∷ s) = go (is_escape x) (leading_short s)
  where
    go : (t : Bool) → length (leading_escapes s) ≤ length s → length {A = Span} (elim t [ true ↦ x ∷ leading_escapes s | false ↦ [] ]) ≤ suc (length s)
    go true h = omega arith
    go false h = omega arith

pub spans_short : (words : List ℕ) (k : ℕ) → length (spans_from words k) ≤ span_count words
unfolding spans_from
spans_short words k = omega (arith, without_short (all_from words k), all_short words k)

escapes_short : (words : List ℕ) (k : ℕ) → length (escapes_from words k) ≤ span_count words
unfolding escapes_from
escapes_short words k = omega (arith, leading_short (all_from words k), all_short words k)

to_short : (limit : ℕ) (s : List Span) → length (escapes_to limit s) ≤ length s
unfolding escapes_to
to_short limit [] = omega arith
to_short limit (x ∷ s) = go (ltb limit x.end) (to_short limit s)
  where
    go : (t : Bool) → length (escapes_to limit s) ≤ length s → length {A = Span} (elim t [ true ↦ [] | false ↦ x ∷ escapes_to limit s ]) ≤ suc (length s)
    go true h = omega arith
    go false h = omega arith

-- ---- a text without its escapes, trimmed

module _ (text : Bytes) (short : length text ≤ 16384) where
  unescaped_short : (a e : ℕ) (r : List Span) → length (unescaped text a e r) ≤ 16384 * length r + 16384
  unfolding unescaped
  unescaped_short a e [] = omega (arith, part_short text a e)
  unescaped_short a e (x ∷ r) =
      let h = unescaped_short (suc x.start) e r in
      omega (arith, part_short text a x.start, length-append (part text a x.start) (unescaped text (suc x.start) e r))

front_trim_short : (f : Front) (t : Bytes) → length (front_trim f t) ≤ length t
front_trim_short Front.Kept t = omega arith
front_trim_short Front.Line t = omega (arith, newline_short (trim_start_blanks t), start_blanks_short t)
front_trim_short Front.White t = start_short t

back_trim_short : (b : Back) (t : Bytes) → length (back_trim b t) ≤ length t
back_trim_short Back.Kept t = omega arith
back_trim_short Back.Blanks t = end_blanks_le t
back_trim_short Back.White t = end_short t

pub raw_short : (text : Bytes) (words : List ℕ) (r : RawString) → length text ≤ 16384 → span_count words ≤ 4096
    → length (raw_means text words r) ≤ 67125248
unfolding raw_means
raw_short text words r h g =
    let x = unescaped text r.start r.end (raw_escapes text words r) in
    omega (
      arith,
      back_trim_short r.back (front_trim r.front x),
      front_trim_short r.front x,
      unescaped_short text h r.start r.end (raw_escapes text words r),
      to_short r.end (escapes_from words r.escapes),
      escapes_short words r.escapes,
    )

-- ---- how numbers and texts are written

digits_short : (k n : ℕ) (rest : Bytes) → length (digits k n rest) ≤ k + length rest
unfolding digits
digits_short zero n rest = omega arith
digits_short (suc k) n rest = go (ltb n 10) (digits_short k (n / 10) ((48 + n % 10) ∷ rest))
  where
    go : (t : Bool) → length (digits k (n / 10) ((48 + n % 10) ∷ rest)) ≤ k + suc (length rest)
        → length {A = ℕ} (elim t [ true ↦ (48 + n) ∷ rest | false ↦ digits k (n / 10) ((48 + n % 10) ∷ rest) ]) ≤ suc k + length rest
    go true h = omega arith
    go false h = omega arith

pub decimal_short : (n : ℕ) → length (decimal n) ≤ n + 1
unfolding decimal
decimal_short n = omega (arith, digits_short (suc n) n [])

escape_short : (c : ℕ) → length (escape c) ≤ 2
unfolding escape
escape_short c = go (eqb c 92) (eqb c 34) (eqb c 10)
  where
    go : (t u v : Bool) → length (if t (ascii "\\\\") (if u (ascii "\\\"") (if v (ascii "\\n") (c ∷ [])))) ≤ 2
    go true u v = omega arith
    go false true v = omega arith
    go false false true = omega arith
    go false false false = omega arith

escaped_short : (t : Bytes) → length (escaped t) ≤ 2 * length t
unfolding escaped
escaped_short [] = omega arith
escaped_short (c ∷ t) = let h = escaped_short t in omega (arith, escape_short c, length-append (escape c) (escaped t))

pub quoted_short : (t : Bytes) → length (quoted t) ≤ 2 * length t + 2
unfolding quoted
quoted_short t = omega (arith, escaped_short t, length-append (escaped t) (ascii "\""))

single_short : (s : Bytes) → length (unescape_single s) ≤ length s
unfolding unescape_single
single_short [] = omega arith
single_short (a ∷ []) = omega arith
single_short (a ∷ b ∷ s) = go (eqb a 0x5C && eqb b 0x27) (single_short s) (single_short (b ∷ s))
  where
    go : (t : Bool) → length (unescape_single s) ≤ length s → length (unescape_single (b ∷ s)) ≤ suc (length s)
        → length {A = ℕ} (elim t [ true ↦ 0x27 ∷ unescape_single s | false ↦ a ∷ unescape_single (b ∷ s) ]) ≤ suc (suc (length s))
    go true h g = omega arith
    go false h g = omega arith

double_short : (s : Bytes) → length (escape_double s) ≤ 2 * length s
unfolding escape_double
double_short [] = omega arith
double_short (a ∷ s) = go (eqb a 0x22) (double_short s)
  where
    go : (t : Bool) → length (escape_double s) ≤ 2 * length s
        → length {A = ℕ} (elim t [ true ↦ 0x5C ∷ 0x22 ∷ escape_double s | false ↦ a ∷ escape_double s ]) ≤ 2 * suc (length s)
    go true h = omega arith
    go false h = omega arith

pub requoted_short : (s : Bytes) → length (requoted s) ≤ 2 * length s + 2
requoted_short s = omega (arith, double_short (unescape_single s), single_short s, length-append (escape_double (unescape_single s)) (0x22 ∷ []))
