-- What the answers of the code mean, each case in terms of specs/Number.antt and specs/Read.antt.
use Rattle.std.specs.Prelude.{ℕ, ◌+◌, ◌-◌, ◌≤◌, min, ◌≡◌, List, [], ◌∷◌, Option, Some, None, length, drop}
use Rattle.std.proofs.Math.Option as math
use Rattle.std.proofs.lemmas.List.Edits.{sets}
use Rattle.support.specs.Bytes.{Bytes}
use Rattle.card.specs.Number.{leading_digits, decimal, largest}
use Rattle.card.specs.Card.{Said, said}
use Rattle.card.specs.Read.{Read, read, other, read_field, read_line, read_lines, line_words, line_rest, read_card}
use Rattle.card.specs.declared.number.Digits.{Digits}
use Rattle.card.specs.declared.read.Card.{Card}
use Rattle.card.specs.declared.read.SpanLine.{SpanLine}
use Rattle.card.specs.declared.read.Lines as declared

-- ---- numbers

-- r is the number that the digits from offset `at` on write, the largest where it is larger, and the offset behind them
pub record DigitsIs (s : Bytes) (at : ℕ) (r : Digits) : Type 0 where
  pub value : r.value ≡ min (decimal (leading_digits (drop at s))) largest
  pub end : r.end ≡ at + length (leading_digits (drop at s))

-- ---- the lines of a card; an offset that is answered denotes the bytes from there on

abbrev pub field_means : Bytes → Option (ℕ × ℕ) → Read ℕ
field_means s (Some (v, next)) = read v (drop next s)
field_means s None = other

-- a number and the byte behind it take 2 bytes at least
abbrev pub FieldInside : Bytes → ℕ → Option (ℕ × ℕ) → Type 0
FieldInside s at (Some (v, next)) = (at + 2 ≤ next) × (next ≤ length s)
FieldInside s at None = Unit {0}

-- r answers for a number and the byte `mark` from offset `at` on
pub record FieldIs (s : Bytes) (at mark : ℕ) (r : Option (ℕ × ℕ)) : Type 0 where
  pub means : field_means s r ≡ read_field mark (drop at s)
  pub inside : FieldInside s at r

abbrev pub line_means : Bytes → Option SpanLine → Read (List ℕ)
line_means s (Some l) = read (l.tag ∷ l.start ∷ l.end ∷ []) (drop l.next s)
line_means s None = other

-- a span line takes 6 bytes at least
abbrev pub LineInside : Bytes → ℕ → Option SpanLine → Type 0
LineInside s at (Some l) = (at + 6 ≤ l.next) × (l.next ≤ length s)
LineInside s at None = Unit {0}

-- r answers for a span line from offset `at` on
pub record LineIs (s : Bytes) (at : ℕ) (r : Option SpanLine) : Type 0 where
  pub means : line_means s r ≡ read_line (drop at s)
  pub inside : LineInside s at r

-- the words ws are stored in l from its first place on, as far as it goes, which gives m; nothing else changes
abbrev pub Stores : List ℕ → List ℕ → List ℕ → Type 0
Stores ws l m = m ≡ sets l 0 ws

-- r answers for the span lines from offset `at` on, and their words are stored
pub record LinesIs (s : Bytes) (at : ℕ) (l m : List ℕ) (r : declared.Lines) : Type 0 where
  pub stored : Stores (line_words (read_lines (drop at s))) l m
  pub words : r.words ≡ length (line_words (read_lines (drop at s)))
  pub rest : line_rest (read_lines (drop at s)) ≡ drop r.next s

-- ---- a card

-- the answer for what is read: the options, how many words there are, and the offset of the text; or other input
abbrev pub answer_of : Bytes → math.Option Said → Option Card
answer_of s (math.some (said options ws text)) = Some (record { options = options; words = length ws; text = length s - length text })
answer_of s math.none = None

-- the words that are stored for what is read: the card's; for other input none
abbrev pub words_of : math.Option Said → List ℕ
words_of (math.some (said options ws text)) = ws
words_of math.none = []

-- document 01's number for other input, which is turned away at place 0; 0 for a card
abbrev pub number_of : Option Card → ℕ
number_of (Some c) = 0
number_of None = 15

-- r answers for the bytes s. The words of a card are stored in l, which gives m; other input leaves l as it was
pub record CardIs (s : Bytes) (l m : List ℕ) (r : Option Card) : Type 0 where
  pub answer : r ≡ answer_of s (read_card s)
  pub stored : Stores (words_of (read_card s)) l m
