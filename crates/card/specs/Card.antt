-- Document 01's trial cards, the input of the program `cardtree`: what bytes are a card, and what it says. How they are read is in
-- specs/Read.antt; that this is the same, and that one input says one thing at most, is proved in proofs/Grammar.antt.
use Rattle.std.specs.Prelude.{ℕ, ◌≤◌, ◌≡◌, true, List, [], ◌∷◌, ◌++◌, length}
use Rattle.support.specs.Bytes.{Bytes}
use Rattle.card.specs.Number.{all_digits, decimal}

-- at most so many bytes are a card
abbrev pub max_bytes : ℕ
max_bytes = 65536

-- at most so many digits are a number of a card
abbrev pub max_digits : ℕ
max_digits = 5

-- a number: 1 to 5 digits, zeros in front allowed
pub record Number : Type 0 where
  pub digits : Bytes
  pub each : all_digits digits ≡ true
  pub least : 1 ≤ length digits
  pub most : length digits ≤ max_digits

-- a span: its tag, start and end
pub record SpanLine : Type 0 where
  pub tag : Number
  pub start : Number
  pub end : Number

-- options, spans and text, whatever bytes
pub record Card : Type 0 where
  pub options : Number
  pub spans : List SpanLine
  pub text : Bytes

-- a number and the byte behind it, before the bytes `rest`
abbrev pub write_field : Number → ℕ → Bytes → Bytes
write_field n mark rest = n.digits ++ (mark ∷ rest)

-- a span's three numbers, one space between, and LF
abbrev pub write_line : SpanLine → Bytes → Bytes
write_line l rest = write_field l.tag 32 (write_field l.start 32 (write_field l.end 10 rest))

unfoldable pub write_lines : List SpanLine → Bytes → Bytes
write_lines [] rest = rest
write_lines (l ∷ ls) rest = write_line l (write_lines ls rest)

-- an options line, a line a span, an empty line and the text
abbrev pub write : Card → Bytes
write c = write_field c.options 10 (write_lines c.spans (10 ∷ c.text))

-- the bytes are the card c
pub record IsCard (bytes : Bytes) (c : Card) : Type 0 where
  pub written : bytes ≡ write c
  pub within : length bytes ≤ max_bytes

-- what a card says: its options, three words a span, its text
pub data Said : Type 0 where
  said : ℕ → List ℕ → Bytes → Said

unfoldable pub span_words : List SpanLine → List ℕ
span_words [] = []
span_words (l ∷ ls) = decimal l.tag.digits ∷ decimal l.start.digits ∷ decimal l.end.digits ∷ span_words ls

abbrev pub says : Card → Said
says c = said (decimal c.options.digits) (span_words c.spans) c.text
