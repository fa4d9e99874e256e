-- How a card is read: its options line, span line after span line, an empty line and the text.
use Rattle.std.specs.Prelude.{ℕ, zero, suc, Bool, ◌&&◌, List, [], ◌∷◌, ◌++◌, leb, eqb, length, drop}
use Rattle.std.proofs.Math.Option.{Option, none, some}
use Rattle.support.specs.Bytes.{Bytes, if}
use Rattle.card.specs.Number.{leading_digits, decimal}
use Rattle.card.specs.Card.{max_bytes, max_digits, Said, said}

-- what bytes start with, and the bytes behind it; or they start otherwise
pub data Read (A : Type 0) : Type 0 where
  read : A → Bytes → Read A
  other : Read A

-- and then what the bytes behind it start with
abbrev pub and_then : {A B : Type 0} → Read A → (A → Bytes → Read B) → Read B
and_then x f = elim x [ read a rest ↦ f a rest | other ↦ other ]

-- 1 to 5 digits
abbrev pub is_number : Bytes → Bool
is_number ds = leb 1 (length ds) && leb (length ds) max_digits

-- one byte, `mark`
abbrev pub read_mark : ℕ → Bytes → Read ℕ
read_mark mark [] = other
read_mark mark (c ∷ s) = if (eqb c mark) (read c s) other

-- a number, all digits at the front, and the byte `mark` behind it
unfoldable pub read_field : ℕ → Bytes → Read ℕ
read_field mark s =
    if (is_number (leading_digits s))
    (and_then (read_mark mark (drop (length (leading_digits s)) s)) (λ c r. read (decimal (leading_digits s)) r))
    other

-- the three words of a span line
unfoldable pub read_line : Bytes → Read (List ℕ)
read_line s =
    and_then (read_field 32 s) (λ tag r.
    and_then (read_field 32 r) (λ start q.
    and_then (read_field 10 q) (λ end p. read (tag ∷ start ∷ end ∷ []) p)))

-- the words of the span lines that bytes start with, and the bytes behind these lines
pub data Lines : Type 0 where
  lines : List ℕ → Bytes → Lines

abbrev pub prepend : List ℕ → Lines → Lines
prepend ws (lines vs rest) = lines (ws ++ vs) rest

-- at most n lines
unfoldable pub lines_by : ℕ → Bytes → Lines
lines_by zero s = lines [] s
lines_by (suc n) s = elim (read_line s) [ read ws r ↦ prepend ws (lines_by n r) | other ↦ lines [] s ]

-- all of them: there are no more lines than bytes
unfoldable pub read_lines : Bytes → Lines
read_lines s = lines_by (length s) s

-- behind the span lines an empty line and the text
abbrev pub read_text : ℕ → Lines → Option Said
read_text options (lines ws r) = elim (read_mark 10 r) [ read c text ↦ some (said options ws text) | other ↦ none ]

-- the card that the bytes are, if they are one
unfoldable pub read_card : Bytes → Option Said
read_card s = if (leb (length s) max_bytes) (elim (read_field 10 s) [ read options r ↦ read_text options (read_lines r) | other ↦ none ]) none

abbrev pub line_words : Lines → List ℕ
line_words (lines ws rest) = ws

abbrev pub line_rest : Lines → Bytes
line_rest (lines ws rest) = rest
