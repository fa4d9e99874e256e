-- The stored records of the programs that replay them: a line of text and a line of numbers, one byte between two; or a line with a length, and
-- so many bytes.
use Rattle.std.specs.Prelude.{ℕ, zero, suc, ◌-◌, ◌≤◌, ◌<◌, min, ◌≡◌, true, false, List, [], ◌∷◌, eqb, length, take, drop, ◌⊎◌, Result, Ok, IsErr}
use Rattle.support.specs.Bytes.{Bytes}
use Rattle.card.specs.Number.{leading_digits, decimal, largest}
use Rattle.card.specs.Answers.{Stores}

-- the bytes before the first LF
unfoldable pub first_line : Bytes → Bytes
first_line [] = []
first_line (c ∷ s) = elim (eqb c 10) [ true ↦ [] | false ↦ c ∷ first_line s ]

-- what is left behind the first line and its LF
abbrev pub after_line : Bytes → Bytes
after_line s = drop (suc (length (first_line s))) s

-- the number that bytes start with, the largest where it is larger
abbrev pub first_number : Bytes → ℕ
first_number s = min (decimal (leading_digits s)) largest

-- what is left behind it and one more byte
abbrev pub after_number : Bytes → Bytes
after_number s = drop (suc (length (leading_digits s))) s

-- at most n numbers
unfoldable pub numbers_by : ℕ → Bytes → List ℕ
numbers_by zero s = []
numbers_by (suc n) [] = []
numbers_by (suc n) (b ∷ s) = first_number (b ∷ s) ∷ numbers_by n (after_number (b ∷ s))

-- the numbers of a line: there are no more than bytes
unfoldable pub numbers : Bytes → List ℕ
numbers s = numbers_by (length s) s

-- r is the line from offset `at` on; it ends no later than s
pub record FirstLineIs (s : Bytes) (at : ℕ) (r : Bytes) : Type 0 where
  pub means : r ≡ first_line (drop at s)
  pub inside : length r ≤ length s - at

-- the numbers of a line are stored in l, which gives m; r of them have room, and are the first of m
pub record WordsIs (line : Bytes) (l m : List ℕ) (r : ℕ) : Type 0 where
  pub stored : Stores (numbers line) l m
  pub count : r ≡ min (length (numbers line)) (length l)
  pub inside : r ≤ length m
  pub part : r ≡ length (take r m)

-- s starts with a record, a line of text and a line of words, before the bytes `rest`
pub record RecordIs (s text words rest : Bytes) : Type 0 where
  pub first : text ≡ first_line s
  pub second : words ≡ first_line (after_line s)
  pub behind : rest ≡ after_line (after_line s)
  pub less : length rest < length s

-- s starts with a line with a length and so many bytes, `block`, before the bytes `rest`
pub record BlockIs (s block rest : Bytes) : Type 0 where
  pub front : block ≡ take (first_number (first_line s)) (after_line s)
  pub behind : rest ≡ drop (first_number (first_line s)) (after_line s)
  pub less : length rest < length s

-- three words for each of the 4,096 spans that a list may have
abbrev pub max_words : ℕ
max_words = 12288

-- at most k records, each a text and at most n words
unfoldable pub records_by : ℕ → ℕ → Bytes → List (Bytes × List ℕ)
records_by zero n s = []
records_by (suc k) n [] = []
records_by (suc k) n (b ∷ s) = (first_line (b ∷ s), take n (numbers (first_line (after_line (b ∷ s))))) ∷ records_by k n (after_line (after_line (b ∷ s)))

-- the records of s, with at most n words each: there are no more records than bytes
unfoldable pub records : ℕ → Bytes → List (Bytes × List ℕ)
records n s = records_by (length s) n s

-- r is what calls at the records answer, in order, up to the first error
abbrev pub AnswersIn : {E : Type 0} → (Bytes → List ℕ → Result (Unit {0}) E → Type 0) → List (Bytes × List ℕ) → Result (Unit {0}) E → Type 0
AnswersIn P [] r = r ≡ Ok tt
AnswersIn P (x ∷ xs) r = (P x.0 x.1 r × IsErr r) ⊎ (P x.0 x.1 (Ok tt) × AnswersIn P xs r)
