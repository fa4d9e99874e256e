-- Tables of the empty lines that start and end at each offset of a text.
use Rattle.std.specs.Prelude.{ℕ, ◌≤◌, ◌<◌, ◌≡◌, List, Bool, false, length, get_or, take, drop}
use Rattle.support.specs.Bytes.{Bytes, if}
use Rattle.support.specs.TextRules.{is_blank, is_newline, starts_with_empty_line, ends_with_empty_line}

-- whether there is an empty line on one side of the byte c, where `line` says it of the other side
abbrev pub line_across : ℕ → Bool → Bool
line_across c line = if (is_blank c) line (is_newline c)

-- cell i says whether an empty line starts at offset i
pub record StartsAre (text : Bytes) (starts : List Bool) : Type 0 where
  pub long : length text < length starts
  pub cells : (i : ℕ) → i ≤ length text → get_or starts i false ≡ starts_with_empty_line (drop i text)

-- cell i says whether an empty line ends at offset i
pub record EndsAre (text : Bytes) (ends : List Bool) : Type 0 where
  pub long : length text < length ends
  pub cells : (i : ℕ) → i ≤ length text → get_or ends i false ≡ ends_with_empty_line (take i text)

-- what the standalone test asks: of the text behind a tag, and of the text before it
pub record LinesAre (text : Bytes) (starts ends : List Bool) : Type 0 where
  pub starting : StartsAre text starts
  pub ending : EndsAre text ends
