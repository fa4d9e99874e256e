-- What is asked of a block of bytes, where a text is gone through by blocks. None of this is from a paper: the proofs tie it to UTF-8 and to line and column.
use Rattle.std.specs.Prelude.{ℕ, suc, ◌+◌, ◌-◌, ◌≤◌, ◌<◌, min, ◌⊎◌, ◌≡◌, [], ◌∷◌, Bool, true, false, not, eqb, length, get_or, drop}
use Rattle.support.specs.Bytes.{Bytes, if}
use Rattle.support.specs.Position.{largest}
use Rattle.support.specs.Utf8.{is_tail}
use Rattle.support.specs.declared.position.Counts.{Counts}
use Rattle.support.specs.declared.position.Stretch.{Stretch}

-- how many of the bytes are of the class f
unfoldable pub count : (ℕ → Bool) → Bytes → ℕ
count f [] = 0
count f (b ∷ s) = if (f b) (suc (count f s)) (count f s)

-- ---- line and column

-- an LF; the first byte of a character
abbrev pub is_feed : ℕ → Bool
is_feed b = eqb b 10

abbrev pub is_first : ℕ → Bool
is_first b = not (is_tail b)

-- how many of each there are among these bytes
pub record CountsAre (s : Bytes) (r : Counts) : Type 0 where
  pub feeds : r.feeds ≡ count is_feed s
  pub firsts : r.firsts ≡ count is_first s

-- how many of each, and where the last line starts: after the last LF, at 0 where there is none
pub record StretchIs (s : Bytes) (r : Stretch) : Type 0 where
  pub counts : CountsAre s r.counts
  pub inside : r.start ≤ length s
  pub after : 0 < r.start → get_or s (r.start - 1) 0 ≡ 10
  pub none : count is_feed (drop r.start s) ≡ 0

-- a line or a column with so many more; the largest number stays
abbrev pub more : ℕ → ℕ → ℕ
more n k = min (n + k) largest

-- ---- UTF-8

-- the tail b may follow a, if it is the second byte of a character
pub record Second (a b : ℕ) : Type 0 where
  pub e0 : a ≡ 0xE0 → 0xA0 ≤ b
  pub ed : a ≡ 0xED → b ≤ 0x9F
  pub f0 : a ≡ 0xF0 → 0x90 ≤ b
  pub f4 : a ≡ 0xF4 → b ≤ 0x8F

-- the character that z, y and a lead to lacks a tail
abbrev pub Unfinished : ℕ → ℕ → ℕ → Type 0
Unfinished z y a = (0xC0 ≤ a) ⊎ ((0xE0 ≤ y) ⊎ (0xF0 ≤ z))

-- the table has b: it is none of C0, C1 and F5 to FF
pub record InTable (b : ℕ) : Type 0 where
  pub low : 0xC0 ≤ b → 0xC2 ≤ b
  pub high : b ≤ 0xF4

-- b may follow z, y and a: a tail where a character lacks one, and else the first byte of a character
pub data Follows (z y a b : ℕ) : Type 0 where
  tailing : is_tail b ≡ true → Unfinished z y a → Second a b → Follows z y a b
  starting : is_tail b ≡ false → a < 0xC0 → y < 0xE0 → z < 0xF0 → InTable b → Follows z y a b

-- each byte from the fourth on may follow the three before it
abbrev pub FollowsAll : Bytes → Type 0
FollowsAll s = (k : ℕ) → suc (suc (suc k)) < length s → Follows (get_or s k 0) (get_or s (suc k) 0) (get_or s (suc (suc k)) 0) (get_or s (suc (suc (suc k))) 0)
