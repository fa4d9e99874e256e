-- Decimal numbers.
use Rattle.std.specs.Prelude.{ℕ, ◌+◌, ◌-◌, ◌*◌, Bool, true, false, ◌&&◌, [], ◌∷◌, leb}
use Rattle.support.specs.Bytes.{Bytes}

-- 0 to 9
unfoldable pub is_digit : ℕ → Bool
is_digit c = leb 48 c && leb c 57

-- each byte is a digit
unfoldable pub all_digits : Bytes → Bool
all_digits [] = true
all_digits (c ∷ s) = is_digit c && all_digits s

-- the digits that the bytes start with
unfoldable pub leading_digits : Bytes → Bytes
leading_digits [] = []
leading_digits (c ∷ s) = elim (is_digit c) [ true ↦ c ∷ leading_digits s | false ↦ [] ]

-- the number that digits write, v of it being read
unfoldable pub decimal_from : ℕ → Bytes → ℕ
decimal_from v [] = v
decimal_from v (d ∷ ds) = decimal_from (v * 10 + (d - 48)) ds

abbrev pub decimal : Bytes → ℕ
decimal ds = decimal_from 0 ds

-- the largest number of 32 bits
abbrev pub largest : ℕ
largest = 0xFFFFFFFF
