-- How many bytes of a listing the inner text of single quotes takes, byte by byte. None of this is from a paper: the proofs tie it to what is written.
use Rattle.std.specs.Prelude.{ℕ, zero, suc, ◌+◌, ◌&&◌, [], ◌∷◌, eqb, length, get_or}
use Rattle.support.specs.Bytes.{Bytes, if}
use Rattle.literal.specs.Requote.{escape_double}
use Rattle.listing.specs.Quoted.{escaped}

-- what one byte takes, whatever follows it
unfoldable pub cost_alone : ℕ → ℕ
cost_alone b = length (escaped (escape_double (b ∷ [])))

-- what it takes before the byte `next`: the backslash of `\'` takes nothing
unfoldable pub cost : ℕ → ℕ → ℕ
cost b next = if (eqb b 0x5C && eqb next 0x27) 0 (cost_alone b)

-- what the first n bytes of a text take
unfoldable pub cost_to : Bytes → ℕ → ℕ
cost_to s zero = 0
cost_to s (suc n) = cost_to s n + cost (get_or s n 0) (get_or s (suc n) 0)
