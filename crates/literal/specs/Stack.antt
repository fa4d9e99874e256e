-- The open brackets as the bits of a number.
use Rattle.std.specs.Prelude.{ℕ, zero, suc, ◌*◌, ◌/◌, ◌%◌, List, [], ◌∷◌, eqb}
use Rattle.support.specs.Bytes.{if}
use Rattle.literal.specs.Scan.{Open, array, object}

-- innermost first: 1 for an object
unfoldable pub stack_means : ℕ → ℕ → List Open
stack_means zero b = []
stack_means (suc d) b = if (eqb (b % 2) 1) object array ∷ stack_means d (b / 2)

-- the bits of so many brackets are below it
unfoldable pub power_of2 : ℕ → ℕ
power_of2 zero = 1
power_of2 (suc d) = 2 * power_of2 d
