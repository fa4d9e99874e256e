-- A length as the code answers it.
use Rattle.std.specs.Prelude.{ℕ, zero, suc, Option, Some, None}

-- the length, or none for 0
abbrev pub as_option : ℕ → Option ℕ
as_option zero = None
as_option (suc n) = Some (suc n)
