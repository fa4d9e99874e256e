-- What C is told: an answer as two numbers, and what the output is after the call.
use Rattle.std.specs.Prelude.{ℕ, ◌≡◌, ◌++◌, Ok, Err, length, drop}
use Rattle.std.specs.declared.result.Result as rattle
use Rattle.support.specs.Bytes.{Bytes}
use Rattle.template.specs.Result.{Result, accepted, refused}
use Rattle.template.specs.Numbers.{reason_number}
use Rattle.template.specs.declared.refusal.Refusal.{Refusal}
use Rattle.ccompile.specs.declared.Told.{Told}

-- 0 for a listing, else the number from 1 to 14
abbrev pub number_of : Result Bytes → ℕ
number_of (accepted b) = 0
number_of (refused n p) = n

-- the listing's length, or the place
abbrev pub value_of : Result Bytes → ℕ
value_of (accepted b) = length b
value_of (refused n p) = p

-- the output begins with the listing and goes on as it was, or is as it was
abbrev pub output_of : Result Bytes → Bytes → Bytes
output_of (accepted b) l = b ++ drop (length b) l
output_of (refused n p) l = l

-- x is what document 01 answers, l the output before and m after
pub record ToldIs (x : Result Bytes) (l m : Bytes) (r : Told) : Type 0 where
  pub number : r.number ≡ number_of x
  pub value : r.value ≡ value_of x
  pub output : m ≡ output_of x l

-- an answer of `compile2` as two numbers
abbrev pub told_of : rattle.Result ℕ Refusal → Told
told_of (Ok n) = record { number = 0; value = n }
told_of (Err f) = record { number = reason_number f.reason; value = f.place }
