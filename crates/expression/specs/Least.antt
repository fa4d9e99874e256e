-- The least key above a bound, with its last value, as it is found in one pass over the parts.
use Rattle.std.specs.Prelude.{ℕ, ◌≡◌, List, [], ◌∷◌, Some, None}
use Rattle.std.specs.Prelude as std
use Rattle.std.proofs.Math.Option.{Option, none, some}
use Rattle.support.specs.Bytes.{Bytes, if, precedes}
use Rattle.json_path.specs.Answers.{name_means}
use Rattle.json_path.specs.declared.path.Name.{Name}
use Rattle.expression.specs.Expression.{Param, Part, parameter, hash, block, right_tilde, skipped}
use Rattle.expression.specs.Answers.{param_means, ParamLinked, part_means, PartLinked}
use Rattle.expression.specs.Again.{bound_means, is_above}
use Rattle.expression.specs.declared.parameter.Part as declared
use Rattle.expression.specs.declared.parameter.Hash.{Hash}

-- the lesser key of an earlier and a later one; of the same key the later
abbrev pub lower : Option (Bytes × Param) → Option (Bytes × Param) → Option (Bytes × Param)
lower none y = y
lower (some a) none = some a
lower (some a) (some b) = if (precedes a.0 b.0) (some a) (some b)

-- the key that a part gives, if it is above the bound
abbrev pub entry : Option Bytes → Part → Option (Bytes × Param)
entry b (parameter p) = none
entry b (hash k v) = if (is_above b k) (some (k, v)) none
entry b (block c) = none
entry b right_tilde = none
entry b skipped = none

-- the least key of the parts above the bound, of the same key the last
unfoldable pub least_of : Option Bytes → List Part → Option (Bytes × Param)
least_of b [] = none
least_of b (x ∷ xs) = lower (entry b x) (least_of b xs)

-- a key and its value, or none
abbrev pub least_means : Bytes → List ℕ → std.Option Hash → Option (Bytes × Param)
least_means text words (Some h) = some (name_means text h.key, param_means text words h.value)
least_means text words None = none

-- its value can be read again
abbrev pub LeastLinked : Bytes → List ℕ → std.Option Hash → Type 0
LeastLinked text words (Some h) = ParamLinked text words h.value
LeastLinked text words None = Unit {0}

-- r is the lesser of `least` and the key that x gives
pub record LeastIs (text : Bytes) (b : std.Option Name) (least : std.Option Hash) (x : declared.Part) (r : std.Option Hash) : Type 0 where
  pub means : (words : List ℕ)
      → least_means text words r ≡ lower (least_means text words least) (entry (bound_means text b) (part_means text words x))
  pub linked : (words : List ℕ) → LeastLinked text words least → PartLinked text words x → LeastLinked text words r
