-- What the answers of the readers mean: each value of the code in terms of the specification's, each case of an enum in terms of its readers.
use Rattle.std.specs.Prelude.{ℕ, ◌+◌, ◌≤◌, ◌<◌, ◌≡◌, List, [], ◌∷◌, Bool, true, false, Some, None, Result, Ok, Err, IfErr}
use Rattle.std.specs.Prelude as std
use Rattle.std.proofs.Math.Option.{Option, none, some}
use Rattle.support.specs.Bytes.{Bytes, if}
use Rattle.json_path.specs.Span.{Span, span_count, spans_from}
use Rattle.json_path.specs.Answers.{name_means, path_means}
use Rattle.json_path.specs.declared.path.Name as json_path
use Rattle.literal.specs.Requote.{requoted}
use Rattle.literal.specs.declared.check.LiteralError.{LiteralError}
use Rattle.expression.specs.Expression.{Param, name, path, literal, subexpression, Call, call, Params, no_params, Keys, no_keys, no_block_param, single, pair, Expression, as_name, parameter, hash, block, right_tilde, skipped, params_of, keys_of, expression_of}
use Rattle.expression.specs.Expression as spec
use Rattle.expression.specs.Read.{ended, not_allowed, invalid_literal, over_limit, Read, done, failed, mapped, read_or, Readable}
use Rattle.expression.specs.Read as spec-read
use Rattle.expression.specs.Readers.{read_tilde, read_own_span, read_block_param, read_hash, read_parts, read_expression}
use Rattle.expression.specs.declared.parameter.Literal as declared
use Rattle.expression.specs.declared.parameter.Parameter.{Parameter}
use Rattle.expression.specs.declared.parameter.Parameter.TheVariants.{Name, Path, Literal, Subexpression}
use Rattle.expression.specs.declared.parameter.BlockParam.{BlockParam}
use Rattle.expression.specs.declared.parameter.BlockParam.TheVariants.{Single, Pair}
use Rattle.expression.specs.declared.parameter.Hash.{Hash}
use Rattle.expression.specs.declared.parameter.Part.{Part}
use Rattle.expression.specs.declared.parameter.Parts.{Parts}
use Rattle.expression.specs.declared.parameter.Fault.{Fault}
use Rattle.expression.specs.declared.parameter.Fault.TheVariants.{Ended, NotAllowed, InvalidLiteral, OverLimit}
use Rattle.expression.specs.declared.parameter.ExpressionSpec.{ExpressionSpec}

-- document 01's numbers of these are 8, 8, 9 and 12 (fault_number)
abbrev pub fault_means : Fault → spec-read.Fault
fault_means Ended = ended
fault_means NotAllowed = not_allowed
fault_means InvalidLiteral = invalid_literal
fault_means OverLimit = over_limit

-- what the error of a literal's check becomes
abbrev pub literal_fault : LiteralError → Fault
literal_fault LiteralError.Invalid = InvalidLiteral
literal_fault LiteralError.OverLimit = OverLimit

-- ---- parameters

-- the kept text: that part of the text, or what it stands for in single quotes
abbrev pub literal_means : Bytes → declared.Literal → Bytes
literal_means text l = if l.quoted (requoted (name_means text l.kept)) (name_means text l.kept)

-- the call that was read, or an empty one
abbrev pub call_or : Read Expression → Call
call_or (done x r) = x.call_of
call_or (failed e) = call (name []) no_params no_keys

-- the parameter that a value of the code denotes; of a subexpression, what is read again at its link
unfoldable pub param_means : Bytes → List ℕ → Parameter → Param
param_means text words (Name n) = name (name_means text n)
param_means text words (Path p) = path (path_means text words p)
param_means text words (Literal l) = literal (literal_means text l)
param_means text words (Subexpression s) = subexpression (call_or (read_expression false text s.depth s.limit (spans_from words s.from)))

-- what it links to can be read again
abbrev pub ParamLinked : Bytes → List ℕ → Parameter → Type 0
ParamLinked text words (Name n) = Unit {0}
ParamLinked text words (Path p) = Unit {0}
ParamLinked text words (Literal l) = Unit {0}
ParamLinked text words (Subexpression s) = Readable (read_expression false text s.depth s.limit (spans_from words s.from))

-- the name, or none
abbrev pub as_name_means : Bytes → std.Option json_path.Name → Option Bytes
as_name_means text (Some n) = some (name_means text n)
as_name_means text None = none

-- r is the name that p gives
pub record NamesIs (p : Parameter) (r : std.Option json_path.Name) : Type 0 where
  pub means : (text : Bytes) (words : List ℕ) → as_name_means text r ≡ as_name (param_means text words p)

-- what was read and the spans that are left, or the fault
abbrev pub param_read_means : Bytes → List ℕ → Result (Parameter × ℕ) Fault → Read Param
param_read_means text words (Ok (p, next)) = done (param_means text words p) (spans_from words next)
param_read_means text words (Err f) = failed (fault_means f)

-- the next number is not below `low`
abbrev pub ParamNext : ℕ → Result (Parameter × ℕ) Fault → Type 0
ParamNext low (Ok (p, next)) = low ≤ next
ParamNext low (Err f) = Unit {0}

-- the parameter read can be read again
abbrev pub ParamReadLinked : Bytes → List ℕ → Result (Parameter × ℕ) Fault → Type 0
ParamReadLinked text words (Ok (p, next)) = ParamLinked text words p
ParamReadLinked text words (Err f) = Unit {0}

-- r answers what the specification reads, o; its next number is not below `low`, and its link can be read again
pub record ParamIs (text : Bytes) (words : List ℕ) (o : Read Param) (low : ℕ) (r : Result (Parameter × ℕ) Fault) : Type 0 where
  pub reads : o ≡ param_read_means text words r
  pub onward : ParamNext low r
  pub linked : ParamReadLinked text words r

-- ---- tildes, block parameters, a parameter's own span

-- whether the tilde stands there, or the list ended
abbrev pub tilde_read_means : List ℕ → Result (Bool × ℕ) Fault → Read Bool
tilde_read_means words (Ok (left, next)) = done left (spans_from words next)
tilde_read_means words (Err f) = failed (fault_means f)

-- the next number is not below `low`
abbrev pub TildeNext : ℕ → Result (Bool × ℕ) Fault → Type 0
TildeNext low (Ok (left, next)) = low ≤ next
TildeNext low (Err f) = Unit {0}

-- r is the left tilde read from number `at` on; the only fault is that the list ended
pub record TildeIs (words : List ℕ) (at : ℕ) (r : Result (Bool × ℕ) Fault) : Type 0 where
  pub reads : read_tilde (spans_from words at) ≡ tilde_read_means words r
  pub onward : TildeNext at r
  pub faults : IfErr r (λ f. f ≡ Ended)

-- one name or two
abbrev pub block_param_means : Bytes → BlockParam → spec.BlockParam
block_param_means text (Single a) = single (name_means text a)
block_param_means text (Pair a b) = pair (name_means text a) (name_means text b)

-- no name, one or two
abbrev pub block_means : Bytes → std.Option BlockParam → spec.BlockParam
block_means text None = no_block_param
block_means text (Some b) = block_param_means text b

-- the block parameter, or the list ended
abbrev pub block_read_means : Bytes → List ℕ → Result (BlockParam × ℕ) Fault → Read spec.BlockParam
block_read_means text words (Ok (b, next)) = done (block_param_means text b) (spans_from words next)
block_read_means text words (Err f) = failed (fault_means f)

-- the next number is above `low`
abbrev pub BlockNext : ℕ → Result (BlockParam × ℕ) Fault → Type 0
BlockNext low (Ok (b, next)) = low < next
BlockNext low (Err f) = Unit {0}

-- r is the block parameter read from number `at` on, in any text; the only fault is that the list ended
pub record BlockIs (words : List ℕ) (limit at : ℕ) (r : Result (BlockParam × ℕ) Fault) : Type 0 where
  pub reads : (text : Bytes) → read_block_param text limit (spans_from words at) ≡ block_read_means text words r
  pub onward : BlockNext at r
  pub faults : IfErr r (λ f. f ≡ Ended)

-- the span, or the list ended
abbrev pub own_read_means : List ℕ → std.Option Span → Read Span
own_read_means words (Some s) = done s (spans_from words (s.number + 1))
own_read_means words None = failed ended

-- the span stands in the list, not before number `low`
abbrev pub OwnNext : List ℕ → ℕ → std.Option Span → Type 0
OwnNext words low (Some s) = (low ≤ s.number) × (s.number < span_count words)
OwnNext words low None = Unit {0}

-- r is a parameter's own span from number `at` on
pub record OwnIs (words : List ℕ) (at : ℕ) (r : std.Option Span) : Type 0 where
  pub reads : read_own_span (spans_from words at) ≡ own_read_means words r
  pub onward : OwnNext words at r

-- ---- keys and parts

-- a key and its value
abbrev pub hash_means : Bytes → List ℕ → Hash → spec.Part
hash_means text words h = hash (name_means text h.key) (param_means text words h.value)

-- what was read and the spans that are left, or the fault
abbrev pub hash_read_means : Bytes → List ℕ → Result (Hash × ℕ) Fault → Read spec.Part
hash_read_means text words (Ok (h, next)) = done (hash_means text words h) (spans_from words next)
hash_read_means text words (Err f) = failed (fault_means f)

-- the next number is above `low`
abbrev pub HashNext : ℕ → Result (Hash × ℕ) Fault → Type 0
HashNext low (Ok (h, next)) = low < next
HashNext low (Err f) = Unit {0}

-- the value read can be read again
abbrev pub HashReadLinked : Bytes → List ℕ → Result (Hash × ℕ) Fault → Type 0
HashReadLinked text words (Ok (h, next)) = ParamLinked text words h.value
HashReadLinked text words (Err f) = Unit {0}

-- r is the key and value read from number `at` on, with literals judged or not
pub record HashIs (judged : Bool) (text : Bytes) (words : List ℕ) (depth at : ℕ) (r : Result (Hash × ℕ) Fault) : Type 0 where
  pub reads : read_hash judged text depth (spans_from words at) ≡ hash_read_means text words r
  pub onward : HashNext at r
  pub linked : HashReadLinked text words r

-- the part that a value of the code denotes
abbrev pub part_means : Bytes → List ℕ → Part → spec.Part
part_means text words (Part.Param p) = parameter (param_means text words p)
part_means text words (Part.Hash h) = hash_means text words h
part_means text words (Part.BlockParam b) = block (block_param_means text b)
part_means text words Part.RightTilde = right_tilde
part_means text words Part.Skipped = skipped

-- what it links to can be read again
abbrev pub PartLinked : Bytes → List ℕ → Part → Type 0
PartLinked text words (Part.Param p) = ParamLinked text words p
PartLinked text words (Part.Hash h) = ParamLinked text words h.value
PartLinked text words (Part.BlockParam b) = Unit {0}
PartLinked text words Part.RightTilde = Unit {0}
PartLinked text words Part.Skipped = Unit {0}

-- what is read at a link, with literals judged or not
abbrev pub parts_read : Bool → Bytes → List ℕ → Parts → Read (List spec.Part)
parts_read judged text words p = read_parts judged text p.depth p.limit (spans_from words p.from)

-- the same link from another number on
abbrev pub parts_at : Parts → ℕ → Parts
parts_at p next = record { from = next; limit = p.limit; depth = p.depth }

-- x is the first part of p's, and those of q, the same link from another number on, are the others
pub record FirstPart (judged : Bool) (text : Bytes) (words : List ℕ) (p : Parts) (x : Part) (q : Parts) : Type 0 where
  pub first : parts_read judged text words p ≡ mapped (λ xs. part_means text words x ∷ xs) (parts_read judged text words q)
  pub link : q ≡ parts_at p q.from
  pub onward : p.from < q.from
  pub inside : p.from < span_count words
  pub linked : PartLinked text words x

-- what each case says
abbrev pub PartReadMeans : Bool → Bytes → List ℕ → Parts → Result (std.Option (Part × Parts)) Fault → Type 0
PartReadMeans judged text words p (Ok (Some (x, q))) = FirstPart judged text words p x q
PartReadMeans judged text words p (Ok None) = parts_read judged text words p ≡ done [] (spans_from words p.from)
PartReadMeans judged text words p (Err f) = parts_read judged text words p ≡ failed (fault_means f)

-- r is the first part of p's, or says why there is none
pub record PartIs (judged : Bool) (text : Bytes) (words : List ℕ) (p : Parts) (r : Result (std.Option (Part × Parts)) Fault) : Type 0 where
  pub means : PartReadMeans judged text words p r

-- ---- expressions

-- the parameters and the keys of a link's parts, read again
abbrev pub params_read : Bytes → List ℕ → Parts → Read Params
params_read text words p = mapped params_of (parts_read false text words p)

abbrev pub keys_read : Bytes → List ℕ → Parts → Read Keys
keys_read text words p = mapped keys_of (parts_read false text words p)

-- the call of a name and a link's parts
abbrev pub call_means : Bytes → List ℕ → Parameter → Parts → Call
call_means text words n p = call (param_means text words n) (read_or no_params (params_read text words p)) (read_or no_keys (keys_read text words p))

-- the expression that a value of the code denotes
unfoldable pub expression_means : Bytes → List ℕ → ExpressionSpec → Expression
expression_means text words x = record {
  omit_pre_ws = x.omit_pre_ws;
  call_of = call_means text words x.name x.parts;
  block_param = block_means text x.block_param;
  omit_pro_ws = x.omit_pro_ws;
}

-- what was read and the spans that are left, or the fault
abbrev pub expression_read_means : Bytes → List ℕ → Result ExpressionSpec Fault → Read Expression
expression_read_means text words (Ok x) = done (expression_means text words x) (spans_from words x.next)
expression_read_means text words (Err f) = failed (fault_means f)

-- the next number is not below `low`
abbrev pub ExpressionNext : ℕ → Result ExpressionSpec Fault → Type 0
ExpressionNext low (Ok x) = low ≤ x.next
ExpressionNext low (Err f) = Unit {0}

-- what an expression links to can be read again
pub record Links (text : Bytes) (words : List ℕ) (x : ExpressionSpec) : Type 0 where
  pub name : ParamLinked text words x.name
  pub parts : Readable (parts_read false text words x.parts)

abbrev pub ExpressionLinked : Bytes → List ℕ → Result ExpressionSpec Fault → Type 0
ExpressionLinked text words (Ok x) = Links text words x
ExpressionLinked text words (Err f) = Unit {0}

-- r answers what the specification reads, o; its next number is not below `low`, and its links can be read again
pub record ExpressionIs (text : Bytes) (words : List ℕ) (o : Read Expression) (low : ℕ) (r : Result ExpressionSpec Fault) : Type 0 where
  pub reads : o ≡ expression_read_means text words r
  pub onward : ExpressionNext low r
  pub linked : ExpressionLinked text words r

-- its name is n, and its parts can be read again
abbrev pub PartsLinked : Bytes → List ℕ → Parameter → Result ExpressionSpec Fault → Type 0
PartsLinked text words n (Ok x) = (x.name ≡ n) × Readable (parts_read false text words x.parts)
PartsLinked text words n (Err f) = Unit {0}

-- r is the expression of a left tilde, a name and the parts of a link
pub record PartsIs (judged : Bool) (text : Bytes) (words : List ℕ) (left : Bool) (n : Parameter) (p : Parts) (r : Result ExpressionSpec Fault) : Type 0 where
  pub reads : mapped (expression_of left (param_means text words n)) (parts_read judged text words p) ≡ expression_read_means text words r
  pub onward : ExpressionNext p.from r
  pub linked : PartsLinked text words n r
