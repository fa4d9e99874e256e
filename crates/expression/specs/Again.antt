-- Reading again: an expression's parameters in order, its keys in byte order, and into a subexpression, from their links. Literals were
-- judged when they were first read, and are kept as they stand.
use Rattle.std.specs.Prelude.{ℕ, ◌<◌, ◌≡◌, List, Bool, true, false, Some, None, Result, Ok, Err}
use Rattle.std.specs.Prelude as std
use Rattle.std.proofs.Math.Option.{Option, none, some}
use Rattle.support.specs.Bytes.{Bytes, precedes}
use Rattle.json_path.specs.Span.{span_count, spans_from}
use Rattle.json_path.specs.Answers.{name_means}
use Rattle.json_path.specs.declared.path.Name.{Name}
use Rattle.expression.specs.Expression.{subexpression, Params, no_params, param, Keys, no_keys, key}
use Rattle.expression.specs.Read.{Read, failed, mapped, Reads}
use Rattle.expression.specs.Readers.{read_expression}
use Rattle.expression.specs.Answers.{fault_means, param_means, ParamLinked, Links, params_read, keys_read, call_means}
use Rattle.expression.specs.declared.parameter.Parameter.{Parameter}
use Rattle.expression.specs.declared.parameter.Subexpression.{Subexpression}
use Rattle.expression.specs.declared.parameter.Parts.{Parts}
use Rattle.expression.specs.declared.parameter.Hash.{Hash}
use Rattle.expression.specs.declared.parameter.ExpressionSpec.{ExpressionSpec}
use Rattle.expression.specs.declared.parameter.Fault.{Fault}

-- ---- the parameters

-- v is the first parameter of p's parts, and those of q's parts are the others
pub record FirstParam (text : Bytes) (words : List ℕ) (p : Parts) (v : Parameter) (q : Parts) : Type 0 where
  pub first : params_read text words p ≡ mapped (param (param_means text words v)) (params_read text words q)
  pub onward : p.from < q.from
  pub inside : p.from < span_count words
  pub linked : ParamLinked text words v

-- what each case says
abbrev pub ParamStepMeans : Bytes → List ℕ → Parts → Result (std.Option (Parameter × Parts)) Fault → Type 0
ParamStepMeans text words p (Ok (Some (v, q))) = FirstParam text words p v q
ParamStepMeans text words p (Ok None) = Reads (params_read text words p) no_params
ParamStepMeans text words p (Err f) = params_read text words p ≡ failed (fault_means f)

-- r is the step from p
pub record ParamStepIs (text : Bytes) (words : List ℕ) (p : Parts) (r : Result (std.Option (Parameter × Parts)) Fault) : Type 0 where
  pub means : ParamStepMeans text words p r

-- going through the parameters of p's parts, one answer after the other up to the end, meets these
pub data ParamsMet (text : Bytes) (words : List ℕ) : Parts → Params → Type 0 where
  stops : {p : Parts} → ParamStepIs text words p (Ok None) → ParamsMet text words p no_params
  takes : {p q : Parts} {v : Parameter} {vs : Params} → ParamStepIs text words p (Ok (Some (v, q))) → ParamsMet text words q vs
      → ParamsMet text words p (param (param_means text words v) vs)

-- ---- the keys

-- every key, or those that stand after a name
abbrev pub bound_means : Bytes → std.Option Name → Option Bytes
bound_means text None = none
bound_means text (Some n) = some (name_means text n)

-- k is above the bound
abbrev pub is_above : Option Bytes → Bytes → Bool
is_above none k = true
is_above (some b) k = precedes b k

-- the keys above a bound
unfoldable pub keys_above : Option Bytes → Keys → Keys
keys_above b no_keys = no_keys
keys_above b (key k v ks) = elim (is_above b k) [ true ↦ key k v (keys_above b ks) | false ↦ keys_above b ks ]

-- the keys of p's parts that are above a bound
abbrev pub keys_left : Bytes → List ℕ → Parts → std.Option Name → Read Keys
keys_left text words p b = mapped (keys_above (bound_means text b)) (keys_read text words p)

-- h is the first of the keys above b, and those above h's are the others
pub record FirstKey (text : Bytes) (words : List ℕ) (p : Parts) (b : std.Option Name) (h : Hash) : Type 0 where
  pub first : keys_left text words p b ≡ mapped (key (name_means text h.key) (param_means text words h.value)) (keys_left text words p (Some h.key))
  pub linked : ParamLinked text words h.value

-- what each case says
abbrev pub KeyStepMeans : Bytes → List ℕ → Parts → std.Option Name → Result (std.Option Hash) Fault → Type 0
KeyStepMeans text words p b (Ok (Some h)) = FirstKey text words p b h
KeyStepMeans text words p b (Ok None) = Reads (keys_left text words p b) no_keys
KeyStepMeans text words p b (Err f) = keys_left text words p b ≡ failed (fault_means f)

-- r is the step from the bound b
pub record KeyStepIs (text : Bytes) (words : List ℕ) (p : Parts) (b : std.Option Name) (r : Result (std.Option Hash) Fault) : Type 0 where
  pub means : KeyStepMeans text words p b r

-- going through the keys of p's parts above a bound, one answer after the other up to the end, meets these
pub data KeysMet (text : Bytes) (words : List ℕ) (p : Parts) : std.Option Name → Keys → Type 0 where
  stops : {b : std.Option Name} → KeyStepIs text words p b (Ok None) → KeysMet text words p b no_keys
  takes : {b : std.Option Name} {h : Hash} {ks : Keys} → KeyStepIs text words p b (Ok (Some h)) → KeysMet text words p (Some h.key) ks
      → KeysMet text words p b (key (name_means text h.key) (param_means text words h.value) ks)

-- ---- subexpressions

-- x is the expression of the link s, and its parts can be read again
pub record Entered (text : Bytes) (words : List ℕ) (s : Subexpression) (x : ExpressionSpec) : Type 0 where
  pub means : param_means text words (Parameter.Subexpression s) ≡ subexpression (call_means text words x.name x.parts)
  pub linked : Links text words x

-- what each case says: the expression of the link s, or why it has none
abbrev pub SubexpressionMeans : Bytes → List ℕ → Subexpression → Result ExpressionSpec Fault → Type 0
SubexpressionMeans text words s (Ok x) = Entered text words s x
SubexpressionMeans text words s (Err f) = read_expression false text s.depth s.limit (spans_from words s.from) ≡ failed (fault_means f)

-- r is what the link s leads to
pub record SubexpressionIs (text : Bytes) (words : List ℕ) (s : Subexpression) (r : Result ExpressionSpec Fault) : Type 0 where
  pub means : SubexpressionMeans text words s r
