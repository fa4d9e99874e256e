-- Going through an expression's parameters and keys, one answer after the other, gives exactly the specification's lists; and what each
-- single answer says where the list is known. By recursion over the answers, and by cases on what was read. Assumes nothing.
use Prim.Native.Nat.{ℕ}
use native.Mathlib.Omega.{arith}
use mathlib.Core.Path.{◌≡◌, refl, sym, ap, ◌∙◌}
use mathlib.Core.List.{List}
use mathlib.Core.Bool.{false}
use mathlib.Core.Option.{none}
use Rattle.std.specs.Prelude.{Option, Some, None, Ok, Err}
use Rattle.support.specs.Bytes.{Bytes}
use Rattle.json_path.specs.Answers.{name_means}
use Rattle.json_path.specs.declared.path.Name.{Name}
use Rattle.expression.specs.Expression.{call, Params, no_params, param, Keys, no_keys, key, params_of, keys_of}
use Rattle.expression.specs.Read.{Fault, Read, done, failed, mapped, read_or, Readable, Reads}
use Rattle.expression.specs.Answers.{param_means, ParamLinked, parts_read, params_read, keys_read, call_means}
use Rattle.expression.specs.Again.{ParamStepIs, ParamsMet, keys_above, keys_left, KeyStepIs, KeysMet, SubexpressionIs}
use Rattle.expression.specs.Again as again
use Rattle.expression.specs.declared.parameter.Parameter.{Parameter}
use Rattle.expression.specs.declared.parameter.Subexpression.{Subexpression}
use Rattle.expression.specs.declared.parameter.Parts.{Parts}
use Rattle.expression.specs.declared.parameter.Hash.{Hash}
use Rattle.expression.specs.declared.parameter.Fault as declared

-- what was read is read but once
pub one : {A : Type 0} {o : Read A} {x y : A} → Reads o x → Reads o y → x ≡ y
one h k = let e = sym h.reads ∙ k.reads in cc

pub not_failed : {A : Type 0} {o : Read A} {x : A} {f : Fault} → Reads o x → o ≡ failed f → ⊥
not_failed h e = let z : ◌≡◌ {A = ℕ} 0 1 = cc in absurd (omega arith)

reads_mapped : {A B : Type 0} (f : A → B) {o : Read A} {x : A} → Reads o x → Reads (mapped f o) (f x)
reads_mapped f h = record { rest = h.rest; reads = ap (mapped f) h.reads }

value_of : {A : Type 0} (a : A) {o : Read A} {x : A} → Reads o x → read_or a o ≡ x
value_of a h = ap (read_or a) h.reads

-- where f of what o read is y, o read something of which f is y
pub record Tail {A B : Type 0} (f : A → B) (o : Read A) (y : B) : Type 0 where
  pub value : A
  pub same : y ≡ f value
  pub reads : Reads o value

pub tail : {A B : Type 0} (f : A → B) (o : Read A) {y : B} → Reads (mapped f o) y → Tail f o y
tail f (done a r) h = record { value = a; same = let e = h.reads in cc; reads = record { rest = r; reads = refl } }
tail f (failed e) h = let q = h.reads in let z : ◌≡◌ {A = ℕ} 0 1 = cc in absurd (omega arith)

pub along : {A : Type 0} {o p : Read A} {x : A} → o ≡ p → Reads o x → Reads p x
along e h = record { rest = h.rest; reads = sym e ∙ h.reads }

-- ---- one answer, where the list is known

module _ {text : Bytes} {words : List ℕ} {p : Parts} {vs : Params} (h : Reads (params_read text words p) vs) where
  pub params_next : {v : Parameter} {q : Parts} → ParamStepIs text words p (Ok (Some (v, q)))
      → Tail (param (param_means text words v)) (params_read text words q) vs
  params_next {v} {q} i = tail (param (param_means text words v)) (params_read text words q) (along i.means.first h)

  pub params_end : ParamStepIs text words p (Ok None) → vs ≡ no_params
  params_end i = one h i.means

  pub params_read_lem : {f : declared.Fault} → ParamStepIs text words p (Err f) → ⊥
  params_read_lem i = not_failed h i.means

module _ {text : Bytes} {words : List ℕ} {p : Parts} {b : Option Name} {ks : Keys} (h : Reads (keys_left text words p b) ks) where
  pub keys_next : {j : Hash} → KeyStepIs text words p b (Ok (Some j))
      → Tail (key (name_means text j.key) (param_means text words j.value)) (keys_left text words p (Some j.key)) ks
  keys_next {j} i = tail (key (name_means text j.key) (param_means text words j.value)) (keys_left text words p (Some j.key)) (along i.means.first h)

  pub keys_end : KeyStepIs text words p b (Ok None) → ks ≡ no_keys
  keys_end i = one h i.means

  pub keys_read_lem : {f : declared.Fault} → KeyStepIs text words p b (Err f) → ⊥
  keys_read_lem i = not_failed h i.means

-- ---- all answers

module _ {text : Bytes} {words : List ℕ} where
  pub params_met : {p : Parts} {vs : Params} → ParamsMet text words p vs → Reads (params_read text words p) vs
  params_met (again.ParamsMet.stops i) = i.means
  params_met (again.ParamsMet.takes {v = v} i m) = along (sym i.means.first) (reads_mapped (param (param_means text words v)) (params_met m))

  pub keys_met : {p : Parts} {b : Option Name} {ks : Keys} → KeysMet text words p b ks → Reads (keys_left text words p b) ks
  keys_met (again.KeysMet.stops i) = i.means
  keys_met (again.KeysMet.takes {h = j} i m) = along (sym i.means.first) (reads_mapped (key (name_means text j.key) (param_means text words j.value)) (keys_met m))

above_none : (ks : Keys) → keys_above none ks ≡ ks
unfolding keys_above
above_none no_keys = refl
above_none (key k v ks) = ap (key k v) (above_none ks)

-- without a bound every key is left
pub keys_all_lem : (text : Bytes) (words : List ℕ) (p : Parts) {ks : Keys} → Reads (keys_read text words p) ks
    → Reads (keys_left text words p None) ks
keys_all_lem text words p {ks} h = record {
  rest = h.rest;
  reads = ap (mapped (keys_above none)) h.reads ∙ ap (λ z. done z h.rest) (above_none ks);
}

-- an expression's call is its name, the parameters met and the keys met
pub call_met : (text : Bytes) (words : List ℕ) (n : Parameter) {p : Parts} {vs : Params} {ks : Keys} → ParamsMet text words p vs
    → KeysMet text words p None ks → call_means text words n p ≡ call (param_means text words n) vs ks
call_met text words n {p} {vs} {ks} a b =
    let c = tail (keys_above none) (keys_read text words p) (keys_met b) in
    let k : read_or no_keys (keys_read text words p) ≡ ks = value_of no_keys c.reads ∙ sym (c.same ∙ above_none c.value) in
    ap (λ z. call (param_means text words n) z (read_or no_keys (keys_read text words p))) (value_of no_params (params_met a))
    ∙ ap (call (param_means text words n) vs) k

-- where the parts can be read, both lists are known, and the call is theirs
module _ (text : Bytes) (words : List ℕ) (p : Parts) (h : Readable (parts_read false text words p)) where
  pub params_known : Reads (params_read text words p) (params_of h.value)
  params_known = record { rest = h.rest; reads = ap (mapped params_of) h.reads }

  pub keys_known : Reads (keys_left text words p None) (keys_of h.value)
  keys_known = keys_all_lem text words p (record { rest = h.rest; reads = ap (mapped keys_of) h.reads })

  pub call_known : (n : Parameter) → call_means text words n p ≡ call (param_means text words n) (params_of h.value) (keys_of h.value)
  call_known n =
      ap (λ o. call (param_means text words n) (read_or no_params (mapped params_of o)) (read_or no_keys (mapped keys_of o))) h.reads

-- ---- a link that can be read is entered

pub always_entered : {text : Bytes} {words : List ℕ} {s : Subexpression} {f : declared.Fault}
    → ParamLinked text words (Parameter.Subexpression s)
    → SubexpressionIs text words s (Err f) → ⊥
always_entered h i = not_failed (record { rest = h.rest; reads = h.reads }) i.means
