-- The bytes of a parameter's forms, piece by piece as the writers store them; the loops over parameters and keys: what writes those that
-- are left writes the whole; and what falls from call to call. Assumes nothing.
use Prim.Native.Nat.{ℕ, ◌+◌, ◌≤◌, ◌<◌}
use native.Mathlib.Omega.{arith}
use mathlib.Core.Path.{◌≡◌, refl, sym, ap, subst, ◌∙◌}
use mathlib.Core.List.{List, [], ◌++◌, append-nil, append_assoc}
use mathlib.Core.Bool.{true, false}
use Rattle.support.specs.Bytes.{Bytes, ascii}
use Rattle.json_path.specs.Span.{spans_from}
use Rattle.json_path.specs.Answers.{name_means}
use Rattle.literal.specs.Requote.{requoted}
use Rattle.expression.specs.Expression.{Param, name, literal, subexpression, Call, call, Params, no_params, param, Keys, no_keys, key, params_of, keys_of}
use Rattle.expression.specs.Read.{Fault, failed, read_or, mapped, Readable, Reads}
use Rattle.expression.specs.Readers.{read_expression}
use Rattle.expression.specs.Answers.{literal_means, call_or, param_means, parts_read, params_read, keys_read, call_means}
use Rattle.expression.specs.Again.{ParamStepIs, KeyStepIs, keys_left, Entered}
use Rattle.expression.specs.declared.parameter.Parameter.{Parameter}
use Rattle.expression.specs.declared.parameter.Subexpression.{Subexpression}
use Rattle.expression.specs.declared.parameter.ExpressionSpec.{ExpressionSpec}
use Rattle.expression.specs.declared.parameter.Parts.{Parts}
use Rattle.expression.specs.declared.parameter.Literal.{Literal}
use Rattle.expression.specs.declared.parameter.Hash.{Hash}
use Rattle.std.specs.Prelude.{Option, Some, None, Ok}
use Rattle.json_path.specs.declared.path.Name as declared
use Rattle.listing.specs.Quoted.{quoted, escaped}
use Rattle.listing.specs.Form.{Word, write_field, write_head, write_fields, Forms, nil, write_form, write_forms}
use Rattle.listing.specs.Listing.{param_form, call_forms, param_forms, key_forms}
use Rattle.listing.specs.Wrote.{Wrote}
use Rattle.listing.specs.declared.writer.Writer.{Writer}
use Rattle.expression.proofs.Lists.{params_known, keys_known, call_known, params_next, params_end, keys_next, keys_end}
use Rattle.listing.proofs.Writers.{wrote_then, Onward, onward_start, onward_as, onward_next, onward_end}
use Rattle.listing.proofs.PathWrites.{quote_head}
use Rattle.listing.proofs.Size.{param_size, call_size, params_size, keys_size}

-- ---- the bytes of a form

pub name_bytes_lem : (t : Bytes) → write_form (param_form (name t)) ≡ ascii "[name " ++ (quoted t ++ ascii "]\n")
unfolding param_form write_form
name_bytes_lem t = quote_head Word.name t (ascii "]\n")

pub literal_bytes : (t : Bytes) → write_form (param_form (literal t)) ≡ ascii "[lit " ++ (quoted t ++ ascii "]\n")
unfolding param_form write_form
literal_bytes t = quote_head Word.lit t (ascii "]\n")

pub sub_bytes : (c : Call) → write_form (param_form (subexpression c)) ≡ ascii "[sub\n" ++ (write_forms (call_forms c nil) ++ ascii "]\n")
unfolding param_form write_form write_head write_fields
sub_bytes c = refl

pub params_join : (ps : Params) (rest : Forms) → write_forms (param_forms ps rest) ≡ write_forms (param_forms ps nil) ++ write_forms rest
unfolding param_form write_form
params_join no_params rest = refl
params_join (param p ps) rest = ap (write_form (param_form p) ++◌) (params_join ps rest) ∙ sym (append_assoc (write_form (param_form p)) (write_forms (param_forms ps nil)) (write_forms rest))

pub call_bytes_lem : (n : Param) (ps : Params) (ks : Keys)
    → write_forms (call_forms (call n ps ks) nil) ≡ write_form (param_form n) ++ (write_forms (param_forms ps nil) ++ write_forms (key_forms ks nil))
unfolding param_form write_form
call_bytes_lem n ps ks = ap (write_form (param_form n) ++◌) (params_join ps (key_forms ks nil))

key_bytes_lem : (k : Bytes) (v : Param) (ks : Keys)
    → write_forms (key_forms (key k v ks) nil) ≡ ((ascii "[key " ++ (quoted k ++ ascii "\n")) ++ (write_form (param_form v) ++ ascii "]\n")) ++ write_forms (key_forms ks nil)
unfolding param_form write_form
key_bytes_lem k v ks =
    let f = write_form (param_form v) in
    let a : quoted k ++ (ascii "\n" ++ (f ++ ascii "]\n")) ≡ (quoted k ++ ascii "\n") ++ (f ++ ascii "]\n") = sym (append_assoc (quoted k) (ascii "\n") (f ++ ascii "]\n")) in
    let b : ascii "[key " ++ (quoted k ++ (ascii "\n" ++ (f ++ ascii "]\n"))) ≡ (ascii "[key " ++ (quoted k ++ ascii "\n")) ++ (f ++ ascii "]\n") =
    ap (ascii "[key " ++◌) a ∙ sym (append_assoc (ascii "[key ") (quoted k ++ ascii "\n") (f ++ ascii "]\n")) in
    ap (◌++ write_forms (key_forms ks nil))
    (quote_head Word.key k (ascii "\n" ++ ((f ++ []) ++ ascii "]\n")) ∙ (ap (λ s. ascii "[key " ++ (quoted k ++ (ascii "\n" ++ (s ++ ascii "]\n")))) (append-nil f) ∙ b))

pub hash_bytes : (k : Bytes) (v : Param)
    → write_forms (key_forms (key k v no_keys) nil) ≡ (ascii "[key " ++ (quoted k ++ ascii "\n")) ++ (write_form (param_form v) ++ ascii "]\n")
unfolding param_form write_form
hash_bytes k v = key_bytes_lem k v no_keys ∙ append-nil _

pub keys_join : (k : Bytes) (v : Param) (ks : Keys)
    → write_forms (key_forms (key k v ks) nil) ≡ write_forms (key_forms (key k v no_keys) nil) ++ write_forms (key_forms ks nil)
keys_join k v ks = key_bytes_lem k v ks ∙ ap (◌++ write_forms (key_forms ks nil)) (sym (hash_bytes k v))

-- ---- a parameter told by its case

pub param_is : {a b : Writer} (text : Bytes) (words : List ℕ) {g h : Parameter} → g ≡ h
    → Wrote (write_form (param_form (param_means text words h))) a b
    → Wrote (write_form (param_form (param_means text words g))) a b
param_is {a} {b} text words e w = subst (λ z. Wrote (write_form (param_form (param_means text words z))) a b) (sym e) w

-- the kept text, by whether it was rewritten
module _ {a b : Writer} (text : Bytes) (i : Literal) where
  pub kept_rewritten : {s : Bytes} → i.quoted ≡ true → s ≡ name_means text i.kept → Wrote (quoted (requoted s)) a b
      → Wrote (quoted (literal_means text i)) a b
  kept_rewritten e f w = rw (e, sym f) w

  pub kept_as_written : i.quoted ≡ false → Wrote (quoted (name_means text i.kept)) a b
      → Wrote (quoted (literal_means text i)) a b
  kept_as_written e w = rw e w

-- a subexpression, from the call that its link gives
pub sub_written : {text : Bytes} {words : List ℕ} {s : Subexpression} {x : ExpressionSpec} {a b c d : Writer} → Entered text words s x
    → Wrote (ascii "[sub\n") a b → Wrote (write_forms (call_forms (call_means text words x.name x.parts) nil)) b c → Wrote (ascii "]\n") c d
    → Wrote (write_form (param_form (param_means text words (Parameter.Subexpression s)))) a d
sub_written {a = a} {d = d} i f g j = subst (λ z. Wrote (write_form (param_form z)) a d) (sym i.means) (rw (sub_bytes _) (wrote_then f (wrote_then g j)))

-- a link that cannot be read: an empty call
pub sub_empty : (text : Bytes) (words : List ℕ) (s : Subexpression) {e : Fault} {a b : Writer}
    → read_expression false text s.depth s.limit (spans_from words s.from) ≡ failed e
    → Wrote (ascii "[sub\n[name \"\"]\n]\n") a b
    → Wrote (write_form (param_form (param_means text words (Parameter.Subexpression s)))) a b
unfolding param_means param_form write_form write_head write_fields write_field quoted escaped
sub_empty text words s {a = a} {b = b} e w = subst (λ o. Wrote (write_form (param_form (subexpression (call_or o)))) a b) (sym e) w

-- ---- sizes

abbrev pub params_all : Bytes → List ℕ → Parts → ℕ
params_all text words p = params_size (read_or no_params (params_read text words p))

abbrev pub keys_all : Bytes → List ℕ → Parts → Option declared.Name → ℕ
keys_all text words p b = keys_size (read_or no_keys (keys_left text words p b))

-- a call is as large as what it holds
pub call_size_lem : (text : Bytes) (words : List ℕ) (n : Parameter) (p : Parts) → Readable (parts_read false text words p)
    → call_size (call_means text words n p) ≡ param_size (param_means text words n) + params_all text words p + keys_all text words p None
call_size_lem text words n p h =
    let a = ap call_size (call_known text words p h n) in
    let b = ap (λ o. params_size (read_or no_params o)) (params_known text words p h).reads in
    let c = ap (λ o. keys_size (read_or no_keys o)) (keys_known text words p h).reads in
    omega arith

pub sub_size : {text : Bytes} {words : List ℕ} {s : Subexpression} {x : ExpressionSpec} → Entered text words s x
    → param_size (param_means text words (Parameter.Subexpression s)) ≡ call_size (call_means text words x.name x.parts) + 1
sub_size i = ap param_size i.means

-- ---- parameters

pub record ParamsLeft (text : Bytes) (words : List ℕ) (p : Parts) (a : Writer) (rest : Parts) (b : Writer) : Type 0 where
  pub params : Params
  pub reads : Reads (params_read text words rest) params
  pub fits : params_size params ≤ params_all text words p
  pub onward : Onward (write_forms (param_forms (read_or no_params (params_read text words p)) nil)) (write_forms (param_forms params nil)) a b

pub params_begin : (text : Bytes) (words : List ℕ) (p : Parts) (a : Writer) → Readable (parts_read false text words p)
    → ParamsLeft text words p a p a
params_begin text words p a h =
    let k = params_known text words p h in
    let e : read_or no_params (params_read text words p) ≡ params_of h.value = ap (read_or no_params) k.reads in
    let f = ap params_size e in
    record {
      params = params_of h.value;
      reads = k;
      fits = omega arith;
      onward = onward_as (ap (λ z. write_forms (param_forms z nil)) e) (onward_start _ a);
    }

module _ {text : Bytes} {words : List ℕ} {p rest : Parts} {a b : Writer} (g : ParamsLeft text words p a rest b) where
  module _ {v : Parameter} {after : Parts} (i : ParamStepIs text words rest (Ok (Some (v, after)))) where
    pub params_less : param_size (param_means text words v) < params_all text words p
    params_less = let t = params_next g.reads i in let f = ap params_size t.same in omega (arith, g.fits)

    pub params_on : {c : Writer} → Wrote (write_form (param_form (param_means text words v))) b c
        → ParamsLeft text words p a after c
    unfolding param_form write_form
    params_on w =
        let t = params_next g.reads i in
        let f = ap params_size t.same in
        record {
          params = t.value;
          reads = t.reads;
          fits = omega (arith, g.fits);
          onward = onward_next (onward_as (ap (λ z. write_forms (param_forms z nil)) t.same) g.onward) w;
        }

  pub params_done : ParamStepIs text words rest (Ok None)
      → Wrote (write_forms (param_forms (read_or no_params (params_read text words p)) nil)) a b
  unfolding param_form write_form
  params_done i = onward_end (onward_as (ap (λ z. write_forms (param_forms z nil)) (params_end g.reads i)) g.onward)

-- ---- keys

pub record KeysLeft (text : Bytes) (words : List ℕ) (p : Parts) (a : Writer) (k : Option declared.Name) (b : Writer) : Type 0 where
  pub keys : Keys
  pub reads : Reads (keys_left text words p k) keys
  pub fits : keys_size keys ≤ keys_all text words p None
  pub onward : Onward (write_forms (key_forms (read_or no_keys (keys_read text words p)) nil)) (write_forms (key_forms keys nil)) a b

pub keys_begin : (text : Bytes) (words : List ℕ) (p : Parts) (a : Writer) → Readable (parts_read false text words p)
    → KeysLeft text words p a None a
keys_begin text words p a h =
    let k = keys_known text words p h in
    let e : read_or no_keys (keys_read text words p) ≡ keys_of h.value = ap (λ o. read_or no_keys (mapped keys_of o)) h.reads in
    let f = ap (λ o. keys_size (read_or no_keys o)) k.reads in
    record {
      keys = keys_of h.value;
      reads = k;
      fits = omega arith;
      onward = onward_as (ap (λ z. write_forms (key_forms z nil)) e) (onward_start _ a);
    }

module _ {text : Bytes} {words : List ℕ} {p : Parts} {k : Option declared.Name} {a b : Writer} (g : KeysLeft text words p a k b) where
  module _ {h : Hash} (i : KeyStepIs text words p k (Ok (Some h))) where
    pub keys_less : param_size (param_means text words h.value) < keys_all text words p None
    keys_less = let t = keys_next g.reads i in let f = ap keys_size t.same in omega (arith, g.fits)

    pub keys_fall : keys_all text words p (Some h.key) < keys_all text words p k
    keys_fall =
        let t = keys_next g.reads i in
        let f = ap keys_size t.same in
        let l = ap (λ o. keys_size (read_or no_keys o)) g.reads.reads in
        let m = ap (λ o. keys_size (read_or no_keys o)) t.reads.reads in
        omega arith

    pub keys_on : {c : Writer} → Wrote (write_forms (key_forms (key (name_means text h.key) (param_means text words h.value) no_keys) nil)) b c
        → KeysLeft text words p a (Some h.key) c
    keys_on w =
        let y = keys_next g.reads i in
        let f = ap keys_size y.same in
        record {
          keys = y.value;
          reads = y.reads;
          fits = omega (arith, g.fits);
          onward = onward_next (onward_as (ap (λ o. write_forms (key_forms o nil)) y.same ∙ keys_join _ _ _) g.onward) w;
        }

  pub keys_done : KeyStepIs text words p k (Ok None) → Wrote (write_forms (key_forms (read_or no_keys (keys_read text words p)) nil)) a b
  unfolding param_form write_form
  keys_done i = onward_end (onward_as (ap (λ z. write_forms (key_forms z nil)) (keys_end g.reads i)) g.onward)
