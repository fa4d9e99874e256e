-- The bytes of an expression's children, piece by piece as the writers store them: a call, and the block parameters behind it. Assumes nothing.
use Prim.Native.Nat.{ℕ}
use mathlib.Core.Path.{◌≡◌, refl, sym, ap, subst, ◌∙◌}
use mathlib.Core.List.{List, [], ◌∷◌, ◌++◌, append-nil, append_assoc}
use Rattle.support.specs.Bytes.{Bytes, ascii}
use Rattle.expression.specs.Expression.{Call, call, Keys, no_keys, key, Expression, no_block_param, single, pair}
use Rattle.expression.specs.Expression as Block
use Rattle.expression.specs.Read.{Fault, failed}
use Rattle.expression.specs.Answers.{block_param_means, block_means, call_means, call_or, expression_means, ExpressionIs}
use Rattle.expression.specs.declared.parameter.BlockParam.{BlockParam}
use Rattle.expression.specs.declared.parameter.Subexpression.{Subexpression}
use Rattle.expression.specs.declared.parameter.ExpressionSpec.{ExpressionSpec}
use Rattle.std.specs.Prelude.{Option, Some, None, Ok}
use Rattle.listing.specs.Quoted.{quoted, escaped}
use Rattle.listing.specs.Form.{Word, quote, line, write_field, write_fields, write_head, Forms, nil, write_form, write_forms}
use Rattle.listing.specs.Listing.{param_form, call_forms, key_forms, block_param_forms}
use Rattle.listing.specs.Children.{block_or, expression_at, decorator_children, helper_children}
use Rattle.listing.specs.Wrote.{Wrote}
use Rattle.listing.specs.declared.writer.Writer.{Writer}
use Rattle.listing.proofs.Writers.{wrote_none, wrote_then}
use Rattle.listing.proofs.ParamWrites.{params_join}
use Rattle.listing.proofs.PathWrites.{quote_head}

-- ---- block parameters

pub single_bytes : (a : Bytes) → write_forms (block_param_forms (single a) nil) ≡ ascii "[as " ++ (quoted a ++ ascii "]\n")
unfolding write_form
single_bytes a = append-nil (write_form (line Word.as_params (quote a ∷ []))) ∙ quote_head Word.as_params a (ascii "]\n")

pair_line : (a b : Bytes)
    → write_form (line Word.as_params (quote a ∷ quote b ∷ [])) ≡ ascii "[as " ++ (quoted a ++ (ascii " " ++ (quoted b ++ ascii "]\n")))
unfolding write_form write_head write_fields write_field
pair_line a b = simp (append-nil, append_assoc)

pub pair_bytes : (a b : Bytes)
    → write_forms (block_param_forms (pair a b) nil) ≡ (ascii "[as " ++ (quoted a ++ ascii " ")) ++ (ascii "" ++ (quoted b ++ ascii "]\n"))
unfolding write_form
pair_bytes a b = append-nil (write_form (line Word.as_params (quote a ∷ quote b ∷ []))) ∙ pair_line a b ∙ simp (append_assoc)

-- the block parameters told by their case
module _ {f g : Writer} (text : Bytes) {b : Option BlockParam} where
  pub block_none : b ≡ None → Wrote (write_forms nil) f g → Wrote (write_forms (block_param_forms (block_means text b) nil)) f g
  block_none e w = subst (λ z. Wrote (write_forms (block_param_forms (block_means text z) nil)) f g) (sym e) w

  pub block_some : {x y : BlockParam} → b ≡ Some x → x ≡ y
      → Wrote (write_forms (block_param_forms (block_param_means text y) nil)) f g
      → Wrote (write_forms (block_param_forms (block_means text b) nil)) f g
  block_some e i w = subst (λ z. Wrote (write_forms (block_param_forms (block_means text z) nil)) f g) (sym (e ∙ ap Some i)) w

pub no_block : (a : Writer) → Wrote (write_forms nil) a a
unfolding write_form
no_block a = wrote_none a

-- ---- a call and what stands behind it

keys_join : (ks : Keys) (rest : Forms) → write_forms (key_forms ks rest) ≡ write_forms (key_forms ks nil) ++ write_forms rest
unfolding param_form write_form
keys_join no_keys rest = refl
keys_join (key k v ks) rest = simp (keys_join ks rest, append_assoc)

pub call_join : (c : Call) (rest : Forms) → write_forms (call_forms c rest) ≡ write_forms (call_forms c nil) ++ write_forms rest
unfolding param_form write_form
call_join (call n ps ks) rest =
    let a = params_join ps (key_forms ks rest) in
    let b = params_join ps (key_forms ks nil) in
    let d = keys_join ks rest in
    simp (a, b, d, append_assoc)

pub block_join : (b : Block.BlockParam) (rest : Forms) → write_forms (block_param_forms b rest) ≡ write_forms (block_param_forms b nil) ++ write_forms rest
unfolding write_form
block_join no_block_param rest = refl
block_join (single a) rest = simp (append-nil, append_assoc)
block_join (pair a b) rest = simp (append-nil, append_assoc)

module _ (text : Bytes) (words : List ℕ) (s : Subexpression) {a b : Writer} where
  pub decorator_empty : {e : Fault} → expression_at text words s ≡ failed e → Wrote (ascii "[name \"\"]\n") a b
      → Wrote (write_forms (decorator_children text words s)) a b
  unfolding decorator_children param_form write_form write_head write_fields write_field quoted escaped
  decorator_empty e w = subst (λ o. Wrote (write_forms (call_forms (call_or o) nil)) a b) (sym e) w

  pub helper_empty : {e : Fault} → expression_at text words s ≡ failed e → Wrote (ascii "[name \"\"]\n") a b
      → Wrote (write_forms (helper_children text words s)) a b
  unfolding helper_children param_form write_form write_head write_fields write_field quoted escaped
  helper_empty e w = subst (λ o. Wrote (write_forms (call_forms (call_or o) (block_param_forms (block_or o) nil))) a b) (sym e) w

  module _ {x : ExpressionSpec} {low : ℕ} (i : ExpressionIs text words (expression_at text words s) low (Ok x)) where
    pub decorator_written : Wrote (write_forms (call_forms (call_means text words x.name x.parts) nil)) a b
        → Wrote (write_forms (decorator_children text words s)) a b
    unfolding decorator_children expression_means
    decorator_written w = subst (λ o. Wrote (write_forms (call_forms (call_or o) nil)) a b) (sym i.reads) w

    pub helper_written : {c : Writer} → Wrote (write_forms (call_forms (call_means text words x.name x.parts) nil)) a c
        → Wrote (write_forms (block_param_forms (block_means text x.block_param) nil)) c b
        → Wrote (write_forms (helper_children text words s)) a b
    unfolding helper_children expression_means
    helper_written f g =
        subst (λ o. Wrote (write_forms (call_forms (call_or o) (block_param_forms (block_or o) nil))) a b) (sym i.reads)
        (rw (call_join (call_means text words x.name x.parts) (block_param_forms (block_means text x.block_param) nil)) (wrote_then f g))
