-- All parts of an expression, as the loop over them takes them: of those read so far the last block parameter and the right tilde are kept.
-- And a subexpression, from the expression inside it. Assumes nothing.
use Prim.Native.Nat.{ℕ, ◌-◌, ◌≤◌}
use native.Mathlib.Omega.{arith}
use mathlib.Core.Path.{◌≡◌, refl, sym, ap, ◌∙◌}
use mathlib.Core.List.{List, [], ◌∷◌}
use mathlib.Core.Bool.{Bool, true, false}
use Rattle.std.specs.Prelude.{Option, Some, Ok}
use Rattle.support.specs.Bytes.{Bytes}
use Rattle.json_path.specs.Span.{Span, spans_from}
use Rattle.expression.specs.Expression.{Param, subexpression, call, no_params, no_keys, no_block_param, block_after, tilde_after, params_of, keys_of, last_block, any_tilde, expression_of}
use Rattle.expression.specs.Expression as spec
use Rattle.expression.specs.Read.{Read, done, failed, mapped, read_or, Readable}
use Rattle.expression.specs.Readers.{read_subexpression, read_expression}
use Rattle.expression.specs.Answers.{call_or, param_means, ParamIs, ExpressionIs, block_means, part_means, parts_read, FirstPart, expression_means, PartsIs}
use Rattle.expression.specs.declared.parameter.Parameter.{Parameter}
use Rattle.expression.specs.declared.parameter.BlockParam.{BlockParam}
use Rattle.expression.specs.declared.parameter.Part.{Part}
use Rattle.expression.specs.declared.parameter.Parts.{Parts}
use Rattle.expression.specs.declared.parameter.ExpressionSpec.{ExpressionSpec}
use Rattle.expression.proofs.Equations.{subexpression_inside}
use Rattle.expression.proofs.Judged.{expression_again, parts_again}

pub mapped_twice : {A B C : Type 0} (f : B → C) (g : A → B) (o : Read A) → mapped f (mapped g o) ≡ mapped (λ a. f (g a)) o
mapped_twice f g (done a r) = refl
mapped_twice f g (failed e) = refl

pub record Reading (judged : Bool) (text : Bytes) (words : List ℕ) (p rest : Parts) (b : Option BlockParam) (t : Bool) : Type 0 where
  pub blocks : mapped (last_block no_block_param) (parts_read judged text words p) ≡ mapped (last_block (block_means text b)) (parts_read judged text words rest)
  pub tildes : mapped (any_tilde false) (parts_read judged text words p) ≡ mapped (any_tilde t) (parts_read judged text words rest)
  pub onward : p.from ≤ rest.from

-- the expression of the parts read, o, whose last block parameter and right tilde are known; p reads them again
whole : (left : Bool) (n : Param) (b : spec.BlockParam) (t : Bool) (r : List Span) (o p : Read (List spec.Part))
    → ((xs : List spec.Part) (s : List Span) → o ≡ done xs s → p ≡ done xs s)
    → mapped (last_block no_block_param) o ≡ done b r → mapped (any_tilde false) o ≡ done t r
    → mapped (expression_of left n) o ≡ done (record { omit_pre_ws = left; call_of = call n (read_or no_params (mapped params_of p)) (read_or no_keys (mapped keys_of p)); block_param = b; omit_pro_ws = t }) r
whole left n b t r (done xs r₀) p again h k =
    let q : p ≡ done xs r₀ = again xs r₀ refl in
    let e : last_block no_block_param xs ≡ b = cc in
    let f : any_tilde false xs ≡ t = cc in
    let g : r₀ ≡ r = cc in
    rw (q, e, f, g)
whole left n b t r (failed x) p again h k = cc

readable : {A B : Type 0} (f : A → B) (o p : Read A) {b : B} {r : List Span} → ((a : A) (s : List Span) → o ≡ done a s → p ≡ done a s)
    → mapped f o ≡ done b r → Readable p
readable f (done a s) p again e = record { value = a; rest = s; reads = again a s refl }
readable f (failed x) p again e = let z : ◌≡◌ {A = ℕ} 0 1 = cc in absurd (omega arith)

module _ {judged : Bool} {text : Bytes} {words : List ℕ} {p rest : Parts} {b : Option BlockParam} {t : Bool} (g : Reading judged text words p rest b t) where
  -- a part x, after which the block parameter is c and the right tilde u
  reading_on : {x : Part} {q : Parts} {c : Option BlockParam} {u : Bool} → FirstPart judged text words rest x q
      → block_after (block_means text b) (part_means text words x) ≡ block_means text c → tilde_after t (part_means text words x) ≡ u
      → Reading judged text words p q c u
  unfolding last_block any_tilde
  reading_on {x} {q} {c} {u} i e f = record {
    blocks =
        g.blocks ∙ ap (mapped (last_block (block_means text b))) i.first
        ∙ mapped_twice (last_block (block_means text b)) (λ xs. part_means text words x ∷ xs) (parts_read judged text words q)
        ∙ ap (λ z. mapped (last_block z) (parts_read judged text words q)) e;
    tildes =
        g.tildes ∙ ap (mapped (any_tilde t)) i.first
        ∙ mapped_twice (any_tilde t) (λ xs. part_means text words x ∷ xs) (parts_read judged text words q)
        ∙ ap (λ z. mapped (any_tilde z) (parts_read judged text words q)) f;
    onward = omega arith;
  }

  module _ {x : Part} {q : Parts} (i : FirstPart judged text words rest x q) where
    pub reading_block : {c : BlockParam} → x ≡ Part.BlockParam c → Reading judged text words p q (Some c) t
    reading_block e = reading_on i (ap (λ z. block_after (block_means text b) (part_means text words z)) e) (ap (λ z. tilde_after t (part_means text words z)) e)

    pub reading_tilde : x ≡ Part.RightTilde → Reading judged text words p q b true
    reading_tilde e = reading_on i (ap (λ z. block_after (block_means text b) (part_means text words z)) e) (ap (λ z. tilde_after t (part_means text words z)) e)

    pub reading_past : ((c : BlockParam) → x ≡ Part.BlockParam c → ⊥) → (x ≡ Part.RightTilde → ⊥) → Reading judged text words p q b t
    reading_past h k = reading_on i (same x h k).0 (same x h k).1
      where
        same : (x : Part) → ((c : BlockParam) → x ≡ Part.BlockParam c → ⊥) → (x ≡ Part.RightTilde → ⊥)
            → (block_after (block_means text b) (part_means text words x) ≡ block_means text b) × (tilde_after t (part_means text words x) ≡ t)
        same (Part.Param v) h k = (refl, refl)
        same (Part.Hash v) h k = (refl, refl)
        same (Part.BlockParam c) h k = absurd (h c refl)
        same Part.RightTilde h k = absurd (k refl)
        same Part.Skipped h k = (refl, refl)

  module _ (left : Bool) (n : Parameter) where
    pub reading_ends : parts_read judged text words rest ≡ done [] (spans_from words rest.from)
        → PartsIs judged text words left n p (Ok (record { omit_pre_ws = left; name = n; parts = p; block_param = b; omit_pro_ws = t; next = rest.from }))
    unfolding last_block any_tilde expression_means
    reading_ends e = record {
      reads = whole left (param_means text words n) (block_means text b) t (spans_from words rest.from) (parts_read judged text words p) (parts_read false text words p) again
          (g.blocks ∙ ap (mapped (last_block (block_means text b))) e)
          (g.tildes ∙ ap (mapped (any_tilde t)) e);
      onward = g.onward;
      linked = (refl, readable (last_block no_block_param) (parts_read judged text words p) (parts_read false text words p) again (g.blocks ∙ ap (mapped (last_block (block_means text b))) e));
    }
      where
        again : (xs : List spec.Part) (s : List Span) → parts_read judged text words p ≡ done xs s → parts_read false text words p ≡ done xs s
        again xs s h = parts_again judged text p.depth p.limit (spans_from words p.from) h

-- ---- a subexpression: what was read at its link is read again

pub opened : (judged : Bool) (text : Bytes) (words : List ℕ) (at limit d : ℕ) {x : ExpressionSpec} → (d ≡ 0 → ⊥)
    → ExpressionIs text words (read_expression judged text (d - 1) limit (spans_from words at)) at (Ok x)
    → ParamIs text words (read_subexpression judged text d limit (spans_from words at)) at (Ok (Parameter.Subexpression (record { from = at; limit = limit; depth = d - 1 }), x.next))
unfolding param_means
opened judged text words at limit d {x} h i =
    let s = spans_from words at in
    let again = expression_again judged text (d - 1) limit s i.reads in
    record {
      reads = subexpression_inside judged text d h limit s ∙ ap (mapped (λ z. subexpression z.call_of)) i.reads
          ∙ ap (λ z. done (subexpression (call_or z)) (spans_from words x.next)) (sym again);
      onward = i.onward;
      linked = record { value = expression_means text words x; rest = spans_from words x.next; reads = again };
    }
