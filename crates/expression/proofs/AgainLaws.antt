-- The steps of reading again: what holds from part to part, and what follows where the loop ends. Assumes nothing.
use Prim.Native.Nat.{ℕ, ◌≤◌}
use native.Mathlib.Omega.{arith}
use mathlib.Core.Path.{◌≡◌, refl, sym, ap, subst, ◌∙◌}
use mathlib.Core.List.{List, [], ◌∷◌}
use mathlib.Core.Bool.{false}
use mathlib.Core.Option.{Option, none, some}
use Rattle.std.specs.Prelude.{Some, None, Result, Ok, Err}
use Rattle.std.specs.Prelude as std
use Rattle.support.specs.Bytes.{Bytes}
use Rattle.json_path.specs.Span.{Span, spans_from}
use Rattle.json_path.specs.Answers.{name_means}
use Rattle.json_path.specs.declared.path.Name.{Name}
use Rattle.expression.specs.Expression.{Param, subexpression, Params, param, no_keys, key, add_param, params_of, keys_of}
use Rattle.expression.specs.Expression as spec
use Rattle.expression.specs.Read.{Read, done, failed, mapped, Reads}
use Rattle.expression.specs.Answers.{param_means, part_means, PartLinked, parts_read, FirstPart, params_read}
use Rattle.expression.specs.Again.{ParamStepIs, bound_means, keys_above, KeyStepIs}
use Rattle.expression.specs.Least.{lower, entry, least_of, least_means, LeastLinked, LeastIs}
use Rattle.expression.specs.declared.parameter.Parameter.{Parameter}
use Rattle.expression.specs.declared.parameter.Part.{Part}
use Rattle.expression.specs.declared.parameter.Parts.{Parts}
use Rattle.expression.specs.declared.parameter.Hash.{Hash}
use Rattle.expression.proofs.Laws.{mapped_twice}
use Rattle.expression.proofs.KeyLaws.{sorted_keys, first_least, others_above, none_above, lower_none, lower_lower}

mapped_same : {A B : Type 0} (f g : A → B) → ((a : A) → f a ≡ g a) → (o : Read A) → mapped f o ≡ mapped g o
mapped_same f g h (done a r) = ap (λ b. done b r) (h a)
mapped_same f g h (failed e) = refl

-- ---- the first parameter: none came up to `rest`

pub record Passing (text : Bytes) (words : List ℕ) (p rest : Parts) : Type 0 where
  pub same : params_read text words p ≡ params_read text words rest
  pub onward : p.from ≤ rest.from

-- a part that is no parameter adds none
adds_none : (text : Bytes) (words : List ℕ) (x : Part) → ((v : Parameter) → x ≡ Part.Param v → ⊥) → (ps : Params) → add_param (part_means text words x) ps ≡ ps
adds_none text words (Part.Param v) h ps = absurd (h v refl)
adds_none text words (Part.Hash k) h ps = refl
adds_none text words (Part.BlockParam b) h ps = refl
adds_none text words Part.RightTilde h ps = refl
adds_none text words Part.Skipped h ps = refl

mapped_self : {A : Type 0} (o : Read A) → mapped (λ a. a) o ≡ o
mapped_self (done a s) = refl
mapped_self (failed z) = refl

module _ {text : Bytes} {words : List ℕ} {p rest : Parts} (g : Passing text words p rest) where
  pub passing_end : parts_read false text words rest ≡ done [] (spans_from words rest.from) → ParamStepIs text words p (Ok None)
  unfolding params_of
  passing_end e = record { means = record { rest = spans_from words rest.from; reads = g.same ∙ ap (mapped params_of) e } }

  module _ {x : Part} {q : Parts} (i : FirstPart false text words rest x q) where
    then : (f : Params → Params) → ((ps : Params) → add_param (part_means text words x) ps ≡ f ps)
        → params_read text words p ≡ mapped f (params_read text words q)
    unfolding params_of
    then f h =
        g.same ∙ ap (mapped params_of) i.first ∙ mapped_twice params_of (λ xs. part_means text words x ∷ xs) (parts_read false text words q)
        ∙ mapped_same (λ xs. add_param (part_means text words x) (params_of xs)) (λ xs. f (params_of xs)) (λ xs. h (params_of xs)) (parts_read false text words q)
        ∙ sym (mapped_twice f params_of (parts_read false text words q))

    pub passing_found : {v : Parameter} → x ≡ Part.Param v → ParamStepIs text words p (Ok (Some (v, q)))
    passing_found {v} e = record {
      means = record {
        first = then (param (param_means text words v)) (λ ps. ap (λ z. add_param (part_means text words z) ps) e);
        onward = omega arith;
        inside = omega arith;
        linked = subst (λ z. PartLinked text words z) e i.linked;
      };
    }

    pub passing_on : ((v : Parameter) → x ≡ Part.Param v → ⊥) → Passing text words p q
    passing_on h = record { same = then (λ ps. ps) (adds_none text words x h) ∙ mapped_self (params_read text words q); onward = omega arith }

-- ---- the least key: `least` is that of the parts before `rest`

pub record Seeking (text : Bytes) (words : List ℕ) (p : Parts) (b : std.Option Name) (rest : Parts) (least : std.Option Hash) : Type 0 where
  pub same : mapped (least_of (bound_means text b)) (parts_read false text words p) ≡ mapped (λ xs. lower (least_means text words least) (least_of (bound_means text b) xs)) (parts_read false text words rest)
  pub linked : LeastLinked text words least

-- what was read, o, has the least key m
read_none : (b : Option Bytes) (r : List Span) (o : Read (List spec.Part)) → mapped (least_of b) o ≡ done none r
    → Reads (mapped (keys_above b) (mapped keys_of o)) no_keys
read_none b r (done xs s) e = let q : least_of b xs ≡ none = cc in record { rest = s; reads = ap (λ z. done z s) (none_above (keys_above b (keys_of xs)) (first_least b xs ∙ q)) }
read_none b r (failed f) e = record { rest = r; reads = cc }

read_some : (b : Option Bytes) (k : Bytes) (v : Param) (r : List Span) (o : Read (List spec.Part))
    → mapped (least_of b) o ≡ done (some (k, v)) r
    → mapped (keys_above b) (mapped keys_of o) ≡ mapped (key k v) (mapped (keys_above (some k)) (mapped keys_of o))
read_some b k v r (done xs s) e = let q : least_of b xs ≡ some (k, v) = cc in ap (λ z. done z s) (others_above b k v (keys_of xs) (sorted_keys xs) (first_least b xs ∙ q))
read_some b k v r (failed f) e = cc

module _ {text : Bytes} {words : List ℕ} {p : Parts} {b : std.Option Name} {rest : Parts} {least : std.Option Hash} (g : Seeking text words p b rest least) where
  pub seeking_on : {x : Part} {q : Parts} {r : std.Option Hash} → FirstPart false text words rest x q → LeastIs text b least x r
      → Seeking text words p b q r
  unfolding least_of
  seeking_on {x} {q} {r} i l =
      let c : Option Bytes = bound_means text b in
      let m = least_means text words least in
      let y = part_means text words x in
      record {
        same =
            g.same ∙ ap (mapped (λ xs. lower m (least_of c xs))) i.first
            ∙ mapped_twice (λ xs. lower m (least_of c xs)) (λ xs. y ∷ xs) (parts_read false text words q)
            ∙ mapped_same (λ xs. lower m (lower (entry c y) (least_of c xs))) (λ xs. lower (lower m (entry c y)) (least_of c xs)) (λ xs. lower_lower m (entry c y) (least_of c xs)) (parts_read false text words q)
            ∙ ap (λ z. mapped (λ xs. lower z (least_of c xs)) (parts_read false text words q)) (sym (l.means words));
        linked = l.linked words g.linked i.linked;
      }

  ends : parts_read false text words rest ≡ done [] (spans_from words rest.from) → {n : std.Option Hash} → least ≡ n
      → mapped (least_of (bound_means text b)) (parts_read false text words p) ≡ done (least_means text words n) (spans_from words rest.from)
  unfolding least_of
  ends e f =
      g.same ∙ ap (mapped (λ xs. lower (least_means text words least) (least_of (bound_means text b) xs))) e
      ∙ ap (λ z. done z (spans_from words rest.from)) (lower_none (least_means text words least) ∙ ap (least_means text words) f)

  pub seeking_ends : parts_read false text words rest ≡ done [] (spans_from words rest.from) → KeyStepIs text words p b (Ok least)
  seeking_ends e = go least refl
    where
      go : (n : std.Option Hash) → least ≡ n → KeyStepIs text words p b (Ok least)
      go None f = rw f (record { means = read_none (bound_means text b) (spans_from words rest.from) (parts_read false text words p) (ends e f) })
      go (Some h) f = rw f (record {
        means = record {
          first = read_some (bound_means text b) (name_means text h.key) (param_means text words h.value) (spans_from words rest.from) (parts_read false text words p) (ends e f);
          linked = subst (λ z. LeastLinked text words z) f g.linked;
        };
      })
