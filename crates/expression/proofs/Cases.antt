-- What an answer of the code says once its case is known, as `let .. else` and `match` tell it. Assumes nothing.
use Prim.Native.Nat.{ℕ}
use mathlib.Core.Path.{◌≡◌, subst}
use mathlib.Core.List.{List, []}
use mathlib.Core.Bool.{Bool, false}
use Rattle.std.specs.Prelude.{Option, None, Result, Ok, Err}
use Rattle.support.specs.Bytes.{Bytes}
use Rattle.json_path.specs.Span.{spans_from}
use Rattle.expression.specs.Expression.{Expression}
use Rattle.expression.specs.Read.{Read, done, failed}
use Rattle.expression.specs.Readers.{read_expression}
use Rattle.expression.specs.Answers.{fault_means, parts_read, PartIs, ExpressionIs}
use Rattle.expression.specs.Again.{Entered, SubexpressionIs}
use Rattle.expression.specs.declared.parameter.Subexpression.{Subexpression}
use Rattle.expression.specs.declared.parameter.Part.{Part}
use Rattle.expression.specs.declared.parameter.Parts.{Parts}
use Rattle.expression.specs.declared.parameter.Fault.{Fault}
use Rattle.expression.specs.declared.parameter.ExpressionSpec.{ExpressionSpec}

module _ {text : Bytes} {words : List ℕ} where
  module _ {judged : Bool} {p : Parts} {r : Result (Option (Part × Parts)) Fault} where
    pub part_none : r ≡ Ok None → PartIs judged text words p r → parts_read judged text words p ≡ done [] (spans_from words p.from)
    part_none e h = (subst (λ z. PartIs judged text words p z) e h).means

  module _ {o : Read Expression} {low : ℕ} {r : Result ExpressionSpec Fault} where
    pub expression_done : {x : ExpressionSpec} → r ≡ Ok x → ExpressionIs text words o low r
        → ExpressionIs text words o low (Ok x)
    expression_done e h = subst (λ z. ExpressionIs text words o low z) e h

    pub expression_failed : {f : Fault} → r ≡ Err f → ExpressionIs text words o low r → o ≡ failed (fault_means f)
    expression_failed e h = (subst (λ z. ExpressionIs text words o low z) e h).reads

  module _ {s : Subexpression} {r : Result ExpressionSpec Fault} where
    pub entered : {x : ExpressionSpec} → r ≡ Ok x → SubexpressionIs text words s r → Entered text words s x
    entered e h = (subst (λ z. SubexpressionIs text words s z) e h).means

    pub not_entered : {f : Fault} → r ≡ Err f → SubexpressionIs text words s r
        → read_expression false text s.depth s.limit (spans_from words s.from) ≡ failed (fault_means f)
    not_entered e h = (subst (λ z. SubexpressionIs text words s z) e h).means
