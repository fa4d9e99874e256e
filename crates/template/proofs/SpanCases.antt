-- What the answer of read_tag says once its case is known. Assumes nothing.
use Prim.Native.Nat.{ℕ}
use mathlib.Core.Path.{◌≡◌, subst}
use mathlib.Core.List.{List}
use Rattle.std.specs.Prelude.{Result, Ok, Err}
use Rattle.support.specs.Bytes.{Bytes}
use Rattle.json_path.specs.Span.{Span}
use Rattle.expression.specs.declared.parameter.Fault.{Fault}
use Rattle.template.specs.TagRead.{TagReadIs}
use Rattle.template.specs.declared.tag.TagExpression.{TagExpression}

module _ {text : Bytes} {words : List ℕ} {s : Span} {r : Result TagExpression Fault} where
  pub tag_done : {x : TagExpression} → r ≡ Ok x → TagReadIs text words s r → TagReadIs text words s (Ok x)
  tag_done e h = subst (λ z. TagReadIs text words s z) e h

  pub tag_failed : {f : Fault} → r ≡ Err f → TagReadIs text words s r → TagReadIs text words s (Err f)
  tag_failed e h = subst (λ z. TagReadIs text words s z) e h
