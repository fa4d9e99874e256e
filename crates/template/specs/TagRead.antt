-- What reading a tag's expression answers: its tildes, the link at which it is read again, and the number behind it; or the fault.
use Rattle.std.specs.Prelude.{ℕ, ◌+◌, ◌≤◌, ◌≡◌, List, Bool, true, Result, Ok, Err}
use Rattle.support.specs.Bytes.{Bytes}
use Rattle.json_path.specs.Span.{Span, spans_from}
use Rattle.expression.specs.Expression.{Expression, as_name, name_of}
use Rattle.expression.specs.Read.{Read, done, failed, mapped}
use Rattle.expression.specs.Readers.{max_subexpressions, read_expression}
use Rattle.expression.specs.Answers.{fault_means, param_means}
use Rattle.expression.specs.declared.parameter.Fault.{Fault}
use Rattle.template.specs.Kind.{Tag, tagged, kind_of}
use Rattle.template.specs.TagExpression.{with_omit_pre_ws, read_tag}
use Rattle.template.specs.Element.{call_at, block_at}
use Rattle.template.specs.declared.tag.TagExpression.{TagExpression}

module _ (text : Bytes) (words : List ℕ) where
  -- the expression that a tag with this end has read
  abbrev pub tag_means : ℕ → TagExpression → Expression
  tag_means limit x = record {
    omit_pre_ws = x.omit_pre_ws;
    call_of = call_at text words x.from limit;
    block_param = block_at text words x.from limit;
    omit_pro_ws = x.omit_pro_ws;
  }

  -- x is what o reads, up to the limit; its name is its expression's; it ends behind number `low`
  pub record TagDone (o : Read Expression) (limit low : ℕ) (x : TagExpression) : Type 0 where
    pub reads : o ≡ done (tag_means limit x) (spans_from words x.next)
    pub name : as_name (param_means text words x.name) ≡ name_of (call_at text words x.from limit)
    pub onward : low ≤ x.next

  abbrev pub TagReadMeans : Read Expression → ℕ → ℕ → Result TagExpression Fault → Type 0
  TagReadMeans o limit low (Ok x) = TagDone o limit low x
  TagReadMeans o limit low (Err f) = o ≡ failed (fault_means f)

  -- r is the expression from number `from` on up to the limit, a left tilde before it or none
  pub record OwnReadIs (from limit : ℕ) (left : Bool) (r : Result TagExpression Fault) : Type 0 where
    pub means : TagReadMeans (mapped (with_omit_pre_ws left) (read_expression true text max_subexpressions limit (spans_from words from))) limit from r

  -- r is what the tag s reads, whatever tag it is
  pub record TagReadIs (s : Span) (r : Result TagExpression Fault) : Type 0 where
    pub means : (k : Tag) → kind_of s.tag ≡ tagged k → TagReadMeans (read_tag text k s (spans_from words (s.number + 1))) s.end (s.number + 1) r
