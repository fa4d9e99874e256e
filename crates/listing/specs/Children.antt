-- The children that an expression gives, as it is read at a link.
use Rattle.std.specs.Prelude.{ℕ, List, false}
use Rattle.support.specs.Bytes.{Bytes}
use Rattle.json_path.specs.Span.{spans_from}
use Rattle.expression.specs.Expression.{Expression, BlockParam, no_block_param}
use Rattle.expression.specs.Read.{Read, done, failed}
use Rattle.expression.specs.Readers.{read_expression}
use Rattle.expression.specs.Answers.{call_or}
use Rattle.expression.specs.declared.parameter.Subexpression.{Subexpression}
use Rattle.listing.specs.Form.{Forms, nil}
use Rattle.listing.specs.Listing.{call_forms, block_param_forms}

-- the block parameters that were read, or none
abbrev pub block_or : Read Expression → BlockParam
block_or (done x r) = x.block_param
block_or (failed e) = no_block_param

-- what is read again at a link
abbrev pub expression_at : Bytes → List ℕ → Subexpression → Read Expression
expression_at text words s = read_expression false text s.depth s.limit (spans_from words s.from)

-- name, parameters, keys in byte order
unfoldable pub decorator_children : Bytes → List ℕ → Subexpression → Forms
decorator_children text words s = call_forms (call_or (expression_at text words s)) nil

-- the same, and the block parameters
unfoldable pub helper_children : Bytes → List ℕ → Subexpression → Forms
helper_children text words s = call_forms (call_or (expression_at text words s)) (block_param_forms (block_or (expression_at text words s)) nil)
