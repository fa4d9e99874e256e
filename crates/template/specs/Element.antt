-- What the elements of the store denote: texts, comments and expressions are made from offsets and links when they are listed.
use Rattle.std.specs.Prelude.{ℕ, ◌≤◌, ◌≡◌, List, [], Bool, true, false, Some, None, eqb, length, take}
use Rattle.std.specs.declared.option.Option as rattle
use Rattle.std.proofs.Math.Option.{Option, none, some}
use Rattle.support.specs.Bytes.{Bytes, if, part}
use Rattle.support.specs.Utf8.{valid_length, is_char_boundary}
use Rattle.support.specs.WhiteSpace.{trim_start, trim_end}
use Rattle.support.specs.TextRules.{trim_end_blanks, trailing_blanks, comment_compact_text, comment_text}
use Rattle.support.specs.Position.{Place, place_of}
use Rattle.support.specs.declared.position.Place as code
use Rattle.json_path.specs.Span.{Span, span_count, escapes_from}
use Rattle.expression.specs.Expression.{Call, BlockParam, as_name, name_of}
use Rattle.expression.specs.Readers.{max_subexpressions}
use Rattle.expression.specs.Answers.{call_or, param_means}
use Rattle.expression.specs.declared.parameter.Subexpression.{Subexpression}
use Rattle.expression.specs.declared.parameter.Parameter.{Parameter}
use Rattle.expression.specs.declared.parameter.Parameter.TheVariants as P
use Rattle.listing.specs.Tree.{Item, Wrap, Head, head}
use Rattle.listing.specs.Tree as T
use Rattle.listing.specs.Children.{expression_at, block_or}
use Rattle.template.specs.Checks.{max_text, max_spans, bad_span_of}
use Rattle.template.specs.Escapes.{escapes_to, bad_escapes, unescaped}
use Rattle.template.specs.Step.{trim_line, any_blanks}
use Rattle.template.specs.declared.element.Front.{Front}
use Rattle.template.specs.declared.element.Back.{Back}
use Rattle.template.specs.declared.element.RawString.{RawString}
use Rattle.template.specs.declared.element.Comment.{Comment}
use Rattle.template.specs.declared.element.HelperTemplate.{HelperTemplate}
use Rattle.template.specs.declared.element.DecoratorTemplate.{DecoratorTemplate}
use Rattle.template.specs.declared.element.TemplateElement.{TemplateElement}
use Rattle.template.specs.declared.element.TemplateElement.TheVariants as E
use Rattle.template.specs.declared.element.Element.{Element}

-- an input that passes 1 to 5
pub record Good (text : Bytes) (words : List ℕ) : Type 0 where
  pub short : length text ≤ max_text
  pub few : span_count words ≤ max_spans
  pub valid : valid_length text ≡ length text
  pub spans : bad_span_of text words ≡ none

abbrev pub front_trim : Front → Bytes → Bytes
front_trim Front.Kept t = t
front_trim Front.Line t = trim_line t
front_trim Front.White t = trim_start t

abbrev pub back_trim : Back → Bytes → Bytes
back_trim Back.Kept t = t
back_trim Back.Blanks t = trim_end_blanks t
back_trim Back.White t = trim_end t

-- the place, or none where the line is 0
abbrev pub place_means : code.Place → Option Place
place_means p = if (eqb p.line 0) none (some (place_of p))

-- the link to an element's expression
abbrev pub link_of : ℕ → ℕ → Subexpression
link_of from limit = record { from = from; limit = limit; depth = max_subexpressions }

module _ (text : Bytes) (words : List ℕ) where
  -- the escapes of a text
  abbrev pub raw_escapes : RawString → List Span
  raw_escapes r = escapes_to r.end (escapes_from words r.escapes)

  unfoldable pub raw_means : RawString → Bytes
  raw_means r = back_trim r.back (front_trim r.front (unescaped text r.start r.end (raw_escapes r)))

  abbrev pub comment_means : Comment → Bytes
  comment_means c = if c.compact (comment_compact_text (part text c.start c.end)) (comment_text (part text c.start c.end))

  -- the call and the block parameters that are read at a link
  abbrev pub call_at : ℕ → ℕ → Call
  call_at from limit = call_or (expression_at text words (link_of from limit))

  abbrev pub block_at : ℕ → ℕ → BlockParam
  block_at from limit = block_or (expression_at text words (link_of from limit))

  -- the blanks before an offset, if there is one
  abbrev pub blanks_before : rattle.Option ℕ → Option Bytes
  blanks_before (Some n) = any_blanks (trailing_blanks (take n text))
  blanks_before None = none

  -- the indent that is kept
  abbrev pub indent_means : DecoratorTemplate → Option Bytes
  indent_means d = blanks_before d.indent

  -- an element without a body; for others, and in the next two, an answer that is not used
  unfoldable pub item_means : TemplateElement → Item
  item_means E.Empty = T.text []
  item_means (E.RawString r) = T.text (raw_means r)
  item_means (E.Comment c) = T.comment (comment_means c)
  item_means (E.Expression h) = T.expr (call_at h.from h.limit) (block_at h.from h.limit)
  item_means (E.HtmlExpression h) = T.html (call_at h.from h.limit) (block_at h.from h.limit)
  item_means (E.HelperBlock h) = T.text []
  item_means (E.DecoratorExpression d) = T.decor d.indent_before_write (indent_means d) (call_at d.from d.limit)
  item_means (E.PartialExpression d) = T.partial d.indent_before_write (indent_means d) (call_at d.from d.limit)
  item_means (E.DecoratorBlock d) = T.text []
  item_means (E.PartialBlock d) = T.text []

  -- the head of a helper block's branch
  abbrev pub head_at : HelperTemplate → Head
  head_at h = head (call_at h.from h.limit) (block_at h.from h.limit) h.indent_before_write

  unfoldable pub head_means : TemplateElement → Head
  head_means E.Empty = head (call_at 0 0) (block_at 0 0) false
  head_means (E.RawString r) = head (call_at 0 0) (block_at 0 0) false
  head_means (E.Comment c) = head (call_at 0 0) (block_at 0 0) false
  head_means (E.Expression h) = head_at h
  head_means (E.HtmlExpression h) = head_at h
  head_means (E.HelperBlock h) = head_at h
  head_means (E.DecoratorExpression d) = head (call_at 0 0) (block_at 0 0) false
  head_means (E.PartialExpression d) = head (call_at 0 0) (block_at 0 0) false
  head_means (E.DecoratorBlock d) = head (call_at 0 0) (block_at 0 0) false
  head_means (E.PartialBlock d) = head (call_at 0 0) (block_at 0 0) false

  -- the head of a decorator block or a partial block
  abbrev pub decor_at : DecoratorTemplate → Wrap
  decor_at d = T.decor_block d.indent_before_write (indent_means d) (call_at d.from d.limit)

  abbrev pub partial_at : DecoratorTemplate → Wrap
  partial_at d = T.partial_block d.indent_before_write (indent_means d) (call_at d.from d.limit)

  unfoldable pub wrap_means : TemplateElement → Wrap
  wrap_means E.Empty = T.decor_block false none (call_at 0 0)
  wrap_means (E.RawString r) = T.decor_block false none (call_at 0 0)
  wrap_means (E.Comment c) = T.decor_block false none (call_at 0 0)
  wrap_means (E.Expression h) = T.decor_block false none (call_at 0 0)
  wrap_means (E.HtmlExpression h) = T.decor_block false none (call_at 0 0)
  wrap_means (E.HelperBlock h) = T.decor_block false none (call_at 0 0)
  wrap_means (E.DecoratorExpression d) = decor_at d
  wrap_means (E.PartialExpression d) = partial_at d
  wrap_means (E.DecoratorBlock d) = decor_at d
  wrap_means (E.PartialBlock d) = partial_at d

  -- a text that the walk makes: a part of the text between two characters, with good escapes
  pub record RawGood (r : RawString) : Type 0 where
    pub order : r.start ≤ r.end
    pub inside : r.end ≤ length text
    pub starts : is_char_boundary text r.start ≡ true
    pub ends : is_char_boundary text r.end ≡ true
    pub escapes : bad_escapes text r.start (raw_escapes r) ≡ false

-- what an element is: with no body, a helper block, another block
pub data Role : Type 0 where
  leaf helper wrapper nothing : Role

abbrev pub role_of : TemplateElement → Role
role_of E.Empty = nothing
role_of (E.RawString r) = leaf
role_of (E.Comment c) = leaf
role_of (E.Expression h) = leaf
role_of (E.HtmlExpression h) = leaf
role_of (E.HelperBlock h) = helper
role_of (E.DecoratorExpression d) = leaf
role_of (E.PartialExpression d) = leaf
role_of (E.DecoratorBlock d) = wrapper
role_of (E.PartialBlock d) = wrapper

-- a body follows
abbrev pub has_body : Role → Bool
has_body leaf = false
has_body helper = true
has_body wrapper = true
has_body nothing = false

module _ (text : Bytes) (words : List ℕ) where
  -- a text is as the walk makes it; the name that a block holds is its expression's
  abbrev pub Sound : Parameter → TemplateElement → Type 0
  Sound n E.Empty = Unit {0}
  Sound n (E.RawString r) = RawGood text words r
  Sound n (E.Comment c) = Unit {0}
  Sound n (E.Expression h) = Unit {0}
  Sound n (E.HtmlExpression h) = Unit {0}
  Sound n (E.HelperBlock h) = as_name (param_means text words n) ≡ name_of (call_at text words h.from h.limit)
  Sound n (E.DecoratorExpression d) = Unit {0}
  Sound n (E.PartialExpression d) = Unit {0}
  Sound n (E.DecoratorBlock d) = as_name (param_means text words n) ≡ name_of (call_at text words d.from d.limit)
  Sound n (E.PartialBlock d) = as_name (param_means text words n) ≡ name_of (call_at text words d.from d.limit)

-- an element that was just made: no links
abbrev pub named_element : TemplateElement → Parameter → code.Place → Element
named_element x n p = record { element = x; name = n; place = p; next = 0; template = 0; inverse = 0; inverted = false; chain = false }

-- a text and a comment have no name
abbrev pub no_name : Parameter
no_name = P.Name (record { start = 0; end = 0 })

abbrev pub new_element : TemplateElement → code.Place → Element
new_element x p = named_element x no_name p

abbrev pub empty_element : Element
empty_element = new_element E.Empty (record { line = 0; column = 0 })
