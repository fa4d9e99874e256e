-- An element's operations, as values: its links set, its end trimmed, its name.
use Rattle.std.specs.Prelude as std
use Rattle.std.specs.Prelude.{ℕ, ◌≡◌, List, Bool, true, false}
use Rattle.std.proofs.Math.Option.{Option, none}
use Rattle.support.specs.Bytes.{Bytes, if}
use Rattle.expression.specs.Expression.{as_name}
use Rattle.expression.specs.Answers.{param_means, as_name_means}
use Rattle.json_path.specs.declared.path.Name.{Name}
use Rattle.expression.specs.declared.parameter.Parameter.{Parameter}
use Rattle.template.specs.Element.{role_of, has_body}
use Rattle.template.specs.declared.element.Back.{Back}
use Rattle.template.specs.declared.element.RawString.{RawString}
use Rattle.template.specs.declared.element.TemplateElement.{TemplateElement}
use Rattle.template.specs.declared.element.TemplateElement.TheVariants as E
use Rattle.template.specs.declared.element.Element.{Element}

-- an else-if node: it has no place, and links to the node before it
abbrev pub inverse_node : Element → ℕ → Element
inverse_node e before =
    record { element = e.element; name = e.name; place = record { line = 0; column = 0 }; next = 0; template = 0; inverse = before; inverted = false; chain = true }

-- with `at` after it
abbrev pub followed_by : Element → ℕ → Element
followed_by e at =
    record { element = e.element; name = e.name; place = e.place; next = at; template = e.template; inverse = e.inverse; inverted = e.inverted; chain = e.chain }

-- with the body that begins at `at`
abbrev pub set_template : Element → ℕ → Element
set_template e at =
    record { element = e.element; name = e.name; place = e.place; next = e.next; template = at; inverse = e.inverse; inverted = e.inverted; chain = e.chain }

-- with the else that begins at `at`, if there is one
abbrev pub set_inverse : Element → ℕ → Bool → Bool → Element
set_inverse e at i c =
    record { element = e.element; name = e.name; place = e.place; next = e.next; template = e.template; inverse = at; inverted = i; chain = c }

-- with this in it
abbrev pub set_element : Element → TemplateElement → Element
set_element e x =
    record { element = x; name = e.name; place = e.place; next = e.next; template = e.template; inverse = e.inverse; inverted = e.inverted; chain = e.chain }

-- one trim of an end after another
abbrev pub more_of : Back → Back → Back
more_of b Back.Kept = b
more_of b Back.White = Back.White
more_of Back.Kept Back.Blanks = Back.Blanks
more_of Back.Blanks Back.Blanks = Back.Blanks
more_of Back.White Back.Blanks = Back.White

abbrev pub trimmed_raw : RawString → Back → RawString
trimmed_raw r b = record { start = r.start; end = r.end; escapes = r.escapes; front = r.front; back = more_of r.back b }

-- a text with its end trimmed; what is no text stays
abbrev pub trimmed : TemplateElement → Back → TemplateElement
trimmed E.Empty b = E.Empty
trimmed (E.RawString r) b = E.RawString (trimmed_raw r b)
trimmed (E.Comment c) b = E.Comment c
trimmed (E.Expression h) b = E.Expression h
trimmed (E.HtmlExpression h) b = E.HtmlExpression h
trimmed (E.HelperBlock h) b = E.HelperBlock h
trimmed (E.DecoratorExpression d) b = E.DecoratorExpression d
trimmed (E.PartialExpression d) b = E.PartialExpression d
trimmed (E.DecoratorBlock d) b = E.DecoratorBlock d
trimmed (E.PartialBlock d) b = E.PartialBlock d

abbrev pub trim_end_of : Element → Back → Element
trim_end_of e b = set_element e (trimmed e.element b)

-- the name of a block's opening tag
abbrev pub name_for : Bytes → List ℕ → Parameter → TemplateElement → Option Bytes
name_for text words n x = if (has_body (role_of x)) (as_name (param_means text words n)) none

abbrev pub block_name : Bytes → List ℕ → Element → Option Bytes
block_name text words e = name_for text words e.name e.element

-- r is that name
pub record BlockNameIs (e : Element) (r : std.Option Name) : Type 0 where
  pub means : (text : Bytes) (words : List ℕ) → as_name_means text r ≡ block_name text words e
