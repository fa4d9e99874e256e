-- What is written of a stored element before its body: all of an element that has none. What is written behind a body, and the blocks
-- that wait meanwhile.
use Rattle.std.specs.Prelude.{ℕ, zero, suc, List, [], ◌∷◌, ◌++◌, Bool, true, false, Some, None, get_or}
use Rattle.std.specs.Prelude as prelude
use Rattle.std.proofs.Math.Option.{Option}
use Rattle.support.specs.Bytes.{Bytes, ascii}
use Rattle.support.specs.Position.{Place}
use Rattle.listing.specs.Form.{Word, Field, write_field, write_head, nil, write_form, write_forms}
use Rattle.listing.specs.Tree.{Wrap, decor_block, partial_block, Head, head}
use Rattle.listing.specs.Listing.{bit, place_field, indent_field, call_forms, block_param_forms, item_form}
use Rattle.listing.specs.Children.{decorator_children}
use Rattle.template.specs.Element.{place_means, link_of, indent_means, item_means, head_means, wrap_means, Role, leaf, helper, wrapper, nothing, role_of}
use Rattle.template.specs.declared.element.DecoratorTemplate.{DecoratorTemplate}
use Rattle.template.specs.declared.element.TemplateElement.{TemplateElement}
use Rattle.template.specs.declared.element.Element.{Element}
use Rattle.template.specs.declared.list.Waiting.{Waiting}

-- a block up to the first line of its body
unfoldable pub block_opening : Field → Bool → Head → Bytes
block_opening p c (head x a i) = write_head Word.block (p ∷ bit c ∷ bit i ∷ []) ++ (ascii "\n" ++ (write_forms (call_forms x (block_param_forms a nil)) ++ ascii "[body\n"))

-- the same of a decorator block and of a partial block
unfoldable pub wrap_opening : Field → Wrap → Bytes
wrap_opening p (decor_block i d c) = write_head Word.decor_block (p ∷ bit i ∷ indent_field d ∷ []) ++ (ascii "\n" ++ (write_forms (call_forms c nil) ++ ascii "[body\n"))
wrap_opening p (partial_block i d c) = write_head Word.partial_block (p ∷ bit i ∷ indent_field d ∷ []) ++ (ascii "\n" ++ (write_forms (call_forms c nil) ++ ascii "[body\n"))

module _ (text : Bytes) (words : List ℕ) where
  -- a decorator or a partial between its word and its end or its body
  unfoldable pub decorated_bytes : Option Place → DecoratorTemplate → Bytes
  decorated_bytes p d =
      write_field (place_field p) ++ ((ascii " " ++ write_field (bit d.indent_before_write))
      ++ ((ascii " " ++ write_field (indent_field (indent_means text words d))) ++ (ascii "\n" ++ write_forms (decorator_children text words (link_of d.from d.limit)))))

  -- by its role, from its place and its c
  unfoldable pub opening_by : Role → Option Place → Bool → TemplateElement → Bytes
  opening_by leaf p c x = write_form (item_form (place_field p) (item_means text words x))
  opening_by helper p c x = block_opening (place_field p) c (head_means text words x)
  opening_by wrapper p c x = wrap_opening (place_field p) (wrap_means text words x)
  opening_by nothing p c x = []

  abbrev pub opening : Element → Bytes
  opening e = opening_by (role_of e.element) (place_means e.place) e.chain e.element

-- a block that waits while its body, or its else, is listed
abbrev pub waits : ℕ → Bool → Waiting
waits block inverse = record { block = block; inverse = inverse }

-- the end of a body: the first line of the else, if there is more of the block, or the block's end
abbrev pub body_end : Bool → Bytes
body_end true = ascii "]\n[else\n"
body_end false = ascii "]\n]\n"

-- the block on top of those that wait
abbrev pub top_of : List Waiting → ℕ → prelude.Option Waiting
top_of ws zero = None
top_of ws (suc depth) = Some (get_or ws depth (waits 0 false))
