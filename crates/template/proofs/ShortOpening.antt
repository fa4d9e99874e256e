-- How long an element's opening is: at most 11,000,000,000 bytes, so that a listing stays far below the largest position. Places are
-- short since their numbers fit their type. Assumes nothing.
use Prim.Native.Nat.{ℕ, ◌+◌, ◌≤◌, ◌<◌}
use native.Mathlib.Omega.{arith}
use mathlib.Core.Path.{◌≡◌, refl, ap}
use mathlib.Core.List.{List, [], ◌∷◌, ◌++◌}
use mathlib.Core.Bool.{Bool, true, false}
use mathlib.Core.Option.{none, some}
use lib.Dec.{eqb}
use lib.ListN.{length, take, length-append}
use mir.Val.{Val}
use denote.Shadow.{shadow}
use denote.Struct.Declared.{row}
use Rattle.std.specs.Prelude.{Some, None}
use Rattle.std.specs.declared.option.Option as rattle
use Rattle.support.specs.Bytes.{Bytes, ascii, if}
use Rattle.support.specs.Position.{place_of}
use Rattle.support.specs.TextRules.{trailing_blanks}
use Rattle.support.specs.declared.position.Place as code
use Rattle.listing.specs.Quoted.{digits, decimal, quoted}
use Rattle.listing.specs.Form.{Word, spell, write_field, write_head, nil, write_form, write_forms}
use Rattle.listing.specs.Listing.{bit, place_field, indent_field, call_forms, item_form}
use Rattle.listing.specs.Children.{decorator_children, helper_children}
use Rattle.template.specs.Step.{any_blanks}
use Rattle.template.specs.Element.{Good, place_means, link_of, raw_means, comment_means, call_at, blanks_before, indent_means, item_means, head_means, wrap_means, role_of}
use Rattle.template.specs.Opening.{wrap_opening, decorated_bytes, opening_by, opening}
use Rattle.template.specs.declared.element.HelperTemplate.{HelperTemplate}
use Rattle.template.specs.declared.element.DecoratorTemplate.{DecoratorTemplate}
use Rattle.template.specs.declared.element.TemplateElement.{TemplateElement}
use Rattle.template.specs.declared.element.TemplateElement.TheVariants as E
use Rattle.template.specs.declared.element.Element.{Element}
use Rattle.template.specs.contracts.element.Element.{the_type}
use Rattle.template.proofs.ElementWrites.{head_one, text_bytes, comment_bytes, block_bytes_lem, decorated_bytes_lem}
use Rattle.template.proofs.ShortTexts.{comment_short, raw_short, blanks_short, quoted_short, decimal_short}
use Rattle.template.proofs.ShortExpressions.{decorator_short, helper_short}

-- ---- the numbers of a place fit their type

pub record SmallPlace (p : code.Place) : Type 0 where
  pub line : p.line < 0x100000000
  pub column : p.column < 0x100000000

pub place_small : (x : Element) (us : List Val) → shadow ((row the_type).own_val x us) → SmallPlace x.place
place_small x us s =
    let p = s.1.1.1.1.0.1.1 in
    record { line = p.0.1; column = p.1.0.1 }

-- ---- fields

place_short : (p : code.Place) → SmallPlace p → length (write_field (place_field (place_means p))) ≤ 9000000000
unfolding write_field
place_short p h = go (eqb p.line 0)
  where
    go : (t : Bool) → length (write_field (place_field (if t none (some (place_of p))))) ≤ 9000000000
    go true = omega arith
    go false = omega (
      arith,
      h.line,
      h.column,
      decimal_short p.line,
      decimal_short p.column,
      length-append (decimal p.line) (ascii ":" ++ decimal p.column),
    )

bit_short : (b : Bool) → length (ascii " " ++ write_field (bit b)) ≡ 2
unfolding write_field decimal digits
bit_short true = refl
bit_short false = refl

indent_short : (text : Bytes) (words : List ℕ) (d : DecoratorTemplate) → length text ≤ 16384
    → length (ascii " " ++ write_field (indent_field (indent_means text words d))) ≤ 33000
unfolding write_field
indent_short text words d h = by_end d.indent
  where
    go : (u : Bytes) → length u ≤ length text → length (ascii " " ++ write_field (indent_field (any_blanks u))) ≤ 33000
    go [] g = omega arith
    go (c ∷ u) g = omega (arith, quoted_short (c ∷ u))

    by_end : (e : rattle.Option ℕ) → length (ascii " " ++ write_field (indent_field (blanks_before text words e))) ≤ 33000
    by_end (Some n) = go (trailing_blanks (take n text)) (blanks_short text n)
    by_end None = omega arith

-- four pieces
pieces : (a b c d : Bytes) → length (a ++ (b ++ (c ++ d))) ≡ length a + length b + length c + length d
pieces a b c d = omega (arith, length-append a (b ++ (c ++ d)), length-append b (c ++ d), length-append c d)

-- ---- an element

module _ (text : Bytes) (words : List ℕ) (good : Good text words) where
  decorated_short : (p : code.Place) (d : DecoratorTemplate) → SmallPlace p → length (decorated_bytes text words (place_means p) d) ≤ 10000000000
  unfolding decorated_bytes
  decorated_short p d h =
      let f = write_field (place_field (place_means p)) in
      let i = ascii " " ++ write_field (bit d.indent_before_write) in
      let j = ascii " " ++ write_field (indent_field (indent_means text words d)) in
      let k = write_forms (decorator_children text words (link_of d.from d.limit)) in
      omega (
        arith,
        pieces f i j (ascii "\n" ++ k),
        place_short p h,
        bit_short d.indent_before_write,
        indent_short text words d good.short,
        decorator_short text good.short words (link_of d.from d.limit),
        good.few,
      )

  -- a decorator or a partial
  wrapped_short : (w : Word) (p : code.Place) (d : DecoratorTemplate) (x : Bytes) → SmallPlace p → length (ascii "[" ++ (spell w ++ ascii " ")) + length x ≤ 100
      → length (write_head w (place_field (place_means p) ∷ bit d.indent_before_write ∷ indent_field (indent_means text words d) ∷ []) ++ (ascii "\n" ++ (write_forms (call_forms (call_at text words d.from d.limit) nil) ++ x)))
      ≤ 10000000100
  wrapped_short w p d x h g =
      let e = ap length (decorated_bytes_lem text words w (place_means p) d x) in
      let b = decorated_bytes text words (place_means p) d in
      omega (arith, length-append (ascii "[" ++ (spell w ++ ascii " ")) (b ++ x), length-append b x, decorated_short p d h)

  -- an expression
  expression_short : (w : Word) (p : code.Place) (h : HelperTemplate) → SmallPlace p → length (ascii "[" ++ (spell w ++ ascii " ")) ≤ 50
      → length (write_head w (place_field (place_means p) ∷ []) ++ (ascii "\n" ++ (write_forms (helper_children text words (link_of h.from h.limit)) ++ ascii "]\n")))
      ≤ 10000000100
  expression_short w p h s g =
      let k = write_forms (helper_children text words (link_of h.from h.limit)) in
      let f = place_field (place_means p) in
      let e = ap length (head_one w f (ascii "\n" ++ (k ++ ascii "]\n"))) in
      omega (
        arith,
        pieces (ascii "[" ++ (spell w ++ ascii " ")) (write_field f) (ascii "\n") (k ++ ascii "]\n"),
        length-append k (ascii "]\n"),
        place_short p s,
        helper_short text good.short words (link_of h.from h.limit),
        good.few,
      )

  by_short : (x : TemplateElement) (p : code.Place) (c : Bool) → SmallPlace p → length (opening_by text words (role_of x) (place_means p) c x) ≤ 11000000000
  unfolding opening_by item_means head_means wrap_means item_form wrap_opening write_form helper_children
  by_short E.Empty p c h = omega arith
  by_short (E.RawString r) p c h =
      let f = place_field (place_means p) in
      let t = raw_means text words r in
      let e = ap length (text_bytes f t) in
      omega (
        arith,
        pieces (ascii "[text ") (write_field f) (ascii " ") (quoted t ++ ascii "]\n"),
        length-append (quoted t) (ascii "]\n"),
        place_short p h,
        quoted_short t,
        raw_short text words r good.short good.few,
      )
  by_short (E.Comment r) p c h =
      let f = place_field (place_means p) in
      let t = comment_means text words r in
      let e = ap length (comment_bytes f t) in
      omega (
        arith,
        pieces (ascii "[comment ") (write_field f) (ascii " ") (quoted t ++ ascii "]\n"),
        length-append (quoted t) (ascii "]\n"),
        place_short p h,
        quoted_short t,
        comment_short text words r,
        good.short,
      )
  by_short (E.Expression x) p c h = let e = expression_short Word.expr p x h (omega arith) in omega arith
  by_short (E.HtmlExpression x) p c h = let e = expression_short Word.html p x h (omega arith) in omega arith
  by_short (E.HelperBlock x) p c h =
      let f = place_field (place_means p) in
      let k = write_forms (helper_children text words (link_of x.from x.limit)) in
      let i = ascii " " ++ write_field (bit c) in
      let j = ascii " " ++ write_field (bit x.indent_before_write) in
      let e = ap length (block_bytes_lem text words f c x) in
      omega (
        arith,
        pieces (ascii "[block ") (write_field f) i (j ++ (ascii "\n" ++ (k ++ ascii "[body\n"))),
        pieces j (ascii "\n") k (ascii "[body\n"),
        bit_short c,
        bit_short x.indent_before_write,
        place_short p h,
        helper_short text good.short words (link_of x.from x.limit),
        good.few,
      )
  by_short (E.DecoratorExpression d) p c h = let e = wrapped_short Word.decor p d (ascii "]\n") h (omega arith) in omega arith
  by_short (E.PartialExpression d) p c h = let e = wrapped_short Word.partial p d (ascii "]\n") h (omega arith) in omega arith
  by_short (E.DecoratorBlock d) p c h = let e = wrapped_short Word.decor_block p d (ascii "[body\n") h (omega arith) in omega arith
  by_short (E.PartialBlock d) p c h = let e = wrapped_short Word.partial_block p d (ascii "[body\n") h (omega arith) in omega arith

  pub opening_short : (e : Element) → SmallPlace e.place → length (opening text words e) ≤ 11000000000
  opening_short e h = by_short e.element e.place e.chain h
