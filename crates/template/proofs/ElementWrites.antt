-- The bytes of an element, piece by piece as the writers store them. Assumes nothing.
use Prim.Native.Nat.{ℕ}
use mathlib.Core.Path.{◌≡◌, refl, sym, ap, subst, ◌∙◌}
use mathlib.Core.List.{List, [], ◌∷◌, ◌++◌, append-nil, append_assoc}
use mathlib.Core.Bool.{Bool, true, false}
use mathlib.Core.Option.{Option}
use lib.ListN.{length, take}
use native.Mathlib.Nat.{sub-zero}
use borrow.Author.Tests.{eq-eqb, ne_eqb}
use Rattle.std.specs.Prelude.{Some, None}
use Rattle.support.specs.Bytes.{Bytes, ascii, part}
use Rattle.support.specs.TextRules.{trailing_blanks, comment_compact_text, comment_text}
use Rattle.support.specs.Position.{Place}
use Rattle.support.specs.declared.position.Place as code
use Rattle.support.proofs.ByteLaws.{no_bytes}
use Rattle.listing.specs.Quoted.{digits, decimal, quoted}
use Rattle.listing.specs.Form.{Word, Field, spell, write_field, write_fields, write_head, nil, write_form, write_forms}
use Rattle.listing.specs.Tree.{decor_block, partial_block}
use Rattle.listing.specs.Tree as T
use Rattle.listing.specs.Listing.{bit, place_field, indent_field, call_forms, item_form}
use Rattle.listing.specs.Children.{decorator_children, helper_children}
use Rattle.listing.specs.Wrote.{Wrote}
use Rattle.listing.specs.declared.writer.Writer.{Writer}
use Rattle.listing.proofs.Writers.{wrote_none, wrote_then}
use Rattle.template.specs.Step.{any_blanks}
use Rattle.template.specs.Element.{place_means, link_of, raw_means, comment_means, call_at, indent_means, item_means, head_means, head_at, wrap_means, role_of, RawGood, Sound}
use Rattle.template.specs.Opening.{block_opening, wrap_opening, decorated_bytes, opening_by, opening}
use Rattle.template.specs.declared.element.RawString.{RawString}
use Rattle.template.specs.declared.element.Comment.{Comment}
use Rattle.template.specs.declared.element.HelperTemplate.{HelperTemplate}
use Rattle.template.specs.declared.element.DecoratorTemplate.{DecoratorTemplate}
use Rattle.template.specs.declared.element.TemplateElement.{TemplateElement}
use Rattle.template.specs.declared.element.TemplateElement.TheVariants as E
use Rattle.template.specs.declared.element.Element.{Element}

-- ---- fields

-- the indent, from its blanks
indented : (text : Bytes) (d : DecoratorTemplate) {n : ℕ} {s t : Bytes} → d.indent ≡ Some n → s ≡ part text 0 n → t ≡ trailing_blanks s
    → indent_means text [] d ≡ any_blanks t
indented text d {n} e f g = rw e (ap (λ i. any_blanks (trailing_blanks (take i text))) (sym (sub-zero n)) ∙ ap (λ u. any_blanks (trailing_blanks u)) (sym f) ∙ ap any_blanks (sym g))

module _ {before after : Writer} where
  pub place_none : (p : code.Place) → p.line ≡ 0 → Wrote (ascii "-") before after → Wrote (write_field (place_field (place_means p))) before after
  unfolding write_field
  place_none p e w = rw (eq-eqb p.line 0 e) w

  pub place_some : (p : code.Place) → (p.line ≡ 0 → ⊥) → Wrote (decimal p.line ++ (ascii ":" ++ decimal p.column)) before after
      → Wrote (write_field (place_field (place_means p))) before after
  unfolding write_field
  place_some p e w = rw (ne_eqb p.line 0 e) w

  pub bit_set : {b : Bool} → b ≡ true → Wrote (ascii " 1") before after → Wrote (ascii " " ++ write_field (bit b)) before after
  unfolding write_field decimal digits
  bit_set e w = rw e w

  pub bit_clear : {b : Bool} → b ≡ false → Wrote (ascii " 0") before after → Wrote (ascii " " ++ write_field (bit b)) before after
  unfolding write_field decimal digits
  bit_clear e w = rw e w

  module _ (text : Bytes) (c : Comment) where
    pub comment_compact_lem : {s t : Bytes} → c.compact ≡ true → s ≡ part text c.start c.end → t ≡ comment_compact_text s
        → Wrote (quoted t) before after → Wrote (quoted (comment_means text [] c)) before after
    comment_compact_lem e f g w = rw (e, ← f, ← g) w

    pub comment_plain : {s t : Bytes} → c.compact ≡ false → s ≡ part text c.start c.end → t ≡ comment_text s
        → Wrote (quoted t) before after → Wrote (quoted (comment_means text [] c)) before after
    comment_plain e f g w = rw (e, ← f, ← g) w

  module _ (text : Bytes) (d : DecoratorTemplate) where
    pub indent_off : d.indent ≡ None → Wrote (ascii " -") before after → Wrote (ascii " " ++ write_field (indent_field (indent_means text [] d))) before after
    unfolding write_field
    indent_off e w = rw e w

    module _ {n : ℕ} {s t : Bytes} (e : d.indent ≡ Some n) (f : s ≡ part text 0 n) (g : t ≡ trailing_blanks s) where
      pub indent_none : length t ≡ 0 → Wrote (ascii " -") before after → Wrote (ascii " " ++ write_field (indent_field (indent_means text [] d))) before after
      unfolding write_field
      indent_none h w = rw (indented text d e f g, no_bytes t h) w

      pub indent_some : (length t ≡ 0 → ⊥) → Wrote (ascii " " ++ quoted t) before after
          → Wrote (ascii " " ++ write_field (indent_field (indent_means text [] d))) before after
      unfolding write_field
      indent_some h w = rw (indented text d e f g) (full t h w)
        where
          full : (u : Bytes) → (length u ≡ 0 → ⊥) → Wrote (ascii " " ++ quoted u) before after → Wrote (ascii " " ++ write_field (indent_field (any_blanks u))) before after
          full [] k w = absurd (k refl)
          full (c ∷ u) k w = w

-- ---- the bytes of a form

-- `[word P` and what follows
pub head_one : (w : Word) (f : Field) (x : Bytes) → write_head w (f ∷ []) ++ x ≡ (ascii "[" ++ (spell w ++ ascii " ")) ++ (write_field f ++ x)
unfolding write_head write_fields
head_one w f x = simp (append-nil, append_assoc)

-- `[word P a b` and what follows
head_three : (w : Word) (f g h : Field) (x : Bytes)
    → write_head w (f ∷ g ∷ h ∷ []) ++ x ≡ (ascii "[" ++ (spell w ++ ascii " ")) ++ (write_field f ++ ((ascii " " ++ write_field g) ++ ((ascii " " ++ write_field h) ++ x)))
unfolding write_head write_fields
head_three w f g h x = simp (append-nil, append_assoc)

pub text_bytes : (f : Field) (t : Bytes)
    → write_form (item_form f (T.text t)) ≡ ascii "[text " ++ (write_field f ++ (ascii " " ++ (quoted t ++ ascii "]\n")))
unfolding item_form write_form write_head write_fields write_field
text_bytes f t = simp (append-nil, append_assoc)

pub comment_bytes : (f : Field) (t : Bytes)
    → write_form (item_form f (T.comment t)) ≡ ascii "[comment " ++ (write_field f ++ (ascii " " ++ (quoted t ++ ascii "]\n")))
unfolding item_form write_form write_head write_fields write_field
comment_bytes f t = simp (append-nil, append_assoc)

-- ---- an element told by its case

module _ (text : Bytes) (words : List ℕ) (e : Element) {x : TemplateElement} (told : e.element ≡ x) {before after : Writer} where
  -- it is written by its case
  told_written : Wrote (opening_by text words (role_of x) (place_means e.place) e.chain x) before after → Wrote (opening text words e) before after
  told_written w = subst (λ y. Wrote (opening_by text words (role_of y) (place_means e.place) e.chain y) before after) (sym told) w

regroup : (a b c n y x : Bytes) → a ++ (b ++ (c ++ (n ++ (y ++ x)))) ≡ (a ++ (b ++ (c ++ (n ++ y)))) ++ x
regroup a b c n y x = simp append_assoc

pub decorated_bytes_lem : (text : Bytes) (words : List ℕ) (w : Word) (p : Option Place) (d : DecoratorTemplate) (x : Bytes)
    → write_head w (place_field p ∷ bit d.indent_before_write ∷ indent_field (indent_means text words d) ∷ []) ++ (ascii "\n" ++ (write_forms (call_forms (call_at text words d.from d.limit) nil) ++ x))
    ≡ (ascii "[" ++ (spell w ++ ascii " ")) ++ (decorated_bytes text words p d ++ x)
unfolding decorated_bytes decorator_children
decorated_bytes_lem text words w p d x =
    let i = bit d.indent_before_write in
    let f = indent_field (indent_means text words d) in
    head_three w (place_field p) i f _
    ∙ ap ((ascii "[" ++ (spell w ++ ascii " ")) ++◌)
    (regroup (write_field (place_field p)) (ascii " " ++ write_field i) (ascii " " ++ write_field f) (ascii "\n") (write_forms (call_forms (call_at text words d.from d.limit) nil)) x)

pub nothing_written : (text : Bytes) (words : List ℕ) (e : Element) {before : Writer} → e.element ≡ E.Empty → Wrote (opening text words e) before before
unfolding opening_by
nothing_written text words e {before} t = told_written text words e t (wrote_none before)

-- the end behind a decorator's bytes
ended : (x y z : Bytes) {before middle after : Writer} → Wrote (x ++ y) before middle → Wrote z middle after → Wrote (x ++ (y ++ z)) before after
ended x y z {before} {after = after} f g = subst (λ w. Wrote w before after) (append_assoc x y z) (wrote_then f g)

module _ (text : Bytes) (words : List ℕ) (e : Element) {before after : Writer} where
  pub text_written : {o : RawString} → e.element ≡ E.RawString o
      → Wrote (write_form (item_form (place_field (place_means e.place)) (T.text (raw_means text words o)))) before after
      → Wrote (opening text words e) before after
  unfolding opening_by item_means
  text_written t w = told_written text words e t w

  pub comment_written : {c : Comment} → e.element ≡ E.Comment c
      → Wrote (write_form (item_form (place_field (place_means e.place)) (T.comment (comment_means text words c)))) before after
      → Wrote (opening text words e) before after
  unfolding opening_by item_means
  comment_written t w = told_written text words e t w

  pub block_written : {h : HelperTemplate} → e.element ≡ E.HelperBlock h
      → Wrote (block_opening (place_field (place_means e.place)) e.chain (head_at text words h)) before after
      → Wrote (opening text words e) before after
  unfolding opening_by head_means
  block_written t w = told_written text words e t w

  pub expr_written : {h : HelperTemplate} → e.element ≡ E.Expression h
      → Wrote (ascii "[expr " ++ (write_field (place_field (place_means e.place)) ++ (ascii "\n" ++ (write_forms (helper_children text words (link_of h.from h.limit)) ++ ascii "]\n")))) before after
      → Wrote (opening text words e) before after
  unfolding opening_by item_means item_form write_form helper_children
  expr_written t w = told_written text words e t (rw (head_one Word.expr (place_field (place_means e.place)) _) w)

  pub html_written : {h : HelperTemplate} → e.element ≡ E.HtmlExpression h
      → Wrote (ascii "[html " ++ (write_field (place_field (place_means e.place)) ++ (ascii "\n" ++ (write_forms (helper_children text words (link_of h.from h.limit)) ++ ascii "]\n")))) before after
      → Wrote (opening text words e) before after
  unfolding opening_by item_means item_form write_form helper_children
  html_written t w = told_written text words e t (rw (head_one Word.html (place_field (place_means e.place)) _) w)

  pub decor_written : {d : DecoratorTemplate} → e.element ≡ E.DecoratorExpression d
      → {middle : Writer} → Wrote (ascii "[decor " ++ decorated_bytes text words (place_means e.place) d) before middle → Wrote (ascii "]\n") middle after
      → Wrote (opening text words e) before after
  unfolding opening_by item_means item_form write_form
  decor_written {d} t w v = told_written text words e t (rw (decorated_bytes_lem text words Word.decor (place_means e.place) d (ascii "]\n")) (ended (ascii "[decor ") (decorated_bytes text words (place_means e.place) d) (ascii "]\n") w v))

  pub partial_written : {d : DecoratorTemplate} → e.element ≡ E.PartialExpression d
      → {middle : Writer} → Wrote (ascii "[partial " ++ decorated_bytes text words (place_means e.place) d) before middle → Wrote (ascii "]\n") middle after
      → Wrote (opening text words e) before after
  unfolding opening_by item_means item_form write_form
  partial_written {d} t w v = told_written text words e t (rw (decorated_bytes_lem text words Word.partial (place_means e.place) d (ascii "]\n")) (ended (ascii "[partial ") (decorated_bytes text words (place_means e.place) d) (ascii "]\n") w v))

  pub decor_block_written : {d : DecoratorTemplate} → e.element ≡ E.DecoratorBlock d
      → {middle : Writer} → Wrote (ascii "[decor-block " ++ decorated_bytes text words (place_means e.place) d) before middle → Wrote (ascii "[body\n") middle after
      → Wrote (opening text words e) before after
  unfolding opening_by wrap_means wrap_opening
  decor_block_written {d} t w v = told_written text words e t (rw (decorated_bytes_lem text words Word.decor_block (place_means e.place) d (ascii "[body\n")) (ended (ascii "[decor-block ") (decorated_bytes text words (place_means e.place) d) (ascii "[body\n") w v))

  pub partial_block_written : {d : DecoratorTemplate} → e.element ≡ E.PartialBlock d
      → {middle : Writer} → Wrote (ascii "[partial-block " ++ decorated_bytes text words (place_means e.place) d) before middle → Wrote (ascii "[body\n") middle after
      → Wrote (opening text words e) before after
  unfolding opening_by wrap_means wrap_opening
  partial_block_written {d} t w v = told_written text words e t (rw (decorated_bytes_lem text words Word.partial_block (place_means e.place) d (ascii "[body\n")) (ended (ascii "[partial-block ") (decorated_bytes text words (place_means e.place) d) (ascii "[body\n") w v))

pub block_bytes_lem : (text : Bytes) (words : List ℕ) (f : Field) (c : Bool) (h : HelperTemplate)
    → block_opening f c (head_at text words h)
    ≡ ascii "[block " ++ (write_field f ++ ((ascii " " ++ write_field (bit c)) ++ ((ascii " " ++ write_field (bit h.indent_before_write)) ++ (ascii "\n" ++ (write_forms (helper_children text words (link_of h.from h.limit)) ++ ascii "[body\n")))))
unfolding block_opening helper_children
block_bytes_lem text words f c h = head_three Word.block f (bit c) (bit h.indent_before_write) _

-- ---- other bytes, and a text

pub bytes_are : {x y : Bytes} {before after : Writer} → x ≡ y → Wrote y before after → Wrote x before after
bytes_are {before = before} {after = after} e w = subst (λ z. Wrote z before after) (sym e) w

-- a text is as the walk makes it
pub raw_sound : (text : Bytes) (words : List ℕ) (e : Element) {o : RawString} → e.element ≡ E.RawString o → Sound text words e.name e.element → RawGood text words o
raw_sound text words e t s = subst (λ x. Sound text words e.name x) t s
