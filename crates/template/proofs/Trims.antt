-- An element with its end trimmed denotes the trimmed element: one trim of a text's end after another is the greater of the two, and
-- what is no text stays. Assumes nothing.
use Prim.Native.Nat.{ℕ, ◌+◌}
use native.Mathlib.Omega.{arith}
use mathlib.Core.Path.{◌≡◌, refl, ap, sym, subst, ◌∙◌}
use mathlib.Core.List.{List}
use mathlib.Core.Option.{Option, some}
use Rattle.support.specs.Bytes.{Bytes}
use Rattle.support.specs.Position.{Place}
use Rattle.support.proofs.TrimLaws.{end_twice, end_blanks_twice, blanks_then_end, end_then_blanks}
use Rattle.expression.specs.declared.parameter.Parameter.{Parameter}
use Rattle.listing.specs.Tree.{Item}
use Rattle.listing.specs.Tree as T
use Rattle.listing.specs.Reading.{Elem, item, block, wrap}
use Rattle.listing.specs.Nesting.{nest_elem}
use Rattle.template.specs.State.{trim_item, trim_elem}
use Rattle.template.specs.Element.{back_trim, raw_means, item_means, Role, leaf, helper, wrapper, role_of, Sound}
use Rattle.template.specs.Store.{element_at, Leaf, Node}
use Rattle.template.specs.Links.{set_element, more_of, trimmed, trim_end_of}
use Rattle.template.specs.declared.element.Back.{Back}
use Rattle.template.specs.declared.element.TemplateElement.{TemplateElement}
use Rattle.template.specs.declared.element.TemplateElement.TheVariants as E
use Rattle.template.specs.declared.element.Element.{Element}
use Rattle.template.proofs.Store.{Same, Alike, alike, move_node}

pub trim_more : (b c : Back) (t : Bytes) → back_trim (more_of b c) t ≡ back_trim c (back_trim b t)
trim_more b Back.Kept t = refl
trim_more Back.Kept Back.White t = refl
trim_more Back.Blanks Back.White t = sym (blanks_then_end t)
trim_more Back.White Back.White t = sym (end_twice t)
trim_more Back.Kept Back.Blanks t = refl
trim_more Back.Blanks Back.Blanks t = sym (end_blanks_twice t)
trim_more Back.White Back.Blanks t = sym (end_then_blanks t)

-- nothing is trimmed
pub trim_kept : (e : Element) → trim_end_of e Back.Kept ≡ e
trim_kept e = ap (set_element e) (go e.element)
  where
    go : (x : TemplateElement) → trimmed x Back.Kept ≡ x
    go E.Empty = refl
    go (E.RawString r) = refl
    go (E.Comment c) = refl
    go (E.Expression h) = refl
    go (E.HtmlExpression h) = refl
    go (E.HelperBlock h) = refl
    go (E.DecoratorExpression d) = refl
    go (E.PartialExpression d) = refl
    go (E.DecoratorBlock d) = refl
    go (E.PartialBlock d) = refl

-- what is no leaf stays
block_stays : (x : TemplateElement) (b : Back) → (role_of x ≡ leaf → ⊥) → trimmed x b ≡ x
block_stays E.Empty b e = refl
block_stays (E.RawString r) b e = absurd (e refl)
block_stays (E.Comment c) b e = refl
block_stays (E.Expression h) b e = refl
block_stays (E.HtmlExpression h) b e = refl
block_stays (E.HelperBlock h) b e = refl
block_stays (E.DecoratorExpression d) b e = refl
block_stays (E.PartialExpression d) b e = refl
block_stays (E.DecoratorBlock d) b e = refl
block_stays (E.PartialBlock d) b e = refl

helper_no_leaf : (r : Role) → r ≡ helper → r ≡ leaf → ⊥
helper_no_leaf r e f = let z : ◌≡◌ {A = ℕ} 0 1 = cc in omega (arith, z)

wrapper_no_leaf : (r : Role) → r ≡ wrapper → r ≡ leaf → ⊥
wrapper_no_leaf r e f = let z : ◌≡◌ {A = ℕ} 0 1 = cc in omega (arith, z)

role_stays : (x : TemplateElement) (b : Back) → role_of (trimmed x b) ≡ role_of x
role_stays E.Empty b = refl
role_stays (E.RawString r) b = refl
role_stays (E.Comment c) b = refl
role_stays (E.Expression h) b = refl
role_stays (E.HtmlExpression h) b = refl
role_stays (E.HelperBlock h) b = refl
role_stays (E.DecoratorExpression d) b = refl
role_stays (E.PartialExpression d) b = refl
role_stays (E.DecoratorBlock d) b = refl
role_stays (E.PartialBlock d) b = refl

module _ (text : Bytes) (words : List ℕ) where
  sound_stays : (n : Parameter) (x : TemplateElement) (b : Back) → Sound text words n x → Sound text words n (trimmed x b)
  sound_stays n E.Empty b s = s
  sound_stays n (E.RawString r) b s = record { order = s.order; inside = s.inside; starts = s.starts; ends = s.ends; escapes = s.escapes }
  sound_stays n (E.Comment c) b s = s
  sound_stays n (E.Expression h) b s = s
  sound_stays n (E.HtmlExpression h) b s = s
  sound_stays n (E.HelperBlock h) b s = s
  sound_stays n (E.DecoratorExpression d) b s = s
  sound_stays n (E.PartialExpression d) b s = s
  sound_stays n (E.DecoratorBlock d) b s = s
  sound_stays n (E.PartialBlock d) b s = s

  item_trimmed : (x : TemplateElement) (b : Back) → role_of x ≡ leaf → item_means text words (trimmed x b) ≡ trim_item (back_trim b) (item_means text words x)
  unfolding item_means trim_item raw_means
  item_trimmed E.Empty b e = absurd (let z : ◌≡◌ {A = ℕ} 0 1 = cc in omega (arith, z))
  item_trimmed (E.RawString r) b e = ap T.text (trim_more r.back b _)
  item_trimmed (E.Comment c) b e = refl
  item_trimmed (E.Expression h) b e = refl
  item_trimmed (E.HtmlExpression h) b e = refl
  item_trimmed (E.HelperBlock h) b e = absurd (let z : ◌≡◌ {A = ℕ} 0 1 = cc in omega (arith, z))
  item_trimmed (E.DecoratorExpression d) b e = refl
  item_trimmed (E.PartialExpression d) b e = refl
  item_trimmed (E.DecoratorBlock d) b e = absurd (let z : ◌≡◌ {A = ℕ} 0 1 = cc in omega (arith, z))
  item_trimmed (E.PartialBlock d) b e = absurd (let z : ◌≡◌ {A = ℕ} 0 1 = cc in omega (arith, z))

  leaf_trimmed : (p : Option Place) (x : Item) (e : Element) (b : Back) → Leaf text words p x e → Leaf text words p (trim_item (back_trim b) x) (trim_end_of e b)
  leaf_trimmed p x e b c =
      record {
        is = record { role = role_stays e.element b ∙ c.is.role; place = c.is.place; sound = sound_stays e.name e.element b c.is.sound };
        means = item_trimmed e.element b c.is.role ∙ ap (trim_item (back_trim b)) c.means;
      }

  -- the element at z is trimmed
  module _ (st st' : List Element) (z : ℕ) (b : Back) (cut : element_at st' z ≡ trim_end_of (element_at st z) b) where
    stays : trimmed (element_at st z).element b ≡ (element_at st z).element → Alike (element_at st z) (element_at st' z)
    stays q = alike (element_at st z) (element_at st' z) (cut ∙ ap (set_element (element_at st z)) q)

    pub trim_node : (e : Elem) (m : ℕ) → Same st st' (z + 1) m → Node text words st z m (nest_elem e) → Node text words st' z m (nest_elem (trim_elem (back_trim b) e))
    unfolding nest_elem trim_elem
    trim_node (item p x) m s c = subst (λ (v : Element). Leaf text words (some p) (trim_item (back_trim b) x) v) (sym cut) (leaf_trimmed (some p) x (element_at st z) b c)
    trim_node (block p h d bs f) m s c = move_node text words st st' (nest_elem (block p h d bs f)) z m (stays (block_stays (element_at st z).element b (helper_no_leaf _ c.3.is.role))) s c
    trim_node (wrap p w d) m s c = move_node text words st st' (nest_elem (wrap p w d)) z m (stays (block_stays (element_at st z).element b (wrapper_no_leaf _ c.0.is.role))) s c
