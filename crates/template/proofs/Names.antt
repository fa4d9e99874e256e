-- What the walk tells a visit of the innermost body is the state's: its kind, its opening tag's name, what is open. The name that the
-- block at hand holds is its expression's, and the block is the first of the branches that are gathered. Assumes nothing.
use Rattle.std.specs.Prelude as std
use Prim.Native.Nat.{ℕ}
use native.Mathlib.Omega.{arith}
use mathlib.Core.Path.{◌≡◌, refl, ap, subst, ◌∙◌}
use mathlib.Core.Bool.{false}
use mathlib.Core.List.{List, [], ◌∷◌}
use Rattle.support.specs.Bytes.{Bytes}
use Rattle.support.specs.Position.{Place}
use Rattle.json_path.specs.declared.path.Name.{Name}
use Rattle.expression.specs.declared.parameter.Parameter.{Parameter}
use Rattle.listing.specs.Tree.{Wrap, Head}
use Rattle.template.specs.State.{Branch, closed, Owner, root, helper, in_else, wrapper, Level, level, owner_of, State, prev_end, head_name, wrap_name, first_name, opened_name, sum_open}
use Rattle.template.specs.Element.{role_of, Sound, head_means, wrap_means}
use Rattle.template.specs.Element as role
use Rattle.template.specs.Store.{element_at}
use Rattle.template.specs.Links.{name_for, block_name, BlockNameIs}
use Rattle.template.specs.Visit.{MarksAre, HereIs, OpenedIs, Tells}
use Rattle.template.specs.declared.element.TemplateElement.{TemplateElement}
use Rattle.template.specs.declared.element.TemplateElement.TheVariants as E
use Rattle.template.specs.declared.element.Element.{Element}
use Rattle.template.specs.declared.frame.Frame.{Frame}
use Rattle.template.specs.declared.frame.Marks.{Marks}
use Rattle.template.specs.declared.visit.Here.{Here}
use Rattle.template.proofs.Levels.{Rooted, Gathered, Inner}
use Rattle.template.proofs.Turns.{Kept, Bottom}

leaf_other : role.leaf ≡ role.helper → ⊥
leaf_other e = let z : ◌≡◌ {A = ℕ} 0 1 = cc in omega (arith, z)

leaf_wrap : role.leaf ≡ role.wrapper → ⊥
leaf_wrap e = let z : ◌≡◌ {A = ℕ} 0 1 = cc in omega (arith, z)

root_alone : (o : Owner) → Rooted o [] → o ≡ root
root_alone root r = refl
root_alone (helper raw p bs h) r = absurd r
root_alone (in_else p h b bs) r = absurd r
root_alone (wrapper p w) r = absurd r

module _ (text : Bytes) (words : List ℕ) where
  helper_says : (n : Parameter) (x : TemplateElement) (h : Head) → role_of x ≡ role.helper → Sound text words n x → head_means text words x ≡ h → name_for text words n x ≡ head_name h
  unfolding head_means
  helper_says n E.Empty h e s m = absurd (let z : ◌≡◌ {A = ℕ} 0 1 = cc in omega (arith, z))
  helper_says n (E.RawString r) h e s m = absurd (leaf_other e)
  helper_says n (E.Comment c) h e s m = absurd (leaf_other e)
  helper_says n (E.Expression x) h e s m = absurd (leaf_other e)
  helper_says n (E.HtmlExpression x) h e s m = absurd (leaf_other e)
  helper_says n (E.HelperBlock x) h e s m = s ∙ ap head_name m
  helper_says n (E.DecoratorExpression d) h e s m = absurd (leaf_other e)
  helper_says n (E.PartialExpression d) h e s m = absurd (leaf_other e)
  helper_says n (E.DecoratorBlock d) h e s m = absurd (let z : ◌≡◌ {A = ℕ} 0 1 = cc in omega (arith, z))
  helper_says n (E.PartialBlock d) h e s m = absurd (let z : ◌≡◌ {A = ℕ} 0 1 = cc in omega (arith, z))

  wrapper_says : (n : Parameter) (x : TemplateElement) (w : Wrap) → role_of x ≡ role.wrapper → Sound text words n x → wrap_means text words x ≡ w → name_for text words n x ≡ wrap_name w
  unfolding wrap_means
  wrapper_says n E.Empty w e s m = absurd (let z : ◌≡◌ {A = ℕ} 0 1 = cc in omega (arith, z))
  wrapper_says n (E.RawString r) w e s m = absurd (leaf_wrap e)
  wrapper_says n (E.Comment c) w e s m = absurd (leaf_wrap e)
  wrapper_says n (E.Expression x) w e s m = absurd (leaf_wrap e)
  wrapper_says n (E.HtmlExpression x) w e s m = absurd (leaf_wrap e)
  wrapper_says n (E.HelperBlock x) w e s m = absurd (let z : ◌≡◌ {A = ℕ} 0 1 = cc in omega (arith, z))
  wrapper_says n (E.DecoratorExpression d) w e s m = absurd (leaf_wrap e)
  wrapper_says n (E.PartialExpression d) w e s m = absurd (leaf_wrap e)
  wrapper_says n (E.DecoratorBlock d) w e s m = s ∙ ap wrap_name m
  wrapper_says n (E.PartialBlock d) w e s m = s ∙ ap wrap_name m

  -- the first of the branches
  first_says : (st : List Element) (p : Place) (bs : List Branch) (o w : ℕ) (h : Head) → Gathered text words st p o w h bs → block_name text words (element_at st o) ≡ first_name bs h
  unfolding first_name
  first_says st p [] o w h c =
      subst (λ (i : ℕ). block_name text words (element_at st i) ≡ head_name h) c.0 (helper_says (element_at st w).name (element_at st w).element h c.1.is.role c.1.is.sound c.1.means)
  first_says st p (closed g b ∷ bs) o w h c = first_says st p bs o c.0 g c.6

  inner_says : (st : List Element) (x : Frame) (hi : ℕ) (l : Level) → Bottom st → Inner text words st x hi l
      → (block_name text words (element_at st x.block) ≡ opened_name (owner_of l)) × OpenedIs x.opened x.inverted (owner_of l)
  unfolding opened_name
  inner_says st x hi (level root es) b c = (ap (λ (i : ℕ). block_name text words (element_at st i)) c.1.0 ∙ ap (name_for text words (element_at st 0).name) b, c.4)
  inner_says st x hi (level (helper raw p bs h) es) b c = (first_says st p bs x.block c.1.0 h c.1.1, c.4)
  inner_says st x hi (level (in_else p h d bs) es) b c = (first_says st p bs x.block c.1.0 h c.1.1, c.4)
  inner_says st x hi (level (wrapper p w) es) b c = (wrapper_says (element_at st x.block).name (element_at st x.block).element w c.1.0.is.role c.1.0.is.sound c.1.0.means, c.4)

  pub tells : (n : ℕ) (st : List Element) (lv : List Frame) (x : Frame) (depth len count : ℕ) (s : State) (m : Marks) (h : Here) (r : std.Option Name)
      → Kept text words n st lv x depth len count false s.top s.outer → MarksAre m s → HereIs text h (prev_end s) → BlockNameIs (element_at st x.block) r
      → Tells text (record { marks = m; opened = x.opened; inverted = x.inverted; name = r; count = count; here = h }) s
  unfolding sum_open
  tells n st lv x depth len count s m h r k a b d =
      let e = inner_says st x len s.top k.bottom k.fits.inner in
      record {
        marks = a;
        opened = e.1;
        name = d.means text words ∙ e.0;
        count = k.fits.counted;
        here = b;
        outermost = λ q. root_alone (owner_of s.top) (subst (λ (ls : List Level). Rooted (owner_of s.top) ls) q k.fits.rooted);
      }
