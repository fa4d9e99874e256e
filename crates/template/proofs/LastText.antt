-- The last text's trims: trimming nothing changes nothing, and blanks are no longer there behind a full trim.
use mathlib.Core.Path.{◌≡◌, refl, sym, ap, ◌∙◌}
use mathlib.Core.List.{[], ◌∷◌}
use mathlib.Core.Bool.{Bool, true, false}
use Rattle.support.specs.Bytes.{Bytes, if}
use Rattle.support.specs.WhiteSpace.{trim_end}
use Rattle.support.specs.TextRules.{trim_end_blanks}
use Rattle.support.proofs.TrimLaws.{end_then_blanks}
use Rattle.listing.specs.Tree as T
use Rattle.listing.specs.Reading.{item, block, wrap}
use Rattle.template.specs.State.{Level, level, trim_item, trim_elem, trim_last}
use Rattle.template.specs.Element.{back_trim}
use Rattle.template.specs.Visiting.{trim_of}

trim_item_as : (f g : Bytes → Bytes) → ((t : Bytes) → f t ≡ g t) → (x : T.Item) → trim_item f x ≡ trim_item g x
unfolding trim_item
trim_item_as f g e (T.text t) = ap T.text (e t)
trim_item_as f g e (T.comment t) = refl
trim_item_as f g e (T.expr c a) = refl
trim_item_as f g e (T.html c a) = refl
trim_item_as f g e (T.decor i d c) = refl
trim_item_as f g e (T.partial i d c) = refl

trim_item_kept : (x : T.Item) → trim_item (λ t. t) x ≡ x
unfolding trim_item
trim_item_kept (T.text t) = refl
trim_item_kept (T.comment t) = refl
trim_item_kept (T.expr c a) = refl
trim_item_kept (T.html c a) = refl
trim_item_kept (T.decor i d c) = refl
trim_item_kept (T.partial i d c) = refl

trim_item_twice : (f g : Bytes → Bytes) (x : T.Item) → trim_item f (trim_item g x) ≡ trim_item (λ t. f (g t)) x
unfolding trim_item
trim_item_twice f g (T.text t) = refl
trim_item_twice f g (T.comment t) = refl
trim_item_twice f g (T.expr c a) = refl
trim_item_twice f g (T.html c a) = refl
trim_item_twice f g (T.decor i d c) = refl
trim_item_twice f g (T.partial i d c) = refl

pub trim_kept : (l : Level) → trim_last (λ t. t) l ≡ l
unfolding trim_last trim_elem
trim_kept (level o []) = refl
trim_kept (level o (item p x ∷ es)) = ap (λ y. level o (item p y ∷ es)) (trim_item_kept x)
trim_kept (level o (block p h b bs e ∷ es)) = refl
trim_kept (level o (wrap p w b ∷ es)) = refl

trim_both : (l : Level) → trim_last trim_end_blanks (trim_last trim_end l) ≡ trim_last trim_end l
unfolding trim_last trim_elem
trim_both (level o []) = refl
trim_both (level o (item p x ∷ es)) = ap (λ y. level o (item p y ∷ es)) (trim_item_twice trim_end_blanks trim_end x ∙ trim_item_as (λ t. trim_end_blanks (trim_end t)) trim_end end_then_blanks x)
trim_both (level o (block p h b bs e ∷ es)) = refl
trim_both (level o (wrap p w b ∷ es)) = refl

-- a left tilde's trim, then the standalone test's, is the one that trim_of tells
pub trims : (left cut : Bool) (l : Level) → (if cut (trim_last trim_end_blanks (if left (trim_last trim_end l) l)) (if left (trim_last trim_end l) l)) ≡ trim_last (back_trim (trim_of left cut)) l
trims true true l = trim_both l
trims true false l = refl
trims false true l = refl
trims false false l = sym (trim_kept l)
