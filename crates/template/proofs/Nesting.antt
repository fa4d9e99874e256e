-- The tree of a branch reading that is being taken: elements with the last first, and branches that are turned round. Assumes nothing.
use mathlib.Core.Path.{◌≡◌, refl, ap, ◌∙◌}
use mathlib.Core.Bool.{Bool, true, false}
use mathlib.Core.List.{List, [], ◌∷◌}
use mathlib.Core.Option.{none, some}
use Rattle.support.specs.Position.{Place}
use Rattle.listing.specs.Tree.{Head}
use Rattle.listing.specs.Tree as T
use Rattle.listing.specs.Reading.{Elem, Body, end, then, Branches, no_more, branch, Else}
use Rattle.listing.specs.Nesting.{has_more, nest_elem, nest_body, nest_branches, nest_else}
use Rattle.template.specs.State.{Branch, closed, to_body, body_of, to_block}
use Rattle.template.proofs.Store.{snoc}

-- ---- an element more at the end

unfoldable behind : Body → Elem → Body
behind end g = then g end
behind (then e b) g = then e (behind b g)

to_behind : (es : List Elem) (b : Body) (g : Elem) → to_body es (behind b g) ≡ behind (to_body es b) g
unfolding to_body behind
to_behind [] b g = refl
to_behind (e ∷ es) b g = to_behind es (then e b) g

nest_behind : (b : Body) (g : Elem) → nest_body (behind b g) ≡ snoc (nest_body b) (nest_elem g)
unfolding nest_body behind snoc
nest_behind end g = refl
nest_behind (then e b) g = ap (T.then (nest_elem e)) (nest_behind b g)

-- the tree of elements with the last first
abbrev pub tree_of : List Elem → T.Body
tree_of es = nest_body (body_of es)

pub tree_none : tree_of [] ≡ T.end
unfolding to_body nest_body
tree_none = refl

pub tree_add : (e : Elem) (es : List Elem) → tree_of (e ∷ es) ≡ snoc (tree_of es) (nest_elem e)
unfolding to_body behind
tree_add e es = ap nest_body (to_behind es end e) ∙ nest_behind (to_body es end) e

-- ---- a block

-- a block's tree from its complete branches, last first, before the branch h with its body and its else
unfoldable pub nested : Bool → Place → List Branch → Head → T.Body → T.Else → T.Elem
nested c p [] h b e = T.block (some p) c h b e
nested c p (closed g b₁ ∷ done) h b e = nested c p done g (nest_body b₁) (T.else (T.then (T.block none true h b e) T.end))

-- whether there are complete branches
abbrev pub any_done : List Branch → Bool
any_done [] = false
any_done (b ∷ done) = true

abbrev chain_of : List Branch → Branches → Bool
chain_of [] bs = has_more bs
chain_of (b ∷ done) bs = true

chain_more : (done : List Branch) (h : Head) (b : Body) (bs : Branches) → chain_of done (branch h b bs) ≡ true
chain_more [] h b bs = refl
chain_more (d ∷ done) h b bs = refl

chain_none : (done : List Branch) → chain_of done no_more ≡ any_done done
chain_none [] = refl
chain_none (b ∷ done) = refl

-- the branches in order, nested, are the branches last first, turned round
block_nested : (p : Place) (done : List Branch) (h : Head) (b : Body) (bs : Branches) (e : Else)
    → nest_elem (to_block p done h b bs e) ≡ nested (chain_of done bs) p done h (nest_body b) (nest_branches bs (nest_else e))
unfolding to_block nest_elem nested
block_nested p [] h b bs e = refl
block_nested p (closed g b₁ ∷ done) h b bs e =
    block_nested p done g b₁ (branch h b bs) e
    ∙ ap (λ (v : Bool). nested v p done g (nest_body b₁) (nest_branches (branch h b bs) (nest_else e))) (chain_more done h b bs)

pub close_nested : (p : Place) (done : List Branch) (h : Head) (b : Body) (e : Else)
    → nest_elem (to_block p done h b no_more e) ≡ nested (any_done done) p done h (nest_body b) (nest_else e)
unfolding nest_branches
close_nested p done h b e =
    block_nested p done h b no_more e ∙ ap (λ (v : Bool). nested v p done h (nest_body b) (nest_else e)) (chain_none done)
