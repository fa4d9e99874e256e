-- What the store holds: a chain of links in a region of the store is a body. Links lead to larger numbers only; a block's body lies
-- after it, its else after its body, and the rest after both.
use Rattle.std.specs.Prelude.{ℕ, ◌+◌, ◌<◌, ◌≤◌, ◌≡◌, List, Bool, true, false, get_or, length}
use Rattle.std.proofs.Math.Option.{Option}
use Rattle.support.specs.Bytes.{Bytes}
use Rattle.support.specs.Position.{Place}
use Rattle.listing.specs.Tree.{Item, Wrap, Head, Elem, item, block, wrap, Body, end, then, Else, no_else, else}
use Rattle.template.specs.Element.{place_means, item_means, head_means, wrap_means, Role, leaf, helper, wrapper, role_of, Sound, empty_element}
use Rattle.template.specs.declared.element.Element.{Element}

abbrev pub element_at : List Element → ℕ → Element
element_at st i = get_or st i empty_element

module _ (text : Bytes) (words : List ℕ) where
  -- e is an element of this role and place, as the walk makes it
  pub record Is (r : Role) (p : Option Place) (e : Element) : Type 0 where
    pub role : role_of e.element ≡ r
    pub place : place_means e.place ≡ p
    pub sound : Sound text words e.name e.element

  -- a leaf, a helper block, another block with what it denotes
  pub record Leaf (p : Option Place) (x : Item) (e : Element) : Type 0 where
    pub is : Is leaf p e
    pub means : item_means text words e.element ≡ x

  pub record Helper (p : Option Place) (h : Head) (e : Element) : Type 0 where
    pub is : Is helper p e
    pub means : head_means text words e.element ≡ h

  pub record Wrapper (p : Option Place) (w : Wrap) (e : Element) : Type 0 where
    pub is : Is wrapper p e
    pub means : wrap_means text words e.element ≡ w

  abbrev mutual
    -- the chain from the link l, which the number p comes before, to its last number z, within the numbers from lo up to hi, is a body
    pub Chain : List Element → ℕ → ℕ → ℕ → ℕ → ℕ → Body → Type 0
    Chain st p l z lo hi end = (l ≡ 0) × (z ≡ p)
    Chain st p l z lo hi (then e r) =
        (m : ℕ) × (lo ≤ l) × (l < m) × (m ≤ hi) × Node st l m e × Chain st l (element_at st l).next z m hi r

    -- the element at l, with what it holds up to m
    pub Node : List Element → ℕ → ℕ → Elem → Type 0
    Node st l m (item p x) = Leaf p x (element_at st l)
    Node st l m (block p c h b e) =
        (k : ℕ) × (l < k) × (k ≤ m) × Helper p h (element_at st l) × ((element_at st l).chain ≡ c)
        × ((y : ℕ) × Chain st 0 (element_at st l).template y (l + 1) k b)
        × ElseAt st (element_at st l).inverted (element_at st l).inverse k m e
    Node st l m (wrap p w b) =
        Wrapper p w (element_at st l) × ((element_at st l).inverted ≡ false) × ((y : ℕ) × Chain st 0 (element_at st l).template y (l + 1) m b)

    -- the else with this flag, from the link l
    pub ElseAt : List Element → Bool → ℕ → ℕ → ℕ → Else → Type 0
    ElseAt st h l lo hi no_else = h ≡ false
    ElseAt st h l lo hi (else b) = (y : ℕ) × (h ≡ true) × Chain st 0 l y lo hi b

  -- the store holds this body from `first` on
  pub record Holds (st : List Element) (first : ℕ) (b : Body) : Type 0 where
    pub last : ℕ
    pub len : ℕ
    pub few : len ≤ length st
    pub chain : Chain st 0 first last 1 len b

  -- the store holds some body
  pub record Stored (st : List Element) (first : ℕ) : Type 0 where
    pub body : Body
    pub holds : Holds st first body
