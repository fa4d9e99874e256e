-- The store of linked elements: a chain is one in another store that agrees in its region, goes on behind its last number once that
-- links to what follows, and has its last element changed by one store. Assumes nothing.
use Prim.Native.Nat.{ℕ, ◌+◌, ◌<◌, ◌≤◌}
use native.Mathlib.Omega.{arith}
use mathlib.Core.Path.{◌≡◌, refl, ap, sym, subst, ◌∙◌}
use mathlib.Core.Bool.{Bool}
use mathlib.Core.Logic.{⊎_elim, ◌⊎◌, inl, inr}
use mathlib.Core.List.{List}
use mathlib.Core.Option.{Option}
use lib.ListN.{length, set}
use lib.Seq.{get_or-set_same, get_or-set_other}
use Rattle.support.specs.Bytes.{Bytes}
use Rattle.support.specs.Position.{Place}
use Rattle.listing.specs.Tree.{Item, Wrap, Head, Elem, item, block, wrap, Body, end, then, Else, no_else, else}
use Rattle.template.specs.Element.{Role, empty_element, item_means, head_means, wrap_means, place_means, role_of}
use Rattle.template.specs.Store.{element_at, Is, Leaf, Helper, Wrapper, Chain, Node, ElseAt}
use Rattle.template.specs.Links.{followed_by}
use Rattle.template.specs.declared.element.Element.{Element}

-- the two stores agree from lo up to hi
abbrev pub Same : List Element → List Element → ℕ → ℕ → Type 0
Same st st' lo hi = (i : ℕ) → lo ≤ i → i < hi → element_at st' i ≡ element_at st i

-- and but for the number z
abbrev pub SameBut : List Element → List Element → ℕ → ℕ → ℕ → Type 0
SameBut st st' z lo hi = (i : ℕ) → lo ≤ i → i < hi → (i ≡ z → ⊥) → element_at st' i ≡ element_at st i

-- the two elements are alike but for what is after them
pub record Alike (e e' : Element) : Type 0 where
  pub element : e'.element ≡ e.element
  pub name : e'.name ≡ e.name
  pub place : e'.place ≡ e.place
  pub template : e'.template ≡ e.template
  pub inverse : e'.inverse ≡ e.inverse
  pub inverted : e'.inverted ≡ e.inverted
  pub chain : e'.chain ≡ e.chain

pub alike : (e e' : Element) → e' ≡ e → Alike e e'
alike e e' q =
    record {
      element = ap (λ (v : Element). v.element) q;
      name = ap (λ (v : Element). v.name) q;
      place = ap (λ (v : Element). v.place) q;
      template = ap (λ (v : Element). v.template) q;
      inverse = ap (λ (v : Element). v.inverse) q;
      inverted = ap (λ (v : Element). v.inverted) q;
      chain = ap (λ (v : Element). v.chain) q;
    }

pub alike_followed : (e e' : Element) (at : ℕ) → e' ≡ followed_by e at → Alike e e'
alike_followed e e' at q =
    record {
      element = ap (λ (v : Element). v.element) q;
      name = ap (λ (v : Element). v.name) q;
      place = ap (λ (v : Element). v.place) q;
      template = ap (λ (v : Element). v.template) q;
      inverse = ap (λ (v : Element). v.inverse) q;
      inverted = ap (λ (v : Element). v.inverted) q;
      chain = ap (λ (v : Element). v.chain) q;
    }

-- a place of a store that another place's store changed, or did not
pub at_same : (st : List Element) (i : ℕ) (e : Element) → i < length st → element_at (set st i e) i ≡ e
at_same st i e h = get_or-set_same st i e empty_element h

pub at_other : (st : List Element) (i j : ℕ) (e : Element) → (j ≡ i → ⊥) → element_at (set st i e) j ≡ element_at st j
at_other st i j e h = get_or-set_other st i j e empty_element h

-- a body with an element more at its end
unfoldable pub snoc : Body → Elem → Body
snoc end g = then g end
snoc (then e r) g = then e (snoc r g)

module _ (text : Bytes) (words : List ℕ) where
  -- ---- what an element denotes is told by what it holds, its name and its place

  pub is_like : (r : Role) (p : Option Place) (e e' : Element) → e'.element ≡ e.element → e'.name ≡ e.name → place_means e'.place ≡ p → Is text words r p e → Is text words r p e'
  is_like r p e e' a n b c = record { role = ap role_of a ∙ c.role; place = b; sound = rw (a, n) c.sound }

  module _ (p : Option Place) (e e' : Element) (a : e'.element ≡ e.element) (n : e'.name ≡ e.name) (b : e'.place ≡ e.place) where
    pub leaf_like : (x : Item) → Leaf text words p x e → Leaf text words p x e'
    leaf_like x c = record { is = is_like _ p e e' a n (ap place_means b ∙ c.is.place) c.is; means = ap (item_means text words) a ∙ c.means }

    pub helper_like : (h : Head) → Helper text words p h e → Helper text words p h e'
    helper_like h c = record { is = is_like _ p e e' a n (ap place_means b ∙ c.is.place) c.is; means = ap (head_means text words) a ∙ c.means }

    pub wrapper_like : (w : Wrap) → Wrapper text words p w e → Wrapper text words p w e'
    wrapper_like w c = record { is = is_like _ p e e' a n (ap place_means b ∙ c.is.place) c.is; means = ap (wrap_means text words) a ∙ c.means }

  -- ---- the same chain in another store

  module _ (st st' : List Element) where
    mutual
      pub frame : (f : Body) (p l z lo hi : ℕ) → Same st st' lo hi → Chain text words st p l z lo hi f → Chain text words st' p l z lo hi f
      frame end p l z lo hi s c = c
      frame (then e r) p l z lo hi s c =
          let m = c.0 in
          let q : element_at st' l ≡ element_at st l = s l c.1 (omega (arith, c.2, c.3)) in (
            m,
            c.1,
            c.2,
            c.3,
            move_node e l m (alike (element_at st l) (element_at st' l) q) (λ i x y. s i (omega (arith, c.1, x)) (omega (arith, c.3, y))) c.4,
            subst (λ (v : Element). Chain text words st' l v.next z m hi r) (sym q)
                (frame r l (element_at st l).next z m hi (λ i x y. s i (omega (arith, c.1, c.2, x)) y) c.5),
          )

      pub move_node : (e : Elem) (l m : ℕ) → Alike (element_at st l) (element_at st' l) → Same st st' (l + 1) m → Node text words st l m e → Node text words st' l m e
      move_node (item p x) l m a s c = leaf_like p (element_at st l) (element_at st' l) a.element a.name a.place x c
      move_node (block p d h b e) l m a s c =
          let k = c.0 in
          let y = c.5.0 in (
            k,
            c.1,
            c.2,
            helper_like p (element_at st l) (element_at st' l) a.element a.name a.place h c.3,
            a.chain ∙ c.4,
            (
              y,
              subst (λ (v : ℕ). Chain text words st' 0 v y (l + 1) k b) (sym a.template)
                  (frame b 0 (element_at st l).template y (l + 1) k (λ i x t. s i x (omega (arith, c.2, t))) c.5.1),
            ),
            subst (λ (v : ℕ). ElseAt text words st' (element_at st' l).inverted v k m e) (sym a.inverse)
                (subst (λ (v : Bool). ElseAt text words st' v (element_at st l).inverse k m e) (sym a.inverted)
                (frame_else e (element_at st l).inverted (element_at st l).inverse k m (λ i x t. s i (omega (arith, c.1, x)) t) c.6)),
          )
      move_node (wrap p w b) l m a s c =
          let y = c.2.0 in (
            wrapper_like p (element_at st l) (element_at st' l) a.element a.name a.place w c.0,
            a.inverted ∙ c.1,
            (
              y,
              subst (λ (v : ℕ). Chain text words st' 0 v y (l + 1) m b) (sym a.template) (frame b 0 (element_at st l).template y (l + 1) m s c.2.1),
            ),
          )

      pub frame_else : (e : Else) (h : Bool) (l lo hi : ℕ) → Same st st' lo hi → ElseAt text words st h l lo hi e → ElseAt text words st' h l lo hi e
      frame_else no_else h l lo hi s c = c
      frame_else (else f) h l lo hi s c = (c.0, c.1, frame f 0 l c.0 lo hi s c.2)

  -- a chain in a region is one in a wider region
  pub widen : (st : List Element) (f : Body) (p l z lo hi lo' hi' : ℕ) → lo' ≤ lo → hi ≤ hi' → Chain text words st p l z lo hi f → Chain text words st p l z lo' hi' f
  widen st end p l z lo hi lo' hi' a b c = c
  widen st (then e r) p l z lo hi lo' hi' a b c =
      (c.0, omega (arith, c.1), c.2, omega (arith, c.3), c.4, widen st r l (element_at st l).next z c.0 hi c.0 hi' (omega arith) b c.5)

  -- ---- where a chain ends: at the number before it, or in its region

  abbrev pub Ends : Body → ℕ → ℕ → ℕ → ℕ → Type 0
  Ends end p z lo hi = z ≡ p
  Ends (then e r) p z lo hi = (lo ≤ z) × (z < hi)

  ends_in : (r : Body) (p z lo lo' hi : ℕ) → lo' ≤ p → p < hi → lo' ≤ lo → Ends r p z lo hi → (lo' ≤ z) × (z < hi)
  ends_in end p z lo lo' hi a b d h = (omega (arith, h), omega (arith, h))
  ends_in (then e r) p z lo lo' hi a b d h = (omega (arith, h.0), h.1)

  pub ends : (st : List Element) (f : Body) (p l z lo hi : ℕ) → Chain text words st p l z lo hi f → Ends f p z lo hi
  ends st end p l z lo hi c = c.1
  ends st (then e r) p l z lo hi c =
      ends_in r l z c.0 lo hi c.1 (omega (arith, c.2, c.3)) (omega (arith, c.1, c.2)) (ends st r l (element_at st l).next z c.0 hi c.5)

  -- the last number is below any bound of the region that is positive
  pub ends_below : (st : List Element) (f : Body) (l z lo hi : ℕ) → 0 < hi → Chain text words st 0 l z lo hi f → z < hi
  ends_below st end l z lo hi h c = omega (arith, c.1)
  ends_below st (then e r) l z lo hi h c = (ends st (then e r) 0 l z lo hi c).1

  -- behind the first element: at it, or behind all that it holds
  after_node : (st : List Element) (r : Body) (l z m hi : ℕ) → Chain text words st l (element_at st l).next z m hi r → (z ≡ l) ⊎ (m ≤ z)
  after_node st end l z m hi c = inl c.1
  after_node st (then e r) l z m hi c = inr (ends st (then e r) l (element_at st l).next z m hi c).0

  -- ---- a chain goes on behind its last number

  -- the link to what is left of a chain, when the number `at` goes on behind it
  abbrev pub ahead : ℕ → Body → ℕ → ℕ
  ahead at end l = at
  ahead at (then e r) l = l

  -- one element at a number, with what it holds up to hi, which nothing follows yet
  pub record Solo (st : List Element) (at hi : ℕ) (g : Elem) : Type 0 where
    pub up : at < hi
    pub node : Node text words st at hi g
    pub last : (element_at st at).next ≡ 0

  module _ (st st' : List Element) (g : Elem) (z at hi : ℕ) (linked : element_at st' z ≡ followed_by (element_at st z) at) (solo : Solo st' at hi g) where
    touched : (r : Body) (l lo : ℕ) → l < lo → l < at → SameBut st st' z l at → Chain text words st l (element_at st l).next z lo at r
        → element_at st' l ≡ followed_by (element_at st l) (ahead at r (element_at st l).next)
    touched end l lo a b s c = subst (λ (i : ℕ). element_at st' i ≡ followed_by (element_at st i) at) c.1 linked
    touched (then e r) l lo a b s c = s l (omega arith) b (λ n. omega (arith, n, (ends st (then e r) l (element_at st l).next z lo at c).0))

    pub append : (r : Body) (p l lo : ℕ) → lo ≤ at → SameBut st st' z lo at → Chain text words st p l z lo at r → Chain text words st' p (ahead at r l) at lo hi (snoc r g)
    unfolding snoc
    append end p l lo a s c = (hi, a, solo.up, omega arith, solo.node, (solo.last, refl))
    append (then e r) p l lo a s c =
        let m = c.0 in
        let q : element_at st' l ≡ followed_by (element_at st l) (ahead at r (element_at st l).next) =
        touched r l m c.2 (omega (arith, c.2, c.3)) (λ i x t n. s i (omega (arith, c.1, x)) t n) c.5 in
        let far : (z ≡ l) ⊎ (m ≤ z) = after_node st r l z m at c.5 in (
          m,
          c.1,
          c.2,
          omega (arith, c.3, solo.up),
          move_node st st' e l m (alike_followed (element_at st l) (element_at st' l) (ahead at r (element_at st l).next) q)
              (λ i x t. s i (omega (arith, c.1, x)) (omega (arith, c.3, t)) (λ n. ⊎_elim (λ w. omega (arith, w, n, x)) (λ w. omega (arith, w, n, t)) far)) c.4,
          subst (λ (v : Element). Chain text words st' l v.next at m hi (snoc r g)) (sym q)
              (append r l (element_at st l).next m c.3 (λ i x t n. s i (omega (arith, c.1, c.2, x)) t n) c.5),
        )

  -- how the element at a number is joined to an open body with a first and a last link
  abbrev pub Linked : List Element → List Element → ℕ → ℕ → ℕ → ℕ → Type 0
  Linked st st' first first' z at =
      ((z ≡ 0) × (first' ≡ at) × (st' ≡ st))
      ⊎ ((z ≡ 0 → ⊥) × (first' ≡ first) × (st' ≡ set st z (followed_by (element_at st z) at)))

  module _ (st : List Element) (g : Elem) (first z lo at hi : ℕ) (room : hi ≤ length st) (pos : 1 ≤ lo) (low : lo ≤ at) (solo : Solo st at hi g) where
    join_some : (f : Body) → (lo ≤ z) × (z < at) → Chain text words st 0 first z lo at f
        → Chain text words (set st z (followed_by (element_at st z) at)) 0 (ahead at f first) at lo hi (snoc f g)
    join_some f h c =
        let st' : List Element = set st z (followed_by (element_at st z) at) in
        let q : element_at st' at ≡ element_at st at = at_other st z at _ (λ n. omega (arith, n, h.1)) in
        append st st' g z at hi (at_same st z _ (omega (arith, h.1, solo.up)))
        (record {
          up = solo.up;
          node = move_node st st' g at hi (alike (element_at st at) (element_at st' at) q) (λ i x y. at_other st z i _ (λ n. omega (arith, n, x, h.1))) solo.node;
          last = ap (λ (v : Element). v.next) q ∙ solo.last;
        })
        f 0 first lo low (λ i x y n. at_other st z i _ n) c

    pub join_open : (f : Body) (st' : List Element) (first' : ℕ) → Chain text words st 0 first z lo at f → Linked st st' first first' z at
        → Chain text words st' 0 first' at lo hi (snoc f g) × Same st st' 1 lo
    unfolding snoc
    join_open end st' first' c j =
        ⊎_elim (λ w. (rw (w.1, w.2) (hi, low, solo.up, omega arith, solo.node, (solo.last, refl)), λ i x y. rw w.2 refl)) (λ w. absurd (w.0 c.1)) j
    join_open (then e r) st' first' c j =
        let h = ends st (then e r) 0 first z lo at c in
        ⊎_elim (λ w. absurd (omega (arith, w.0, h.0)))
        (λ w. (rw (w.1, w.2) (join_some (then e r) h c), λ i x y. rw w.2 (at_other st z i _ (λ n. omega (arith, n, y, h.0))))) j

  -- ---- the last element is changed

  pub ends_snoc : (st : List Element) (r : Body) (g : Elem) (p l z lo hi : ℕ) → Chain text words st p l z lo hi (snoc r g) → (lo ≤ z) × (z < hi)
  unfolding snoc
  ends_snoc st end g p l z lo hi c = ends st (then g end) p l z lo hi c
  ends_snoc st (then e r) g p l z lo hi c = ends st (then e (snoc r g)) p l z lo hi c

  module _ (st st' : List Element) (e e' : Elem) (z hi : ℕ) (next : (element_at st' z).next ≡ (element_at st z).next)
      (turn : (m : ℕ) → Same st st' (z + 1) m → Node text words st z m e → Node text words st' z m e') where
    pub retouch : (r : Body) (p l lo : ℕ) → SameBut st st' z lo hi → Chain text words st p l z lo hi (snoc r e) → Chain text words st' p l z lo hi (snoc r e')
    unfolding snoc
    retouch end p l lo s c =
        let m = c.0 in
        let q : z ≡ l = c.5.1 in
        let n : (element_at st' l).next ≡ (element_at st l).next = subst (λ (i : ℕ). (element_at st' i).next ≡ (element_at st i).next) q next in (
          m,
          c.1,
          c.2,
          c.3,
          subst (λ (i : ℕ). Node text words st' i m e') q
              (turn m (λ i x t. s i (omega (arith, c.1, x, q)) (omega (arith, c.3, t)) (λ n. omega (arith, n, x))) (subst (λ (i : ℕ). Node text words st i m e) (sym q) c.4)),
          (n ∙ c.5.0, q),
        )
    retouch (then e₁ r) p l lo s c =
        let m = c.0 in
        let far : m ≤ z = (ends_snoc st r e l (element_at st l).next z m hi c.5).0 in
        let q : element_at st' l ≡ element_at st l = s l c.1 (omega (arith, c.2, c.3)) (λ n. omega (arith, n, c.2, far)) in (
          m,
          c.1,
          c.2,
          c.3,
          move_node st st' e₁ l m (alike (element_at st l) (element_at st' l) q) (λ i x t. s i (omega (arith, c.1, x)) (omega (arith, c.3, t)) (λ n. omega (arith, n, t, far))) c.4,
          subst (λ (v : Element). Chain text words st' l v.next z m hi (snoc r e')) (sym q)
              (retouch r l (element_at st l).next m (λ i x t n. s i (omega (arith, c.1, c.2, x)) t n) c.5),
        )
