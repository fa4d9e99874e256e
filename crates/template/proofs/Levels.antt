-- What the open bodies stand for: the branches of a block that are gathered back to front, the open body behind them, and the bodies
-- around it. All is told by elements before a number, and is the same in a store that agrees there. Assumes nothing.
use Prim.Native.Nat.{ℕ, ◌+◌, ◌<◌, ◌≤◌}
use native.Mathlib.Omega.{arith}
use mathlib.Core.Path.{◌≡◌, ap, sym, subst, ◌∙◌}
use mathlib.Core.Bool.{true, false}
use mathlib.Core.List.{List, [], ◌∷◌}
use mathlib.Core.Option.{none, some}
use lib.ListN.{length, get_or}
use borrow.Author.Tests.{ne_eqb}
use Rattle.support.specs.Bytes.{Bytes}
use Rattle.support.specs.Position.{Place}
use Rattle.listing.specs.Tree.{Head}
use Rattle.listing.specs.Tree as T
use Rattle.listing.specs.Nesting.{nest_body}
use Rattle.template.specs.State.{Branch, closed, Owner, root, helper, in_else, wrapper, Level, level, owner_of}
use Rattle.template.specs.Store.{element_at, Helper, Wrapper, Chain}
use Rattle.template.specs.Visit.{OpenedIs}
use Rattle.template.specs.Turn.{empty_frame, ref_chain_head}
use Rattle.template.specs.declared.element.Element.{Element}
use Rattle.template.specs.declared.frame.Frame.{Frame}
use Rattle.template.proofs.Store.{Same, frame, helper_like, wrapper_like}
use Rattle.template.proofs.Nesting.{tree_of, any_done}

-- the link to the newest else-if node, which stands at w where there is one
abbrev pub link_to : List Branch → ℕ → ℕ
link_to [] w = 0
link_to (b ∷ bs) w = w

abbrev pub frame_at : List Frame → ℕ → Frame
frame_at lv i = get_or lv i empty_frame

-- the root is outermost, and only the root
abbrev pub Rooted : Owner → List Level → Type 0
Rooted root [] = Unit {0}
Rooted root (l ∷ ls) = ⊥
Rooted (helper raw p bs h) [] = ⊥
Rooted (helper raw p bs h) (l ∷ ls) = Unit {0}
Rooted (in_else p h b bs) [] = ⊥
Rooted (in_else p h b bs) (l ∷ ls) = Unit {0}
Rooted (wrapper p w) [] = ⊥
Rooted (wrapper p w) (l ∷ ls) = Unit {0}

-- the element has another body at most
pub record Kin (e e' : Element) : Type 0 where
  pub element : e'.element ≡ e.element
  pub name : e'.name ≡ e.name
  pub place : e'.place ≡ e.place
  pub next : e'.next ≡ e.next
  pub chain : e'.chain ≡ e.chain
  pub inverse : e'.inverse ≡ e.inverse

pub kin_same : (e e' : Element) → e' ≡ e → Kin e e'
kin_same e e' q =
    record {
      element = ap (λ (v : Element). v.element) q;
      name = ap (λ (v : Element). v.name) q;
      place = ap (λ (v : Element). v.place) q;
      next = ap (λ (v : Element). v.next) q;
      chain = ap (λ (v : Element). v.chain) q;
      inverse = ap (λ (v : Element). v.inverse) q;
    }

module _ (text : Bytes) (words : List ℕ) where
  -- the body of the element at w, which is complete, lies up to m
  abbrev pub Shut : List Element → ℕ → ℕ → T.Body → Type 0
  Shut st w m b = (y : ℕ) × (w < m) × Chain text words st 0 (element_at st w).template y (w + 1) m b

  -- The branches of the block at o, back to front: the newest is at w and has the head h, those before it are complete, last first.
  -- Each else-if node links to the one before it; the block itself is the first.
  abbrev pub Gathered : List Element → Place → ℕ → ℕ → Head → List Branch → Type 0
  Gathered st p o w h [] = (w ≡ o) × Helper text words (some p) h (element_at st w) × ((element_at st w).next ≡ 0)
  Gathered st p o w h (closed g b ∷ bs) =
      (v : ℕ) × Helper text words none h (element_at st w) × ((element_at st w).next ≡ 0) × ((element_at st w).chain ≡ true) × ((element_at st w).inverse ≡ link_to bs v)
      × Shut st v w (nest_body b) × Gathered st p o v g bs

  pub gathered_low : (st : List Element) (p : Place) (bs : List Branch) (o w : ℕ) (h : Head) → Gathered st p o w h bs → o ≤ w
  gathered_low st p [] o w h c = omega (arith, c.0)
  gathered_low st p (closed g b ∷ bs) o w h c = omega (arith, gathered_low st p bs o c.0 g c.6, c.5.1)

  -- the owner of the open body
  pub owner_is : (st : List Element) (p : Place) (bs : List Branch) (o w n : ℕ) (h : Head) → 0 < o → n ≡ link_to bs w → Gathered st p o w h bs → ref_chain_head o n ≡ w
  unfolding ref_chain_head
  owner_is st p [] o w n h a e c = rw (e, c.0)
  owner_is st p (closed g b ∷ bs) o w n h a e c = rw (e, ne_eqb w 0 (λ z. omega (arith, z, gathered_low st p (closed g b ∷ bs) o w h c)))

  -- What stands before the open body of a level, in the numbers before lo.
  abbrev pub Lead : List Element → Frame → ℕ → Owner → Type 0
  Lead st x lo root = (x.block ≡ 0) × (x.head ≡ 0) × (lo ≡ 1)
  Lead st x lo (helper raw p bs h) =
      (w : ℕ) × Gathered st p x.block w h bs × (x.head ≡ link_to bs w) × (x.inverted ≡ false) × (x.chain ≡ any_done bs) × (0 < x.block) × (lo ≡ w + 1)
  Lead st x lo (in_else p h b bs) =
      (w : ℕ) × Gathered st p x.block w h bs × (x.head ≡ link_to bs w) × (x.inverted ≡ true) × (x.chain ≡ any_done bs) × (0 < x.block) × Shut st w lo (nest_body b)
  Lead st x lo (wrapper p w) =
      Wrapper text words (some p) w (element_at st x.block) × ((element_at st x.block).next ≡ 0) × (x.head ≡ 0) × (x.inverted ≡ false) × (0 < x.block) × (lo ≡ x.block + 1)

  -- a level with its open body, in the numbers up to hi
  abbrev pub Inner : List Element → Frame → ℕ → Level → Type 0
  Inner st x hi (level o es) =
      (lo : ℕ) × Lead st x lo o × (lo ≤ hi) × Chain text words st 0 x.first x.last lo hi (tree_of es) × OpenedIs x.opened x.inverted o

  -- the levels around, innermost first, each before the block of the one inside it
  abbrev pub Outer : List Element → List Frame → ℕ → List Level → Type 0
  Outer st lv hi [] = Unit {0}
  Outer st lv hi (l ∷ ls) = Inner st (frame_at lv (length ls)) hi l × Rooted (owner_of l) ls × Outer st lv (frame_at lv (length ls)).block ls

  pub lead_low : (st : List Element) (x : Frame) (lo : ℕ) (o : Owner) → Lead st x lo o → (x.block < lo) × (1 ≤ lo)
  lead_low st x lo root c = (omega (arith, c.0, c.2), omega (arith, c.2))
  lead_low st x lo (helper raw p bs h) c =
      let g = gathered_low st p bs x.block c.0 h c.1 in
      (omega (arith, g, c.6), omega (arith, c.6))
  lead_low st x lo (in_else p h b bs) c =
      let g = gathered_low st p bs x.block c.0 h c.1 in
      (omega (arith, g, c.6.1), omega (arith, c.6.1))
  lead_low st x lo (wrapper p w) c = (omega (arith, c.5), omega (arith, c.5))

  pub inner_low : (st : List Element) (x : Frame) (hi : ℕ) (l : Level) → Inner st x hi l → x.block < hi
  inner_low st x hi (level o es) c = omega (arith, (lead_low st x c.0 o c.1).0, c.2)

  -- ---- the same in a store that agrees

  module _ (st st' : List Element) where
    pub frame_shut : (w m : ℕ) (b : T.Body) → Same st st' w m → Shut st w m b → Shut st' w m b
    frame_shut w m b s c =
        let q : element_at st' w ≡ element_at st w = s w (omega arith) c.1 in (
          c.0,
          c.1,
          subst (λ (v : Element). Chain text words st' 0 v.template c.0 (w + 1) m b) (sym q)
              (frame text words st st' b 0 (element_at st w).template c.0 (w + 1) m (λ i x y. s i (omega (arith, x)) y) c.2),
        )

    pub frame_gathered : (p : Place) (bs : List Branch) (o w : ℕ) (h : Head) → 0 < o → Same st st' 1 w → Kin (element_at st w) (element_at st' w) → Gathered st p o w h bs → Gathered st' p o w h bs
    frame_gathered p [] o w h a s k c = (c.0, helper_like text words (some p) (element_at st w) (element_at st' w) k.element k.name k.place h c.1, k.next ∙ c.2)
    frame_gathered p (closed g b ∷ bs) o w h a s k c =
        let v = c.0 in
        let low = gathered_low st p bs o v g c.6 in (
          v,
          helper_like text words none (element_at st w) (element_at st' w) k.element k.name k.place h c.1,
          k.next ∙ c.2,
          k.chain ∙ c.3,
          k.inverse ∙ c.4,
          frame_shut v w (nest_body b) (λ i x y. s i (omega (arith, x, low)) y) c.5,
          frame_gathered p bs o v g a (λ i x y. s i x (omega (arith, y, c.5.1))) (kin_same (element_at st v) (element_at st' v) (s v (omega (arith, low)) c.5.1)) c.6,
        )

    pub frame_lead : (x : Frame) (lo : ℕ) (o : Owner) → Same st st' 1 lo → Lead st x lo o → Lead st' x lo o
    frame_lead x lo root s c = c
    frame_lead x lo (helper raw p bs h) s c =
        let w = c.0 in
        let low = gathered_low st p bs x.block w h c.1 in (
          w,
          frame_gathered p bs x.block w h c.5 (λ i a b. s i a (omega (arith, b, c.6)))
              (kin_same (element_at st w) (element_at st' w) (s w (omega (arith, low, c.5)) (omega (arith, c.6)))) c.1,
          c.2,
          c.3,
          c.4,
          c.5,
          c.6,
        )
    frame_lead x lo (in_else p h b bs) s c =
        let w = c.0 in
        let low = gathered_low st p bs x.block w h c.1 in (
          w,
          frame_gathered p bs x.block w h c.5 (λ i a d. s i a (omega (arith, d, c.6.1)))
              (kin_same (element_at st w) (element_at st' w) (s w (omega (arith, low, c.5)) c.6.1)) c.1,
          c.2,
          c.3,
          c.4,
          c.5,
          frame_shut w lo (nest_body b) (λ i a d. s i (omega (arith, a, low, c.5)) d) c.6,
        )
    frame_lead x lo (wrapper p w) s c =
        let q : element_at st' x.block ≡ element_at st x.block = s x.block c.4 (omega (arith, c.5)) in (
          wrapper_like text words (some p) (element_at st x.block) (element_at st' x.block) (ap (λ (v : Element). v.element) q) (ap (λ (v : Element). v.name) q) (ap (λ (v : Element). v.place) q) w c.0,
          ap (λ (v : Element). v.next) q ∙ c.1,
          c.2,
          c.3,
          c.4,
          c.5,
        )

    pub frame_inner : (x : Frame) (hi : ℕ) (l : Level) → Same st st' 1 hi → Inner st x hi l → Inner st' x hi l
    frame_inner x hi (level o es) s c =
        let lo = c.0 in
        let low = (lead_low st x lo o c.1).1 in (
          lo,
          frame_lead x lo o (λ i a b. s i a (omega (arith, b, c.2))) c.1,
          c.2,
          frame text words st st' (tree_of es) 0 x.first x.last lo hi (λ i a b. s i (omega (arith, a, low)) b) c.3,
          c.4,
        )

    pub frame_outer : (lv lv' : List Frame) (ls : List Level) (hi : ℕ) → Same st st' 1 hi
        → ((i : ℕ) → i < length ls → frame_at lv' i ≡ frame_at lv i) → Outer st lv hi ls → Outer st' lv' hi ls
    frame_outer lv lv' [] hi s t c = tt
    frame_outer lv lv' (l ∷ ls) hi s t c =
        let x = frame_at lv (length ls) in
        subst (λ (v : Frame). Inner st' v hi l × Rooted (owner_of l) ls × Outer st' lv' v.block ls) (sym (t (length ls) (omega arith))) (
          frame_inner x hi l s c.0,
          c.1,
          frame_outer lv lv' ls x.block (λ i a b. s i a (omega (arith, b, inner_low st x hi l c.0))) (λ i a. t i (omega (arith, a))) c.2,
        )
