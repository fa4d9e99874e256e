-- The store, the frames and the counts fit the open bodies of a state: while the innermost body takes elements, and while a block
-- closes, which is in the state already. Assumes nothing.
use Prim.Native.Nat.{ℕ, suc, ◌+◌, ◌<◌, ◌≤◌}
use native.Mathlib.Omega.{arith}
use mathlib.Core.Path.{◌≡◌, ap, ◌∙◌}
use mathlib.Core.Bool.{Bool, true, false}
use mathlib.Core.Logic.{◌⊎◌, inl, inr}
use mathlib.Core.List.{List, [], ◌∷◌}
use mathlib.Core.Option.{some}
use lib.ListN.{length}
use Rattle.support.specs.Bytes.{Bytes}
use Rattle.support.specs.Position.{Place}
use Rattle.listing.specs.Tree.{Wrap, Head}
use Rattle.listing.specs.Tree as T
use Rattle.listing.specs.Reading.{Elem}
use Rattle.listing.specs.Nesting.{nest_elem}
use Rattle.template.specs.State.{Branch, Owner, root, helper, in_else, wrapper, Level, level, owner_of, open_of, sum_open}
use Rattle.template.specs.Store.{element_at, Wrapper, ElseAt}
use Rattle.template.specs.Turn.{ref_chain_head}
use Rattle.template.specs.declared.element.Element.{Element}
use Rattle.template.specs.declared.frame.Frame.{Frame}
use Rattle.template.proofs.Store.{Same, frame_else, wrapper_like, ends_below}
use Rattle.template.proofs.Nesting.{tree_of, nested}
use Rattle.template.proofs.Levels.{link_to, frame_at, Rooted, kin_same, Shut, Gathered, gathered_low, owner_is, Inner, Outer, inner_low, frame_shut, frame_gathered, frame_inner, frame_outer}

module _ (text : Bytes) (words : List ℕ) where
  -- ---- a block that closes

  -- A helper block whose last body is complete: the branches before the one at `node`, that one's body, and what has been turned so far,
  -- which is its else. In the end it is the element e; n of its nodes are left.
  pub record SealedHelper (st : List Element) (x : Frame) (hi n : ℕ) (e : T.Elem) : Type 0 where
    pub place : Place
    pub done : List Branch
    pub head : Head
    pub body : T.Body
    pub turned : T.Else
    pub node : ℕ
    pub mid : ℕ
    pub gathered : Gathered text words st place x.block node head done
    pub link : x.head ≡ link_to done node
    pub here : 0 < x.block
    pub shut : Shut text words st node mid body
    pub up : mid ≤ hi
    pub rest : ElseAt text words st x.inverted x.first mid hi turned
    pub whole : nested x.chain place done head body turned ≡ e
    pub nodes : n ≡ suc (length done)

  -- a decorator block or a partial block with its body
  pub record SealedWrapper (st : List Element) (x : Frame) (hi n : ℕ) (e : T.Elem) : Type 0 where
    pub place : Place
    pub wrap : Wrap
    pub body : T.Body
    pub is : Wrapper text words (some place) wrap (element_at st x.block)
    pub last : (element_at st x.block).next ≡ 0
    pub link : x.head ≡ 0
    pub plain : x.inverted ≡ false
    pub here : 0 < x.block
    pub shut : Shut text words st x.block hi body
    pub whole : T.wrap (some place) wrap body ≡ e
    pub nodes : n ≡ 1

  abbrev pub Sealed : List Element → Frame → ℕ → ℕ → T.Elem → Type 0
  Sealed st x hi n e = SealedHelper st x hi n e ⊎ SealedWrapper st x hi n e

  -- the innermost body while a block closes: the block is its last element already
  pub record Closing (st : List Element) (lv : List Frame) (x : Frame) (depth hi count : ℕ) (l : Level) (ls : List Level) : Type 0 where
    pub owner : Owner
    pub elems : List Elem
    pub shown : Elem
    pub left : ℕ
    pub top : l ≡ level owner (shown ∷ elems)
    pub sealed : Sealed st x hi left (nest_elem shown)
    pub counted : count ≡ left + sum_open (level owner elems ∷ ls)
    pub low : x.last < hi
    pub outer : Outer text words st lv x.block (level owner elems ∷ ls)
    pub deep : depth ≡ suc (length ls)

  -- the innermost body while it takes elements
  pub record Filling (st : List Element) (lv : List Frame) (x : Frame) (depth hi count : ℕ) (l : Level) (ls : List Level) : Type 0 where
    pub inner : Inner text words st x hi l
    pub counted : count ≡ open_of l + sum_open ls
    pub rooted : Rooted (owner_of l) ls
    pub outer : Outer text words st lv x.block ls
    pub deep : depth ≡ length ls

  abbrev pub Fits : List Element → List Frame → Frame → ℕ → ℕ → ℕ → Bool → Level → List Level → Type 0
  Fits st lv x depth hi count true l ls = Closing st lv x depth hi count l ls
  Fits st lv x depth hi count false l ls = Filling st lv x depth hi count l ls

  -- ---- the same in a store that agrees

  sealed_low : (st : List Element) (x : Frame) (hi n : ℕ) (e : T.Elem) → Sealed st x hi n e → (x.block < hi) × (0 < x.block) × (0 < n)
  sealed_low st x hi n e (inl k) =
      (omega (arith, gathered_low text words st k.place k.done x.block k.node k.head k.gathered, k.shut.1, k.up), k.here, omega (arith, k.nodes))
  sealed_low st x hi n e (inr k) = (k.shut.1, k.here, omega (arith, k.nodes))

  pub fits_low : (st : List Element) (lv : List Frame) (x : Frame) (depth hi count : ℕ) (closing : Bool) (l : Level) (ls : List Level) → Fits st lv x depth hi count closing l ls → x.block < hi
  fits_low st lv x depth hi count true l ls c = (sealed_low st x hi c.left (nest_elem c.shown) c.sealed).0
  fits_low st lv x depth hi count false l ls c = inner_low text words st x hi l c.inner

  module _ (st st' : List Element) where
    frame_sealed : (x : Frame) (hi n : ℕ) (e : T.Elem) → Same st st' 1 hi → Sealed st x hi n e → Sealed st' x hi n e
    frame_sealed x hi n e s (inl k) =
        let low = gathered_low text words st k.place k.done x.block k.node k.head k.gathered in
        inl (record {
          place = k.place;
          done = k.done;
          head = k.head;
          body = k.body;
          turned = k.turned;
          node = k.node;
          mid = k.mid;
          gathered = frame_gathered text words st st' k.place k.done x.block k.node k.head k.here (λ i a d. s i a (omega (arith, d, k.shut.1, k.up)))
              (kin_same _ _ (s k.node (omega (arith, low, k.here)) (omega (arith, k.shut.1, k.up)))) k.gathered;
          link = k.link;
          here = k.here;
          shut = frame_shut text words st st' k.node k.mid k.body (λ i a d. s i (omega (arith, a, low, k.here)) (omega (arith, d, k.up))) k.shut;
          up = k.up;
          rest = frame_else text words st st' k.turned x.inverted x.first k.mid hi (λ i a d. s i (omega (arith, a, k.shut.1)) d) k.rest;
          whole = k.whole;
          nodes = k.nodes;
        })
    frame_sealed x hi n e s (inr k) =
        let q : element_at st' x.block ≡ element_at st x.block = s x.block k.here k.shut.1 in
        inr (record {
          place = k.place;
          wrap = k.wrap;
          body = k.body;
          is = wrapper_like text words (some k.place) (element_at st x.block) (element_at st' x.block) (ap (λ (v : Element). v.element) q) (ap (λ (v : Element). v.name) q) (ap (λ (v : Element). v.place) q) k.wrap k.is;
          last = ap (λ (v : Element). v.next) q ∙ k.last;
          link = k.link;
          plain = k.plain;
          here = k.here;
          shut = frame_shut text words st st' x.block hi k.body (λ i a d. s i (omega (arith, a, k.here)) d) k.shut;
          whole = k.whole;
          nodes = k.nodes;
        })

    pub frame_fits : (lv lv' : List Frame) (x : Frame) (depth hi count : ℕ) (closing : Bool) (l : Level) (ls : List Level) → Same st st' 1 hi
        → ((i : ℕ) → i < depth → frame_at lv' i ≡ frame_at lv i) → Fits st lv x depth hi count closing l ls → Fits st' lv' x depth hi count closing l ls
    frame_fits lv lv' x depth hi count true l ls s t c =
        record {
          owner = c.owner;
          elems = c.elems;
          shown = c.shown;
          left = c.left;
          top = c.top;
          sealed = frame_sealed x hi c.left (nest_elem c.shown) s c.sealed;
          counted = c.counted;
          low = c.low;
          outer = frame_outer text words st st' lv lv' (level c.owner c.elems ∷ ls) x.block
              (λ i a b. s i a (omega (arith, b, fits_low st lv x depth hi count true l ls c))) (λ i a. t i (omega (arith, a, c.deep))) c.outer;
          deep = c.deep;
        }
    frame_fits lv lv' x depth hi count false l ls s t c =
        record {
          inner = frame_inner text words st st' x hi l s c.inner;
          counted = c.counted;
          rooted = c.rooted;
          outer = frame_outer text words st st' lv lv' ls x.block
              (λ i a b. s i a (omega (arith, b, fits_low st lv x depth hi count false l ls c))) (λ i a. t i (omega (arith, a, c.deep))) c.outer;
          deep = c.deep;
        }

  -- ---- what is in use

  -- the owner of the open body
  pub owner_in : (st : List Element) (lv : List Frame) (x : Frame) (depth hi count : ℕ) (closing : Bool) (l : Level) (ls : List Level) → 1 ≤ hi
      → Fits st lv x depth hi count closing l ls → ref_chain_head x.block x.head < hi
  unfolding ref_chain_head
  owner_in st lv x depth hi count true l ls a c = go c.sealed
    where
      go : Sealed st x hi c.left (nest_elem c.shown) → ref_chain_head x.block x.head < hi
      go (inl k) = omega (arith, owner_is text words st k.place k.done x.block k.node x.head k.head k.here k.link k.gathered, k.shut.1, k.up)
      go (inr k) = rw k.link k.shut.1
  owner_in st lv x depth hi count false (level root es) ls a c = let d = c.inner.1 in rw d.1 (omega (arith, d.0))
  owner_in st lv x depth hi count false (level (helper raw p bs h) es) ls a c =
      let d = c.inner.1 in
      omega (arith, owner_is text words st p bs x.block d.0 x.head h d.5 d.2 d.1, d.6, c.inner.2)
  owner_in st lv x depth hi count false (level (in_else p h b bs) es) ls a c =
      let d = c.inner.1 in
      omega (arith, owner_is text words st p bs x.block d.0 x.head h d.5 d.2 d.1, d.6.1, c.inner.2)
  owner_in st lv x depth hi count false (level (wrapper p w) es) ls a c = let d = c.inner.1 in rw d.2 (omega (arith, d.5, c.inner.2))

  -- the last element of the open body
  pub fits_last : (st : List Element) (lv : List Frame) (x : Frame) (depth hi count : ℕ) (closing : Bool) (l : Level) (ls : List Level) → 1 ≤ hi
      → Fits st lv x depth hi count closing l ls → x.last < hi
  fits_last st lv x depth hi count true l ls h c = c.low
  fits_last st lv x depth hi count false (level o es) ls h c = ends_below text words st (tree_of es) x.first x.last c.inner.0 hi h c.inner.3

  -- there are as many open blocks as levels around
  outer_deep : (st : List Element) (lv : List Frame) (ls : List Level) (hi : ℕ) → Outer text words st lv hi ls → length ls ≤ sum_open ls + 1
  unfolding sum_open
  outer_deep st lv [] hi c = omega arith
  outer_deep st lv (level root es ∷ []) hi c = omega arith
  outer_deep st lv (level root es ∷ (l ∷ ls)) hi c = absurd c.1
  outer_deep st lv (level (helper raw p bs h) es ∷ ls) hi c = omega (arith, outer_deep st lv ls (frame_at lv (length ls)).block c.2)
  outer_deep st lv (level (in_else p h b bs) es ∷ ls) hi c = omega (arith, outer_deep st lv ls (frame_at lv (length ls)).block c.2)
  outer_deep st lv (level (wrapper p w) es ∷ ls) hi c = omega (arith, outer_deep st lv ls (frame_at lv (length ls)).block c.2)

  pub deep : (st : List Element) (lv : List Frame) (x : Frame) (depth hi count : ℕ) (closing : Bool) (l : Level) (ls : List Level) → Fits st lv x depth hi count closing l ls → depth ≤ count
  deep st lv x depth hi count true l ls c =
      omega (arith, c.deep, c.counted, outer_deep st lv (level c.owner c.elems ∷ ls) x.block c.outer, (sealed_low st x hi c.left (nest_elem c.shown) c.sealed).2)
  deep st lv x depth hi count false (level root es) [] c = omega (arith, c.deep)
  deep st lv x depth hi count false (level root es) (l ∷ ls) c = absurd c.rooted
  deep st lv x depth hi count false (level (helper raw p bs h) es) ls c = omega (arith, c.deep, c.counted, outer_deep st lv ls x.block c.outer)
  deep st lv x depth hi count false (level (in_else p h b bs) es) ls c = omega (arith, c.deep, c.counted, outer_deep st lv ls x.block c.outer)
  deep st lv x depth hi count false (level (wrapper p w) es) ls c = omega (arith, c.deep, c.counted, outer_deep st lv ls x.block c.outer)
