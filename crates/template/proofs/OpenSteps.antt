-- What a turn does to the open bodies while no block closes, over stores that are told by their elements: an element joins, a block
-- opens, an else-if or a plain else begins. Assumes nothing.
use Prim.Native.Nat.{ℕ, ◌+◌, ◌<◌, ◌≤◌}
use native.Mathlib.Omega.{arith}
use mathlib.Core.Path.{◌≡◌, refl, ap, sym, subst, ◌∙◌}
use mathlib.Core.Bool.{Bool, true, false, not}
use mathlib.Core.Logic.{◌⊎◌, inl, inr}
use mathlib.Core.List.{List, [], ◌∷◌}
use mathlib.Core.Option.{none, some}
use lib.ListN.{length}
use Rattle.support.specs.Bytes.{Bytes}
use Rattle.support.specs.Position.{Place, place_of}
use Rattle.listing.specs.Tree.{Head}
use Rattle.listing.specs.Reading.{Elem, Body}
use Rattle.listing.specs.Nesting.{nest_elem, nest_body}
use Rattle.template.specs.State.{Branch, closed, Owner, helper, in_else, Level, level, owner_of, open_of, sum_open, to_body, body_of}
use Rattle.template.specs.Element.{Role, item_means, head_means, wrap_means}
use Rattle.template.specs.Element as role
use Rattle.template.specs.Store.{element_at, Leaf, Helper, Wrapper, Chain}
use Rattle.template.specs.Visit.{OpenedIs, leaf_means, Made}
use Rattle.template.specs.Links.{inverse_node, set_template}
use Rattle.template.specs.Turn.{ref_chain_head, emptied, begun, branched}
use Rattle.template.specs.declared.element.Element.{Element}
use Rattle.template.specs.declared.frame.Frame.{Frame}
use Rattle.template.specs.declared.frame.Opened.{Opened}
use Rattle.template.specs.declared.frame.Opened.TheVariants as O
use Rattle.template.proofs.Store.{Same, SameBut, Solo, frame}
use Rattle.template.proofs.Nesting.{tree_of}
use Rattle.template.proofs.Levels.{frame_at, Rooted, Shut, Gathered, gathered_low, owner_is, Lead, Inner, Outer, inner_low, frame_gathered, frame_inner, frame_outer}
use Rattle.template.proofs.Fits.{Filling, Fits, frame_fits}

-- ---- what the frame says of its body's owner

module _ (p : Place) (bs : List Branch) (h : Head) where
  pub opened_next : (op : Opened) (i raw : Bool) (bs' : List Branch) (g : Head) → OpenedIs op i (helper raw p bs h) → OpenedIs op false (helper raw p bs' g)
  opened_next O.Root i raw bs' g c = absurd c
  opened_next O.Helper i raw bs' g c = (refl, c.1)
  opened_next O.Raw i raw bs' g c = (refl, c.1)
  opened_next O.Decorator i raw bs' g c = absurd c
  opened_next O.Partial i raw bs' g c = absurd c

  not_raw : (raw : Bool) → not raw ≡ true → raw ≡ true → ⊥
  not_raw true e f = let z : ◌≡◌ {A = ℕ} 0 1 = cc in omega (arith, z)
  not_raw false e f = let z : ◌≡◌ {A = ℕ} 0 1 = cc in omega (arith, z)

  pub opened_else : (op : Opened) (i raw : Bool) (b : Body) → not raw ≡ true → OpenedIs op i (helper raw p bs h) → OpenedIs op true (in_else p h b bs)
  opened_else O.Root i raw b n c = absurd c
  opened_else O.Helper i raw b n c = refl
  opened_else O.Raw i raw b n c = absurd (not_raw raw n c.1)
  opened_else O.Decorator i raw b n c = absurd c
  opened_else O.Partial i raw b n c = absurd c

module _ (text : Bytes) (words : List ℕ) where
  -- The state between the two halves of a turn: nothing waits, or the element at `at` waits for the innermost body.
  pub record Still (st : List Element) (lv : List Frame) (x : Frame) (depth len count : ℕ) (closing : Bool) (at : ℕ) (l : Level) (ls : List Level) : Type 0 where
    pub none : at ≡ 0
    pub fits : Fits text words st lv x depth len count closing l ls

  pub record Waits (st : List Element) (lv : List Frame) (x : Frame) (depth len count : ℕ) (closing : Bool) (at : ℕ) (l : Level) (ls : List Level) : Type 0 where
    pub here : 0 < at
    pub owner : Owner
    pub elems : List Elem
    pub shown : Elem
    pub top : l ≡ level owner (shown ∷ elems)
    pub solo : Solo text words st at len (nest_elem shown)
    pub fits : Filling text words st lv x depth at count (level owner elems) ls
    pub filling : closing ≡ false

  abbrev pub Mid : List Element → List Frame → Frame → ℕ → ℕ → ℕ → Bool → ℕ → Level → List Level → Type 0
  Mid st lv x depth len count closing at l ls = Still st lv x depth len count closing at l ls ⊎ Waits st lv x depth len count closing at l ls

  -- an open body with nothing in it
  pub chain_empty : (st : List Element) (lo hi : ℕ) → Chain text words st 0 0 0 lo hi (tree_of [])
  unfolding to_body nest_body
  chain_empty st lo hi = (refl, refl)

  -- an element that was just made, at its number
  module _ (st : List Element) (len : ℕ) (e : Element) (made : element_at st len ≡ e) where
    pub made_next : (r : Role) → Made text words r e → (element_at st len).next ≡ 0
    made_next r m = ap (λ (v : Element). v.next) (made ∙ m.new)

    pub made_leaf : Made text words role.leaf e → Solo text words st len (len + 1) (nest_elem (leaf_means text words e))
    unfolding nest_elem
    made_leaf m = record { up = omega arith; node = subst (λ (v : Element). Leaf text words (some (place_of e.place)) (item_means text words e.element) v) (sym made) (record { is = m.is; means = refl }); last = made_next role.leaf m }

    pub made_helper : Made text words role.helper e → Helper text words (some (place_of e.place)) (head_means text words e.element) (element_at st len)
    made_helper m = subst (λ (v : Element). Helper text words (some (place_of e.place)) (head_means text words e.element) v) (sym made) (record { is = m.is; means = refl })

    pub made_wrapper : Made text words role.wrapper e → Wrapper text words (some (place_of e.place)) (wrap_means text words e.element) (element_at st len)
    made_wrapper m = subst (λ (v : Element). Wrapper text words (some (place_of e.place)) (wrap_means text words e.element) v) (sym made) (record { is = m.is; means = refl })

  -- an else-if node that was just made
  made_node : (st : List Element) (len before : ℕ) (e : Element) → element_at st len ≡ inverse_node e before → Made text words role.helper e
      → Helper text words none (head_means text words e.element) (element_at st len)
  made_node st len before e made m =
      subst (λ (v : Element). Helper text words none (head_means text words e.element) v) (sym made)
      (record { is = record { role = m.is.role; place = refl; sound = m.is.sound }; means = refl })

  module _ (st st' : List Element) (lv lv' : List Frame) (x : Frame) (depth len count w₀ : ℕ) (pos : 1 ≤ len) (ew : w₀ ≡ ref_chain_head x.block x.head)
      (agree : (i : ℕ) → i < depth → frame_at lv' i ≡ frame_at lv i) where
    pub skip_step : (closing : Bool) (l : Level) (ls : List Level) → Same st st' 1 len → Fits text words st lv x depth len count closing l ls → Mid st' lv' x depth len count closing 0 l ls
    skip_step closing l ls same c = inl (record { none = refl; fits = frame_fits text words st st' lv lv' x depth len count closing l ls same agree c })

    pub add_step : (o : Owner) (es : List Elem) (ls : List Level) (e : Element) → element_at st' len ≡ e → Made text words role.leaf e → Same st st' 1 len
        → Filling text words st lv x depth len count (level o es) ls → Mid st' lv' x depth (len + 1) count false len (level o (leaf_means text words e ∷ es)) ls
    add_step o es ls e made m same c =
        inr (record {
          here = pos;
          owner = o;
          elems = es;
          shown = leaf_means text words e;
          top = refl;
          solo = made_leaf st' len e made m;
          fits = frame_fits text words st st' lv lv' x depth len count false (level o es) ls same agree c;
          filling = refl;
        })

    pub begin_step : (l : Level) (ls : List Level) (o : Owner) (op : Opened) → Lead text words st' (begun op len) (len + 1) o → OpenedIs op false o → open_of (level o []) ≡ 1 → Rooted o (l ∷ ls)
        → Same st st' 1 len → frame_at lv' depth ≡ x → Filling text words st lv x depth len count l ls
        → Mid st' lv' (begun op len) (depth + 1) (len + 1) (count + 1) false 0 (level o []) (l ∷ ls)
    unfolding sum_open
    begin_step l ls o op lead is one rooted same put c =
        inl (record {
          none = refl;
          fits = record {
            inner = (len + 1, lead, omega arith, chain_empty st' (len + 1) (len + 1), is);
            counted = omega (arith, c.counted, one);
            rooted = rooted;
            outer =
                subst (λ (v : Frame). Inner text words st' v len l × Rooted (owner_of l) ls × Outer text words st' lv' v.block ls) (sym (ap (λ (i : ℕ). frame_at lv' i) (sym c.deep) ∙ put)) (
                  frame_inner text words st st' x len l same c.inner,
                  c.rooted,
                  frame_outer text words st st' lv lv' ls x.block (λ i a b. same i a (omega (arith, b, inner_low text words st x len l c.inner))) (λ i a. agree i (omega (arith, a, c.deep))) c.outer,
                );
            deep = omega (arith, c.deep);
          };
        })

    -- the levels around are kept, since a turn stores at numbers of the innermost block only
    pub around : (ls : List Level) (hi : ℕ) → hi ≤ w₀ → hi ≤ len → SameBut st st' w₀ 1 len → length ls ≤ depth → Outer text words st lv hi ls → Outer text words st' lv' hi ls
    around ls hi a b same d c =
        frame_outer text words st st' lv lv' ls hi (λ i u v. same i u (omega (arith, v)) (λ n. omega (arith, n, v))) (λ i u. agree i (omega (arith, u))) c

    -- ---- the open body of a helper block becomes the body of its owner

    module _ (raw : Bool) (p : Place) (bs : List Branch) (h : Head) (es : List Elem) (lo : ℕ) (c : Lead text words st x lo (helper raw p bs h)) (up : lo ≤ len)
        (d : Chain text words st 0 x.first x.last lo len (tree_of es)) (held : element_at st' w₀ ≡ set_template (element_at st w₀) x.first) (same : SameBut st st' w₀ 1 len) where
      pub seal_owner : w₀ ≡ c.0
      seal_owner = ew ∙ owner_is text words st p bs x.block c.0 x.head h c.5 c.2 c.1

      pub seal_low : x.block ≤ c.0
      seal_low = gathered_low text words st p bs x.block c.0 h c.1

      held_at : element_at st' c.0 ≡ set_template (element_at st c.0) x.first
      held_at = subst (λ (i : ℕ). element_at st' i ≡ set_template (element_at st i) x.first) seal_owner held

      pub seal_gathered : Gathered text words st' p x.block c.0 h bs
      seal_gathered =
          frame_gathered text words st st' p bs x.block c.0 h c.5 (λ i a b. same i a (omega (arith, b, c.6)) (λ n. omega (arith, n, b, seal_owner)))
          (record {
            element = ap (λ (v : Element). v.element) held_at;
            name = ap (λ (v : Element). v.name) held_at;
            place = ap (λ (v : Element). v.place) held_at;
            next = ap (λ (v : Element). v.next) held_at;
            chain = ap (λ (v : Element). v.chain) held_at;
            inverse = ap (λ (v : Element). v.inverse) held_at;
          }) c.1

      pub seal_shut : Shut text words st' c.0 len (tree_of es)
      seal_shut = (
        x.last,
        omega (arith, c.6),
        subst (λ (v : Element). Chain text words st' 0 v.template x.last (c.0 + 1) len (tree_of es)) (sym held_at)
            (frame text words st st' (tree_of es) 0 x.first x.last (c.0 + 1) len (λ i a b. same i (omega (arith, a)) b (λ n. omega (arith, n, a, seal_owner)))
            (subst (λ (i : ℕ). Chain text words st 0 x.first x.last i len (tree_of es)) c.6 d)),
      )

    module _ (raw : Bool) (p : Place) (bs : List Branch) (h : Head) (es : List Elem) (ls : List Level) (held : element_at st' w₀ ≡ set_template (element_at st w₀) x.first)
        (same : SameBut st st' w₀ 1 len) (c : Filling text words st lv x depth len count (level (helper raw p bs h) es) ls) where
      pub sealed_gathered : Gathered text words st' p x.block c.inner.1.0 h bs
      sealed_gathered = seal_gathered raw p bs h es c.inner.0 c.inner.1 c.inner.2 c.inner.3 held same

      pub sealed_shut : Shut text words st' c.inner.1.0 len (tree_of es)
      sealed_shut = seal_shut raw p bs h es c.inner.0 c.inner.1 c.inner.2 c.inner.3 held same

      pub sealed_around : Outer text words st' lv' x.block ls
      sealed_around =
          let e = seal_owner raw p bs h es c.inner.0 c.inner.1 c.inner.2 c.inner.3 held same in
          let low = seal_low raw p bs h es c.inner.0 c.inner.1 c.inner.2 c.inner.3 held same in
          around ls x.block (omega (arith, e, low)) (omega (arith, low, sealed_shut.1)) same (omega (arith, c.deep)) c.outer

      rooted_on : (o o' : Owner) → ((l : Level) (k : List Level) → Rooted o' (l ∷ k)) → (Rooted o [] → ⊥) → (k : List Level) → Rooted o k → Rooted o' k
      rooted_on o o' f g [] r = absurd (g r)
      rooted_on o o' f g (l ∷ k) r = f l k

      pub chain_step : (e : Element) → element_at st' len ≡ inverse_node e x.head → Made text words role.helper e
          → Mid st' lv' (branched x len) depth (len + 1) (count + 1) false 0 (level (helper raw p (closed h (body_of es) ∷ bs) (head_means text words e.element)) []) ls
      chain_step e made m =
          let a = c.inner.1 in
          inl (record {
            none = refl;
            fits = record {
              inner = (
                len + 1,
                (
                  len,
                  (
                    a.0,
                    made_node st' len x.head e made m,
                    ap (λ (v : Element). v.next) made,
                    ap (λ (v : Element). v.chain) made,
                    ap (λ (v : Element). v.inverse) made ∙ a.2,
                    sealed_shut,
                    sealed_gathered,
                  ),
                  refl,
                  refl,
                  refl,
                  a.5,
                  refl,
                ),
                omega arith,
                chain_empty st' (len + 1) (len + 1),
                opened_next p bs h x.opened x.inverted raw _ _ c.inner.4,
              );
              counted = omega (arith, c.counted);
              rooted = rooted_on (helper raw p bs h) (helper raw p (closed h (body_of es) ∷ bs) (head_means text words e.element)) (λ l k. tt) (λ r. r) ls c.rooted;
              outer = sealed_around;
              deep = c.deep;
            };
          })

      pub else_step : not raw ≡ true → Mid st' lv' (emptied x true) depth len count false 0 (level (in_else p h (body_of es) bs) []) ls
      else_step n =
          let a = c.inner.1 in
          inl (record {
            none = refl;
            fits = record {
              inner = (
                len,
                (a.0, sealed_gathered, a.2, refl, a.4, a.5, sealed_shut),
                omega arith,
                chain_empty st' len len,
                opened_else p bs h x.opened x.inverted raw (body_of es) n c.inner.4,
              );
              counted = c.counted;
              rooted = rooted_on (helper raw p bs h) (in_else p h (body_of es) bs) (λ l k. tt) (λ r. r) ls c.rooted;
              outer = sealed_around;
              deep = c.deep;
            };
          })
