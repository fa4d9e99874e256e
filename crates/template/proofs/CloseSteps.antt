-- What a turn does to the open bodies while a block closes, over stores that are told by their elements: the last body is complete, an
-- else-if node is turned round, the block is complete and waits for the body around it. Assumes nothing.
use Prim.Native.Nat.{ℕ, suc, ◌+◌, ◌-◌, ◌<◌, ◌≤◌}
use native.Mathlib.Omega.{arith}
use mathlib.Core.Path.{◌≡◌, refl, ap, sym, subst, ◌∙◌}
use mathlib.Core.Bool.{Bool, true, false}
use mathlib.Core.Logic.{inl, inr}
use mathlib.Core.List.{List, [], ◌∷◌}
use mathlib.Core.Option.{Option, none, some}
use lib.ListN.{length}
use Rattle.support.specs.Bytes.{Bytes}
use Rattle.support.specs.Position.{Place}
use Rattle.listing.specs.Tree.{Wrap, Head}
use Rattle.listing.specs.Tree as T
use Rattle.listing.specs.Reading.{Elem, wrap, Body, no_more, no_else, else}
use Rattle.listing.specs.Nesting.{nest_elem, nest_body, nest_else}
use Rattle.template.specs.State.{Branch, closed, Owner, helper, in_else, wrapper, Level, level, sum_open, body_of, to_block}
use Rattle.template.specs.Store.{element_at, Helper, Chain, Node, ElseAt}
use Rattle.template.specs.Links.{set_template, set_inverse}
use Rattle.template.specs.Turn.{ref_chain_head, emptied, reverted}
use Rattle.template.specs.declared.element.Element.{Element}
use Rattle.template.specs.declared.frame.Frame.{Frame}
use Rattle.template.proofs.Store.{Same, SameBut, Solo, frame, frame_else, helper_like, wrapper_like}
use Rattle.template.proofs.Nesting.{tree_of, nested, close_nested}
use Rattle.template.proofs.Levels.{link_to, frame_at, kin_same, Shut, Gathered, gathered_low, owner_is, inner_low, frame_shut, frame_gathered, frame_inner, frame_outer}
use Rattle.template.proofs.Fits.{Sealed, Closing, Filling, fits_last}
use Rattle.template.proofs.OpenSteps.{Mid, skip_step, around, sealed_gathered, sealed_shut, sealed_around}

module _ (text : Bytes) (words : List ℕ) (st st' : List Element) (lv lv' : List Frame) (x : Frame) (depth len count w₀ : ℕ) (pos : 1 ≤ len) (ew : w₀ ≡ ref_chain_head x.block x.head)
    (agree : (i : ℕ) → i < depth → frame_at lv' i ≡ frame_at lv i) where
  -- ---- the last body is complete

  -- of a branch
  pub seal_step : (raw : Bool) (p : Place) (bs : List Branch) (h : Head) (es : List Elem) (o : Owner) (fs : List Elem) (ls : List Level)
      → element_at st' w₀ ≡ set_template (element_at st w₀) x.first → SameBut st st' w₀ 1 len
      → Filling text words st lv x depth len count (level (helper raw p bs h) es) (level o fs ∷ ls)
      → Mid text words st' lv' (emptied x false) depth len count true 0 (level o (to_block p bs h (body_of es) no_more no_else ∷ fs)) ls
  unfolding sum_open nest_else
  seal_step raw p bs h es o fs ls held same c =
      let a = c.inner.1 in
      inl (record {
        none = refl;
        fits = record {
          owner = o;
          elems = fs;
          shown = to_block p bs h (body_of es) no_more no_else;
          left = suc (length bs);
          top = refl;
          sealed = inl (record {
            place = p;
            done = bs;
            head = h;
            body = tree_of es;
            turned = T.no_else;
            node = a.0;
            mid = len;
            gathered = sealed_gathered text words st st' lv lv' x depth len count w₀ pos ew agree raw p bs h es (level o fs ∷ ls) held same c;
            link = a.2;
            here = a.5;
            shut = sealed_shut text words st st' lv lv' x depth len count w₀ pos ew agree raw p bs h es (level o fs ∷ ls) held same c;
            up = omega arith;
            rest = refl;
            whole = ap (λ (v : Bool). nested v p bs h (tree_of es) T.no_else) a.4 ∙ sym (close_nested p bs h (body_of es) no_else);
            nodes = refl;
          });
          counted = c.counted;
          low = pos;
          outer = sealed_around text words st st' lv lv' x depth len count w₀ pos ew agree raw p bs h es (level o fs ∷ ls) held same c;
          deep = c.deep;
        };
      })

  -- of a decorator block or a partial block
  pub wrap_step : (p : Place) (w : Wrap) (es : List Elem) (o : Owner) (fs : List Elem) (ls : List Level)
      → element_at st' w₀ ≡ set_template (element_at st w₀) x.first → SameBut st st' w₀ 1 len
      → Filling text words st lv x depth len count (level (wrapper p w) es) (level o fs ∷ ls)
      → Mid text words st' lv' (emptied x false) depth len count true 0 (level o (wrap p w (body_of es) ∷ fs)) ls
  unfolding sum_open nest_elem ref_chain_head
  wrap_step p w es o fs ls held same c =
      let a = c.inner.1 in
      let b : w₀ ≡ x.block = ew ∙ rw a.2 in
      let q : element_at st' x.block ≡ set_template (element_at st x.block) x.first = subst (λ (i : ℕ). element_at st' i ≡ set_template (element_at st i) x.first) b held in
      inl (record {
        none = refl;
        fits = record {
          owner = o;
          elems = fs;
          shown = wrap p w (body_of es);
          left = 1;
          top = refl;
          sealed = inr (record {
            place = p;
            wrap = w;
            body = tree_of es;
            is = wrapper_like text words (some p) (element_at st x.block) (element_at st' x.block) (ap (λ (v : Element). v.element) q) (ap (λ (v : Element). v.name) q) (ap (λ (v : Element). v.place) q) w a.0;
            last = ap (λ (v : Element). v.next) q ∙ a.1;
            link = a.2;
            plain = refl;
            here = a.4;
            shut = (
              x.last,
              omega (arith, a.5, c.inner.2),
              subst (λ (v : Element). Chain text words st' 0 v.template x.last (x.block + 1) len (tree_of es)) (sym q)
                  (frame text words st st' (tree_of es) 0 x.first x.last (x.block + 1) len (λ i u t. same i (omega (arith, u)) t (λ n. omega (arith, n, u, b)))
                  (subst (λ (i : ℕ). Chain text words st 0 x.first x.last i len (tree_of es)) a.5 c.inner.3)),
            );
            whole = refl;
            nodes = refl;
          });
          counted = c.counted;
          low = pos;
          outer = around text words st st' lv lv' x depth len count w₀ pos ew agree (level o fs ∷ ls) x.block (omega (arith, b)) (omega (arith, a.5, c.inner.2)) same (omega (arith, c.deep)) c.outer;
          deep = c.deep;
        };
      })

  -- of a plain else
  pub shut_step : (p : Place) (h : Head) (b : Body) (bs : List Branch) (es : List Elem) (o : Owner) (fs : List Elem) (ls : List Level) → Same st st' 1 len
      → Filling text words st lv x depth len count (level (in_else p h b bs) es) (level o fs ∷ ls)
      → Mid text words st' lv' x depth len count true 0 (level o (to_block p bs h b no_more (else (body_of es)) ∷ fs)) ls
  unfolding sum_open nest_else
  shut_step p h b bs es o fs ls same c =
      let lo = c.inner.0 in
      let a = c.inner.1 in
      let l : Level = level o (to_block p bs h b no_more (else (body_of es)) ∷ fs) in
      skip_step text words st st' lv lv' x depth len count w₀ pos ew agree true l ls same (record {
        owner = o;
        elems = fs;
        shown = to_block p bs h b no_more (else (body_of es));
        left = suc (length bs);
        top = refl;
        sealed = inl (record {
          place = p;
          done = bs;
          head = h;
          body = nest_body b;
          turned = T.else (tree_of es);
          node = a.0;
          mid = lo;
          gathered = a.1;
          link = a.2;
          here = a.5;
          shut = a.6;
          up = c.inner.2;
          rest = (x.last, a.3, c.inner.3);
          whole = ap (λ (v : Bool). nested v p bs h (nest_body b) (T.else (tree_of es))) a.4 ∙ sym (close_nested p bs h b (else (body_of es)));
          nodes = refl;
        });
        counted = c.counted;
        low = fits_last text words st lv x depth len count false (level (in_else p h b bs) es) (level o fs ∷ ls) pos c;
        outer = c.outer;
        deep = c.deep;
      })

  -- ---- the newest node of the block gets what has been turned so far as its else

  -- then it is complete
  complete : (pl : Option Place) (d : Bool) (h : Head) (b : T.Body) (t : T.Else) (w m : ℕ) → 0 < w → Helper text words pl h (element_at st w) → Shut text words st w m b → m ≤ len
      → ElseAt text words st x.inverted x.first m len t → element_at st' w ≡ set_inverse (element_at st w) x.first x.inverted d → SameBut st st' w 1 len
      → Node text words st' w len (T.block pl d h b t)
  complete pl d h b t w m low is shut up rest r same = (
    m,
    shut.1,
    up,
    helper_like text words pl (element_at st w) (element_at st' w) (ap (λ (z : Element). z.element) r) (ap (λ (z : Element). z.name) r) (ap (λ (z : Element). z.place) r) h is,
    ap (λ (z : Element). z.chain) r,
    (
      shut.0,
      subst (λ (z : Element). Chain text words st' 0 z.template shut.0 (w + 1) m b) (sym r)
          (frame text words st st' b 0 (element_at st w).template shut.0 (w + 1) m (λ i u v. same i (omega (arith, u)) (omega (arith, v, up)) (λ z. omega (arith, z, u))) shut.2),
    ),
    subst (λ (z : Element). ElseAt text words st' z.inverted z.inverse m len t) (sym r)
        (frame_else text words st st' t x.inverted x.first m len (λ i u v. same i (omega (arith, u, shut.1)) v (λ z. omega (arith, z, u, shut.1))) rest),
  )

  -- one else-if node is turned round: it becomes the else of the one before it
  pub revert_step : (l : Level) (ls : List Level) → 0 < x.head → element_at st' w₀ ≡ set_inverse (element_at st w₀) x.first x.inverted true → SameBut st st' w₀ 1 len
      → Closing text words st lv x depth len count l ls → Mid text words st' lv' (reverted x (element_at st w₀).inverse) depth len (count - 1) true 0 l ls
  unfolding nested sum_open
  revert_step l ls far held same c = by_kind c.sealed
    where
      go : (p : Place) (done : List Branch) (h : Head) (b : T.Body) (t : T.Else) (w m : ℕ) → Gathered text words st p x.block w h done → x.head ≡ link_to done w → 0 < x.block
          → Shut text words st w m b → m ≤ len → ElseAt text words st x.inverted x.first m len t → nested x.chain p done h b t ≡ nest_elem c.shown → c.left ≡ suc (length done)
          → Mid text words st' lv' (reverted x (element_at st w₀).inverse) depth len (count - 1) true 0 l ls
      go p [] h b t w m g link here shut up rest whole nodes = absurd (omega (arith, far, link))
      go p (closed f b₁ ∷ bs) h b t w m g link here shut up rest whole nodes =
          let v = g.0 in
          let ww : w₀ ≡ w = ew ∙ owner_is text words st p (closed f b₁ ∷ bs) x.block w x.head h here link g in
          let low = gathered_low text words st p bs x.block v f g.6 in
          let r : element_at st' w ≡ set_inverse (element_at st w) x.first x.inverted true =
          subst (λ (i : ℕ). element_at st' i ≡ set_inverse (element_at st i) x.first x.inverted true) ww held in
          let but : SameBut st st' w 1 len = subst (λ (i : ℕ). SameBut st st' i 1 len) ww same in
          inl (record {
            none = refl;
            fits = record {
              owner = c.owner;
              elems = c.elems;
              shown = c.shown;
              left = suc (length bs);
              top = c.top;
              sealed = inl (record {
                place = p;
                done = bs;
                head = f;
                body = nest_body b₁;
                turned = T.else (T.then (T.block none true h b t) T.end);
                node = v;
                mid = w;
                gathered = frame_gathered text words st st' p bs x.block v f here (λ i u z. but i u (omega (arith, z, g.5.1, shut.1, up)) (λ n. omega (arith, n, z, g.5.1)))
                    (kin_same _ _ (but v (omega (arith, low, here)) (omega (arith, g.5.1, shut.1, up)) (λ n. omega (arith, n, g.5.1)))) g.6;
                link = ap (λ (i : ℕ). (element_at st i).inverse) ww ∙ g.4;
                here = here;
                shut = frame_shut text words st st' v w (nest_body b₁) (λ i u z. but i (omega (arith, u, low, here)) (omega (arith, z, shut.1, up)) (λ n. omega (arith, n, z))) g.5;
                up = omega (arith, shut.1, up);
                rest = (
                  w,
                  refl,
                  subst (λ (i : ℕ). Chain text words st' 0 i w w len (T.then (T.block none true h b t) T.end)) (sym link) (
                    len,
                    omega arith,
                    omega (arith, shut.1, up),
                    omega arith,
                    complete none true h b t w m (omega (arith, low, here, g.5.1)) g.1 shut up rest r but,
                    (ap (λ (z : Element). z.next) r ∙ g.2, refl),
                  ),
                );
                whole = whole;
                nodes = refl;
              });
              counted = omega (arith, c.counted, nodes);
              low = pos;
              outer = around text words st st' lv lv' x depth len count w₀ pos ew agree (level c.owner c.elems ∷ ls) x.block (omega (arith, ww, low, g.5.1)) (omega (arith, low, g.5.1, shut.1, up)) same
                  (omega (arith, c.deep)) c.outer;
              deep = c.deep;
            };
          })

      by_kind : Sealed text words st x len c.left (nest_elem c.shown) → Mid text words st' lv' (reverted x (element_at st w₀).inverse) depth len (count - 1) true 0 l ls
      by_kind (inl k) = go k.place k.done k.head k.body k.turned k.node k.mid k.gathered k.link k.here k.shut k.up k.rest k.whole k.nodes
      by_kind (inr k) = absurd (omega (arith, far, k.link))

  -- no else-if node is left: the block is complete and waits for the body around it
  pub set_step : (l : Level) (ls : List Level) → x.head ≡ 0 → element_at st' w₀ ≡ set_inverse (element_at st w₀) x.first x.inverted x.chain → SameBut st st' w₀ 1 len
      → Closing text words st lv x depth len count l ls → Mid text words st' lv' (frame_at lv (depth - 1)) (depth - 1) len (count - 1) false x.block l ls
  unfolding nested sum_open ref_chain_head
  set_step l ls near held same c = by_kind c.sealed
    where
      at_block : w₀ ≡ x.block
      at_block = ew ∙ rw near

      r : element_at st' x.block ≡ set_inverse (element_at st x.block) x.first x.inverted x.chain
      r = subst (λ (i : ℕ). element_at st' i ≡ set_inverse (element_at st i) x.first x.inverted x.chain) at_block held

      but : SameBut st st' x.block 1 len
      but = subst (λ (i : ℕ). SameBut st st' i 1 len) at_block same

      -- the body around is as it was
      back : 0 < x.block → x.block < len → Solo text words st' x.block len (nest_elem c.shown) → c.left ≡ 1
          → Mid text words st' lv' (frame_at lv (depth - 1)) (depth - 1) len (count - 1) false x.block l ls
      back here up solo one =
          let under : length ls ≡ depth - 1 = omega (arith, c.deep) in
          let as_was : Same st st' 1 x.block = λ i u t. but i u (omega (arith, t, up)) (λ z. omega (arith, z, t)) in
          let m : Level = level c.owner c.elems in
          inr (record {
            here = here;
            owner = c.owner;
            elems = c.elems;
            shown = c.shown;
            top = c.top;
            solo = solo;
            fits =
                subst (λ (i : ℕ). Filling text words st' lv' (frame_at lv i) (depth - 1) x.block (count - 1) m ls) under (record {
                  inner = frame_inner text words st st' (frame_at lv (length ls)) x.block m as_was c.outer.0;
                  counted = omega (arith, c.counted, one);
                  rooted = c.outer.1;
                  outer = frame_outer text words st st' lv lv' ls (frame_at lv (length ls)).block
                      (λ i u t. as_was i u (omega (arith, t, inner_low text words st (frame_at lv (length ls)) x.block m c.outer.0))) (λ i u. agree i (omega (arith, u, c.deep))) c.outer.2;
                  deep = sym under;
                });
            filling = refl;
          })

      go : (p : Place) (done : List Branch) (h : Head) (b : T.Body) (t : T.Else) (w m : ℕ) → Gathered text words st p x.block w h done → x.head ≡ link_to done w → 0 < x.block
          → Shut text words st w m b → m ≤ len → ElseAt text words st x.inverted x.first m len t → nested x.chain p done h b t ≡ nest_elem c.shown → c.left ≡ suc (length done)
          → Mid text words st' lv' (frame_at lv (depth - 1)) (depth - 1) len (count - 1) false x.block l ls
      go p (closed f b₁ ∷ bs) h b t w m g link here shut up rest whole nodes = absurd (omega (arith, near, link, here, gathered_low text words st p (closed f b₁ ∷ bs) x.block w h g))
      go p [] h b t w m g link here shut up rest whole nodes =
          let shut' : Shut text words st x.block m b = subst (λ (i : ℕ). Shut text words st i m b) g.0 shut in
          back here (omega (arith, shut'.1, up))
          (record {
            up = omega (arith, shut'.1, up);
            node = subst (λ (e : T.Elem). Node text words st' x.block len e) whole
                (complete (some p) x.chain h b t x.block m here (subst (λ (i : ℕ). Helper text words (some p) h (element_at st i)) g.0 g.1) shut' up rest r but);
            last = ap (λ (z : Element). z.next) r ∙ subst (λ (i : ℕ). (element_at st i).next ≡ 0) g.0 g.2;
          }) nodes

      by_kind : Sealed text words st x len c.left (nest_elem c.shown) → Mid text words st' lv' (frame_at lv (depth - 1)) (depth - 1) len (count - 1) false x.block l ls
      by_kind (inl k) = go k.place k.done k.head k.body k.turned k.node k.mid k.gathered k.link k.here k.shut k.up k.rest k.whole k.nodes
      by_kind (inr k) =
          back k.here k.shut.1
          (record {
            up = k.shut.1;
            node = subst (λ (e : T.Elem). Node text words st' x.block len e) k.whole (
              wrapper_like text words (some k.place) (element_at st x.block) (element_at st' x.block) (ap (λ (z : Element). z.element) r) (ap (λ (z : Element). z.name) r) (ap (λ (z : Element). z.place) r) k.wrap k.is,
              ap (λ (z : Element). z.inverted) r ∙ k.plain,
              (
                k.shut.0,
                subst (λ (z : Element). Chain text words st' 0 z.template k.shut.0 (x.block + 1) len k.body) (sym r)
                    (frame text words st st' k.body 0 (element_at st x.block).template k.shut.0 (x.block + 1) len (λ i u v. but i (omega (arith, u)) v (λ z. omega (arith, z, u))) k.shut.2),
              ),
            );
            last = ap (λ (z : Element). z.next) r ∙ k.last;
          }) k.nodes
