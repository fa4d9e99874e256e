-- Around a turn's own part: the element that waits joins the innermost body; before it, the gap joins, and the last text is trimmed.
-- Assumes nothing.
use Prim.Native.Nat.{ℕ, ◌+◌, ◌<◌, ◌≤◌}
use native.Mathlib.Omega.{arith}
use mathlib.Core.Path.{◌≡◌, refl, ap, sym, subst, ◌∙◌}
use mathlib.Core.Bool.{Bool, true, false}
use mathlib.Core.Logic.{⊎_elim, inl, inr}
use mathlib.Core.List.{List, [], ◌∷◌}
use lib.ListN.{length, set, length-set}
use lib.Seq.{set-get_or}
use lib.Dec.{eqb}
use borrow.Author.Tests.{ne_eqb, eqb-true, eqb-false}
use Rattle.std.specs.Prelude.{Some, None}
use Rattle.std.specs.declared.option.Option as rattle
use Rattle.support.specs.Bytes.{Bytes}
use Rattle.listing.specs.Tree as T
use Rattle.listing.specs.Reading.{Elem, item, block, wrap}
use Rattle.listing.specs.Nesting.{nest_elem, nest_body}
use Rattle.template.specs.State.{Owner, root, helper, in_else, wrapper, Level, level, add_to, trim_item, trim_elem, trim_last, open_of, sum_open, to_body}
use Rattle.template.specs.Element.{empty_element, back_trim}
use Rattle.template.specs.Store.{element_at, Chain}
use Rattle.template.specs.Visit.{leaf_means, GapMade}
use Rattle.template.specs.Links.{followed_by, trim_end_of}
use Rattle.template.specs.Links as Links
use Rattle.template.specs.Turn.{ref_chain_head, filled, joined_of, gapped_of, Joined}
use Rattle.template.specs.declared.element.Back.{Back}
use Rattle.template.specs.declared.element.TemplateElement.{TemplateElement}
use Rattle.template.specs.declared.element.Element.{Element}
use Rattle.template.specs.declared.frame.Frame.{Frame}
use Rattle.template.specs.declared.turn.Gapped.{Gapped}
use Rattle.template.proofs.Store.{Same, SameBut, Solo, Linked, join_open, retouch, ends_snoc, at_same, at_other}
use Rattle.template.proofs.Nesting.{tree_of, tree_add}
use Rattle.template.proofs.Levels.{Lead, lead_low, frame_lead, frame_outer}
use Rattle.template.proofs.Fits.{Filling, Fits, frame_fits, fits_last}
use Rattle.template.proofs.OpenSteps.{Mid, skip_step, add_step}
use Rattle.template.proofs.Trims.{trim_node, trim_kept}
use Rattle.template.proofs.Turns.{Kept, Planned, bottom_other, bottom_same}

-- what is open does not ask for elements
pub open_same : (o : Owner) (es fs : List Elem) → open_of (level o es) ≡ open_of (level o fs)
open_same root es fs = refl
open_same (helper raw p bs h) es fs = refl
open_same (in_else p h b bs) es fs = refl
open_same (wrapper p w) es fs = refl

module _ (text : Bytes) (words : List ℕ) where
  lead_filled : (st : List Element) (x : Frame) (lo : ℕ) (o : Owner) (a b : ℕ) → Lead text words st x lo o → Lead text words st (filled x a b) lo o
  lead_filled st x lo root a b c = c
  lead_filled st x lo (helper raw p bs h) a b c = c
  lead_filled st x lo (in_else p h d bs) a b c = c
  lead_filled st x lo (wrapper p w) a b c = c

  -- ---- the element that waits joins

  joined : (st st' : List Element) (lv : List Frame) (x : Frame) (depth len count at first' : ℕ) (o : Owner) (es : List Elem) (e : Elem) (ls : List Level) → len ≤ length st
      → Solo text words st at len (nest_elem e) → Filling text words st lv x depth at count (level o es) ls → Linked text words st st' x.first first' x.last at
      → Filling text words st' lv (filled x first' at) depth len count (level o (e ∷ es)) ls
  joined st st' lv x depth len count at first' o es e ls room solo c j =
      let lo = c.inner.0 in
      let low = lead_low text words st x lo o c.inner.1 in
      let h = join_open text words st (nest_elem e) x.first x.last lo at len room low.1 c.inner.2 solo (tree_of es) st' first' c.inner.3 j in
      record {
        inner = (
          lo,
          lead_filled st' x lo o first' at (frame_lead text words st st' x lo o h.1 c.inner.1),
          omega (arith, c.inner.2, solo.up),
          subst (λ (b : T.Body). Chain text words st' 0 first' at lo len b) (sym (tree_add e es)) h.0,
          c.inner.4,
        );
        counted = c.counted ∙ ap (λ (i : ℕ). i + sum_open ls) (open_same o es (e ∷ es));
        rooted = c.rooted;
        outer = frame_outer text words st st' lv lv ls x.block (λ i u v. h.1 i u (omega (arith, v, low.0))) (λ i u. refl) c.outer;
        deep = c.deep;
      }

  module _ (n : ℕ) (st : List Element) (lv : List Frame) (x : Frame) (depth len count : ℕ) (closing : Bool) (at : ℕ) (l : Level) (ls : List Level)
      (p : Planned text words n st lv x depth len count closing at l ls) (room : len ≤ n) where
    pub mid_last : x.last < len
    mid_last =
        ⊎_elim (λ w. fits_last text words st lv x depth len count closing l ls p.pos w.fits)
        (λ w. omega (arith, fits_last text words st lv x depth at count false (level w.owner w.elems) ls w.here w.fits, w.solo.up)) p.mid

    -- the store of the link
    pub linked : (z : ℕ) (y : Joined) → z ≡ x.last → y ≡ joined_of x (element_at st z) at → Kept text words n (set st z y.last) lv y.top depth len count closing l ls
    unfolding joined_of
    linked z y ez ey =
        subst (λ (v : Joined). Kept text words n (set st z v.last) lv v.top depth len count closing l ls) (sym ey)
        (subst (λ (i : ℕ). Kept text words n (set st i (joined_of x (element_at st i) at).last) lv (joined_of x (element_at st i) at).top depth len count closing l ls) (sym ez) (by_none (eqb at 0) refl))
      where
        e : Element
        e = element_at st x.last

        kept : (v : Element) (x' : Frame) → v.element ≡ e.element → Fits text words (set st x.last v) lv x' depth len count closing l ls → Kept text words n (set st x.last v) lv x' depth len count closing l ls
        kept v x' q c =
            record {
              fits = c;
              pos = p.pos;
              long = length-set st x.last v ∙ p.long;
              wide = p.wide;
              cap = p.cap;
              bottom = bottom_same st x.last v (omega (arith, mid_last, p.long)) (λ z. q ∙ ap (λ (i : ℕ). (element_at st i).element) z ∙ p.bottom) p.bottom;
            }

        become : (st' : List Element) (first' : ℕ) → 0 < at → Linked text words st st' x.first first' x.last at → Fits text words st' lv (filled x first' at) depth len count closing l ls
        become st' first' a j =
            ⊎_elim (λ w. absurd (omega (arith, a, w.none)))
            (λ w. subst (λ (u : Level). Fits text words st' lv (filled x first' at) depth len count closing u ls) (sym w.top)
            (subst (λ (b : Bool). Fits text words st' lv (filled x first' at) depth len count b (level w.owner (w.shown ∷ w.elems)) ls) (sym w.filling)
            (joined st st' lv x depth len count at first' w.owner w.elems w.shown ls (omega (arith, p.long)) w.solo w.fits j))) p.mid

        still : set st x.last e ≡ st
        still = set-get_or st x.last empty_element

        Goal : Joined → Type 0
        Goal v = Kept text words n (set st x.last v.last) lv v.top depth len count closing l ls

        by_last : (b : Bool) → eqb x.last 0 ≡ b → (at ≡ 0 → ⊥) → Goal (joined_of x e at)
        by_last true q a =
            subst Goal (sym (rw (ne_eqb at 0 a, q)))
            (kept e (filled x at at) refl (become _ at (omega (arith, a)) (inl (eqb-true x.last 0 q, refl, still))))
        by_last false q a =
            subst Goal (sym (rw (ne_eqb at 0 a, q)))
            (kept (followed_by e at) (filled x x.first at) refl (become _ x.first (omega (arith, a)) (inr (eqb-false x.last 0 q, refl, refl))))

        by_none : (b : Bool) → eqb at 0 ≡ b → Goal (joined_of x e at)
        by_none true q =
            subst Goal (sym (rw q))
            (kept e x refl (⊎_elim (λ w. subst (λ (v : List Element). Fits text words v lv x depth len count closing l ls) (sym still) w.fits) (λ w. absurd (omega (arith, eqb-true at 0 q, w.here))) p.mid))
        by_none false q = by_last (eqb x.last 0) refl (eqb-false at 0 q)

  -- ---- the gap joins

  -- the innermost body with the gap, if it is kept
  abbrev pub gap_top : rattle.Option Element → Level → Level
  gap_top (Some e) l = add_to (leaf_means text words e) l
  gap_top None l = l

  module _ (n : ℕ) (st : List Element) (lv : List Frame) (x : Frame) (depth len count : ℕ) (l : Level) (ls : List Level) (room : len < n) where
    stored : (e : Element) → Same st (set st len e) 1 len
    stored e i a b = at_other st len i e (λ q. omega (arith, q, b))

    gap_none : (closing : Bool) (e : Element) → Kept text words n st lv x depth len count closing l ls → Planned text words n (set st len e) lv x depth len count closing 0 l ls
    gap_none closing e k =
        record {
          mid = skip_step text words st (set st len e) lv lv x depth len count (ref_chain_head x.block x.head) k.pos refl (λ i a. refl) closing l ls (stored e) k.fits;
          pos = k.pos;
          long = length-set st len e ∙ k.long;
          wide = k.wide;
          cap = k.cap;
          bottom = bottom_other st len e k.pos k.bottom;
        }

    gap_some : (e : Element) → GapMade text words (Some e) → Kept text words n st lv x depth len count false l ls → Planned text words n (set st len e) lv x depth (len + 1) count false len (gap_top (Some e) l) ls
    gap_some e m k =
        record {
          mid = go l k.fits;
          pos = omega arith;
          long = length-set st len e ∙ k.long;
          wide = k.wide;
          cap = k.cap;
          bottom = bottom_other st len e k.pos k.bottom;
        }
      where
        go : (l : Level) → Fits text words st lv x depth len count false l ls → Mid text words (set st len e) lv x depth (len + 1) count false len (gap_top (Some e) l) ls
        go (level o es) c =
            add_step text words st (set st len e) lv lv x depth len count (ref_chain_head x.block x.head) k.pos refl (λ i a. refl) o es ls e (at_same st len e (omega (arith, k.long))) m (stored e) c

    closed : {e : Element} {P : Type 0} (closing : Bool) → (closing ≡ true → ◌≡◌ {A = rattle.Option Element} (Some e) None) → closing ≡ true → P
    closed closing c q = absurd (let z : ◌≡◌ {A = ℕ} 0 1 = (let f = c q in cc) in omega (arith, z))

    pub gapped : (closing : Bool) (e : rattle.Option Element) (g : Gapped) → (closing ≡ true → e ≡ None) → GapMade text words e → g ≡ gapped_of e len → Kept text words n st lv x depth len count closing l ls
        → Planned text words n (set st len g.made) lv x depth g.len count closing g.join (gap_top e l) ls
    unfolding gapped_of
    gapped closing None g c m q k = rw q (gap_none closing empty_element k)
    gapped false (Some e) g c m q k = rw q (gap_some e m k)
    gapped true (Some e) g c m q k = closed true c refl

    -- how many elements there are then
    pub gap_len : (closing : Bool) (e : rattle.Option Element) (g : Gapped) → (closing ≡ true → e ≡ None) → g ≡ gapped_of e len → (len ≤ g.len) × (g.len ≤ len + 1) × (closing ≡ true → g.len ≡ len)
    unfolding gapped_of
    gap_len closing None g c q = rw q (omega arith, omega arith, λ z. refl)
    gap_len closing (Some e) g c q = rw q (omega arith, omega arith, λ z. closed closing c z)

  -- ---- the last text is trimmed

  module _ (st st' : List Element) (lv : List Frame) (x : Frame) (depth len count : ℕ) (ls : List Level) (b : Back) (pos : 1 ≤ len)
      (cut : element_at st' x.last ≡ trim_end_of (element_at st x.last) b) (same : SameBut st st' x.last 0 len) where
    trim_fits : (l : Level) → Filling text words st lv x depth len count l ls → Filling text words st' lv x depth len count (trim_last (back_trim b) l) ls
    unfolding trim_last to_body nest_body
    trim_fits (level o []) c =
        let e : x.last ≡ 0 = c.inner.3.1 in
        frame_fits text words st st' lv lv x depth len count false (level o []) ls (λ i u v. same i (omega arith) v (λ q. omega (arith, q, e, u))) (λ i u. refl) c
    trim_fits (level o (e ∷ es)) c =
        let lo = c.inner.0 in
        let low = lead_low text words st x lo o c.inner.1 in
        let d = subst (λ (v : T.Body). Chain text words st 0 x.first x.last lo len v) (tree_add e es) c.inner.3 in
        let z = ends_snoc text words st (tree_of es) (nest_elem e) 0 x.first x.last lo len d in
        let near : Same st st' 1 lo = λ i u v. same i (omega arith) (omega (arith, v, c.inner.2)) (λ q. omega (arith, q, v, z.0)) in
        record {
          inner = (
            lo,
            frame_lead text words st st' x lo o near c.inner.1,
            c.inner.2,
            subst (λ (v : T.Body). Chain text words st' 0 x.first x.last lo len v) (sym (tree_add (trim_elem (back_trim b) e) es))
                (retouch text words st st' (nest_elem e) (nest_elem (trim_elem (back_trim b) e)) x.last len (ap (λ (v : Element). v.next) cut)
                (λ m s. trim_node text words st st' x.last b cut e m s) (tree_of es) 0 x.first lo (λ i u v q. same i (omega arith) v q) d),
            c.inner.4,
          );
          counted = c.counted ∙ ap (λ (i : ℕ). i + sum_open ls) (open_same o (e ∷ es) (trim_elem (back_trim b) e ∷ es));
          rooted = c.rooted;
          outer = frame_outer text words st st' lv lv ls x.block (λ i u v. near i u (omega (arith, v, low.0))) (λ i u. refl) c.outer;
          deep = c.deep;
        }

  -- nothing is trimmed
  pub last_kept : (l : Level) → trim_last (back_trim Back.Kept) l ≡ l
  unfolding trim_last trim_elem trim_item
  last_kept (level o []) = refl
  last_kept (level o (item p (T.text t) ∷ es)) = refl
  last_kept (level o (item p (T.comment t) ∷ es)) = refl
  last_kept (level o (item p (T.expr c a) ∷ es)) = refl
  last_kept (level o (item p (T.html c a) ∷ es)) = refl
  last_kept (level o (item p (T.decor i d c) ∷ es)) = refl
  last_kept (level o (item p (T.partial i d c) ∷ es)) = refl
  last_kept (level o (block p h b bs f ∷ es)) = refl
  last_kept (level o (wrap p w b ∷ es)) = refl

  module _ (n : ℕ) (st : List Element) (lv : List Frame) (x : Frame) (depth len count : ℕ) (l : Level) (ls : List Level) (room : len ≤ n) where
    -- the store of the trim
    pub trimmed : (closing : Bool) (b : Back) (z : ℕ) (e : Element) → (closing ≡ true → b ≡ Back.Kept) → z ≡ x.last → e ≡ trim_end_of (element_at st z) b → Kept text words n st lv x depth len count closing l ls
        → Kept text words n (set st z e) lv x depth len count closing (trim_last (back_trim b) l) ls
    trimmed true b z e c q r k =
        let same : set st z e ≡ st = ap (set st z) (r ∙ ap (trim_end_of (element_at st z)) (c refl) ∙ trim_kept (element_at st z)) ∙ set-get_or st z empty_element in
        let top : trim_last (back_trim b) l ≡ l = ap (λ (v : Back). trim_last (back_trim v) l) (c refl) ∙ last_kept l in
        rw (same, top) k
    trimmed false b z e c q r k =
        let low : x.last < len = fits_last text words st lv x depth len count false l ls k.pos k.fits in
        let e' : e ≡ trim_end_of (element_at st x.last) b = r ∙ ap (λ (i : ℕ). trim_end_of (element_at st i) b) q in
        rw (q, e')
        (record {
          fits = trim_fits st (set st x.last (trim_end_of (element_at st x.last) b)) lv x depth len count ls b k.pos (at_same st x.last _ (omega (arith, low, k.long))) (λ i u v w. at_other st x.last i _ w) l k.fits;
          pos = k.pos;
          long = length-set st x.last _ ∙ k.long;
          wide = k.wide;
          cap = k.cap;
          bottom = bottom_same st x.last _ (omega (arith, low, k.long)) (λ i. ap (λ (v : TemplateElement). Links.trimmed v b) (ap (λ (j : ℕ). (element_at st j).element) i ∙ k.bottom)) k.bottom;
        })
