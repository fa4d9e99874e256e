-- The end of the walk: the text that is left joins the root's body, and the store holds the whole of it. Assumes nothing.
use Prim.Native.Nat.{ℕ, ◌+◌, ◌-◌, ◌<◌, ◌≤◌}
use native.Mathlib.Omega.{arith}
use mathlib.Core.Path.{◌≡◌, refl, ap, sym, subst, ◌∙◌}
use mathlib.Core.Bool.{Bool, true, false}
use mathlib.Core.Logic.{inl, inr}
use mathlib.Core.List.{List, ◌∷◌}
use mathlib.Core.Option.{some}
use lib.ListN.{length, take, drop, set, length-set, length-drop, get_or-eq_default}
use lib.Seq.{set-get_or, take_all}
use lib.Dec.{eqb, ltb}
use borrow.Author.Tests.{lt-ltb, le-ltb, ne_eqb, eqb-true, eqb-false, le-leb}
use Rattle.std.specs.Prelude.{Option, Some, None, Ok}
use Rattle.support.specs.Bytes.{Bytes, if, part}
use Rattle.support.specs.Utf8.{is_char_boundary}
use Rattle.support.specs.Position.{Place, at, linefeeds, place_after, place_at, place_of, line_col}
use Rattle.support.specs.declared.position.Place as code
use Rattle.support.proofs.Places.{line_col_from}
use Rattle.json_path.specs.Span.{span_count}
use Rattle.json_path.proofs.Spans.{escapes_end}
use Rattle.listing.specs.Tree as T
use Rattle.listing.specs.Reading.{Elem, item}
use Rattle.listing.specs.Nesting.{nest_elem, nest_body}
use Rattle.template.specs.State.{body_of}
use Rattle.template.specs.Escapes.{escapes_to, bad_escapes, unescaped}
use Rattle.template.specs.Element.{Good, RawGood, raw_means, item_means, place_means, new_element, named_element, empty_element}
use Rattle.template.specs.Element as role
use Rattle.template.specs.Store.{element_at, Is, Chain, Holds, Stored}
use Rattle.template.specs.Visit.{prev_of, HereIs, leaf_means, Made, GapMade}
use Rattle.template.specs.Links.{followed_by}
use Rattle.template.specs.Turn.{filled, joined_of, gapped_of, Joined, JoinedIs}
use Rattle.template.specs.Finish.{rest_text, RestMade, RestMeans, RestIs, walk_listing, BufferedIs, TreeIs}
use Rattle.listing.specs.Listing.{listing}
use Rattle.listing.specs.Written.{Written}
use Rattle.template.specs.Result.{accepted}
use Rattle.template.specs.declared.element.Front.TheVariants as Front
use Rattle.template.specs.declared.element.Back.TheVariants as Back
use Rattle.template.specs.declared.element.RawString.{RawString}
use Rattle.template.specs.declared.element.TemplateElement.TheVariants as E
use Rattle.template.specs.declared.element.Element.{Element}
use Rattle.template.specs.declared.frame.Frame.{Frame}
use Rattle.template.specs.declared.frame.Marks.{Marks}
use Rattle.template.specs.declared.visit.Here.{Here}
use Rattle.template.specs.declared.visit.Options.{Options}
use Rattle.template.specs.declared.turn.Gapped.{Gapped}
use Rattle.template.proofs.Store.{Linked, frame, join_open, ends_below, at_same, at_other}
use Rattle.template.proofs.Nesting.{tree_of, tree_add}
use Rattle.template.proofs.OpenSteps.{made_leaf}

-- ---- the element of the text that is left

abbrev line_number : Place → ℕ
line_number (at l c) = l

-- a place of the text has a line
line_some : (text : Bytes) (n : ℕ) (p : code.Place) → place_of p ≡ place_at text n → place_means p ≡ some (place_of p)
unfolding place_after
line_some text n p e =
    let f : p.line ≡ 1 + linefeeds (take n text) = ap line_number e in
    rw (ne_eqb p.line 0 (λ z. omega (arith, z, f)))

-- the text ends between two characters
end_between : (text : Bytes) → is_char_boundary text (length text) ≡ true
unfolding is_char_boundary
end_between text = rw (le-leb (length text) (length text) (omega arith), get_or-eq_default text 0 {n = length text} (omega arith))

module _ (text : Bytes) (words : List ℕ) (m : Marks) (h : Here) (r : Element) (good : Good text words) (is : RestMade text words m h r) (here : HereIs text h (prev_of m)) where
  rest_place : place_of r.place ≡ place_at text (prev_of m)
  rest_place = is.place ∙ ap (λ (p : Place). line_col p (part text h.at (prev_of m))) here.place ∙ line_col_from text h.at (prev_of m) (omega (arith, good.short)) here.before

  rest_good : RawGood text words (rest_text text words m)
  unfolding escapes_to bad_escapes
  rest_good =
      record {
        order = here.inside;
        inside = omega arith;
        starts = here.between;
        ends = end_between text;
        escapes = rw (escapes_end words (span_count words) (omega arith));
      }

  rest_made : Made text words role.leaf r
  rest_made =
      let x : Element = new_element (E.RawString (rest_text text words m)) r.place in
      let y : Is text words role.leaf (some (place_of r.place)) x = record { role = refl; place = line_some text (prev_of m) r.place rest_place; sound = rest_good } in
      record {
        new = is.new ∙ ap (λ (e : Element). named_element e.element e.name r.place) (sym is.new);
        is = subst (λ (e : Element). Is text words role.leaf (some (place_of r.place)) e) (sym is.new) y;
      }

  rest_means_lem : leaf_means text words r ≡ item (place_at text (prev_of m)) (T.text (drop (prev_of m) text))
  unfolding item_means raw_means escapes_to unescaped
  rest_means_lem =
      let n = prev_of m in
      let b : raw_means text words (rest_text text words m) ≡ drop n text =
      rw (escapes_end words (span_count words) (omega arith)) (take_all (length text - n) (drop n text) (omega (arith, length-drop n text))) in
      let a : item_means text words r.element ≡ T.text (drop n text) = ap (λ (e : Element). item_means text words e.element) is.new ∙ ap T.text b in
      ap (λ (p : Place). item p (item_means text words r.element)) rest_place ∙ ap (item (place_at text n)) a

-- as the code makes it
pub rest_is : (text : Bytes) (words : List ℕ) (m : Marks) (h : Here) (r : Element) (p : code.Place) (n k : ℕ) (b : Bytes) → n ≡ prev_of m → n < length text → k ≡ span_count words
    → r ≡ new_element (E.RawString (record { start = n; end = length text; escapes = k; front = Front.Kept; back = Back.Kept })) p
    → place_of p ≡ line_col (place_of h.place) b → b ≡ part text h.at n → RestIs text words m h (Some r)
rest_is text words m h r p n k b d l a e f g =
    let q : r.place ≡ p = ap (λ (v : Element). v.place) e in
    let same : record { start = n; end = length text; escapes = k; front = Front.Kept; back = Back.Kept } ≡ rest_text text words m = cc (a, d) in
    record {
      means = record {
        left = omega (arith, l, d);
        new = e ∙ ap (λ (i : RawString). new_element (E.RawString i) p) same ∙ ap (new_element (E.RawString (rest_text text words m))) (sym q);
        place = ap place_of q ∙ f ∙ ap (line_col (place_of h.place)) (g ∙ ap (part text h.at) d);
      };
    }

-- ---- it joins the root's body

module _ (text : Bytes) (words : List ℕ) where
  -- the root's elements, with the last first, lie in the store before `len`
  pub record RootIs (st : List Element) (x : Frame) (len : ℕ) (es : List Elem) : Type 0 where
    pub pos : 1 ≤ len
    pub few : len < length st
    pub chain : Chain text words st 0 x.first x.last 1 len (nest_body (body_of es))

  -- the root's elements with the text that is left
  abbrev pub rest_of : Marks → List Elem → List Elem
  rest_of m es = if (ltb (prev_of m) (length text)) (item (place_at text (prev_of m)) (T.text (drop (prev_of m) text)) ∷ es) es

  -- the end of the list: some elements lie there, the place found last is not behind the previous end, and the answer lists them
  pub record Ended (o : Options) (st : List Element) (x : Frame) (len : ℕ) (m : Marks) (h : Here) : Type 0 where
    pub elems : List Elem
    pub root : RootIs st x len elems
    pub here : HereIs text h (prev_of m)
    pub answer : walk_listing text words o ≡ accepted (listing (body_of (rest_of m elems)))

module _ (text : Bytes) (words : List ℕ) (st : List Element) (x : Frame) (len : ℕ) (es : List Elem) (is : RootIs text words st x len es) where
  -- the elements with the one that may be added
  abbrev with_gap : Option Element → List Elem
  with_gap (Some e) = leaf_means text words e ∷ es
  with_gap None = es

  module _ (r : Option Element) (made : GapMade text words r) (g : Gapped) (eg : g ≡ gapped_of r len) (z : ℕ) (ez : z ≡ x.last)
      (y : Joined) (ey : y ≡ joined_of x (element_at (set st len g.made) z) g.join) where
    root_joined : Holds text words (set (set st len g.made) z y.last) y.top.first (tree_of (with_gap r))
    unfolding gapped_of joined_of
    root_joined = rw (ey, eg, ez) (by_kept r made)
      where
        G : Option Element → Gapped
        G k = gapped_of k len

        Y : Option Element → Joined
        Y k = joined_of x (element_at (set st len (G k).made) x.last) (G k).join

        long : (v w : Element) → length (set (set st len v) x.last w) ≡ length st
        long v w = length-set (set st len v) x.last w ∙ length-set st len v

        low : x.last < len
        low = ends_below text words st (tree_of es) x.first x.last 1 len is.pos is.chain

        near : (v : Element) → Chain text words (set st len v) 0 x.first x.last 1 len (tree_of es)
        near v = frame text words st (set st len v) (tree_of es) 0 x.first x.last 1 len (λ i a b. at_other st len i v (λ q. omega (arith, q, b))) is.chain

        Goal : Element → Joined → Type 0
        Goal e v = Holds text words (set (set st len e) x.last v.last) v.top.first (tree_of (leaf_means text words e ∷ es))

        held : (e w : Element) (first' : ℕ) → Made text words role.leaf e → Linked text words (set st len e) (set (set st len e) x.last w) x.first first' x.last len
            → Holds text words (set (set st len e) x.last w) first' (tree_of (leaf_means text words e ∷ es))
        held e w first' m j =
            let solo = made_leaf text words (set st len e) len e (at_same st len e is.few) m in
            let c = join_open text words (set st len e) (nest_elem (leaf_means text words e)) x.first x.last 1 len (len + 1) (omega (arith, length-set st len e, is.few)) (omega arith) is.pos solo (tree_of es)
            (set (set st len e) x.last w) first' (near e) j in
            record {
              last = len;
              len = len + 1;
              few = omega (arith, is.few, long e w);
              chain = subst (λ (b : T.Body). Chain text words (set (set st len e) x.last w) 0 first' len 1 (len + 1) b) (sym (tree_add (leaf_means text words e) es)) c.0;
            }

        none : len ≡ 0 → ⊥
        none q = omega (arith, q, is.pos)

        put : (e : Element) (v : Joined) → Y (Some e) ≡ v → Goal e v → Goal e (Y (Some e))
        put e v q h = subst (Goal e) (sym q) h

        by_last : (e : Element) (b : Bool) → eqb x.last 0 ≡ b → Made text words role.leaf e → Goal e (Y (Some e))
        by_last e true q m =
            put e (record { top = filled x len len; last = element_at (set st len e) x.last }) (rw (ne_eqb len 0 none, q))
            (held e (element_at (set st len e) x.last) len m (inl (eqb-true x.last 0 q, refl, set-get_or (set st len e) x.last empty_element)))
        by_last e false q m =
            put e (record { top = filled x x.first len; last = followed_by (element_at (set st len e) x.last) len }) (rw (ne_eqb len 0 none, q))
            (held e (followed_by (element_at (set st len e) x.last) len) x.first m (inr (eqb-false x.last 0 q, refl, refl)))

        by_kept : (k : Option Element) → GapMade text words k → Holds text words (set (set st len (G k).made) x.last (Y k).last) (Y k).top.first (tree_of (with_gap k))
        by_kept (Some e) m = by_last e (eqb x.last 0) refl m
        by_kept None m =
            let s : set (set st len empty_element) x.last (element_at (set st len empty_element) x.last) ≡ set st len empty_element = set-get_or (set st len empty_element) x.last empty_element in
            rw s (record { last = x.last; len = len; few = omega (arith, is.few, length-set st len empty_element); chain = near empty_element })

-- ---- the listing of the whole

-- at the end of the list the element of the text that is left was made
pub record Rested (text : Bytes) (words : List ℕ) (o : Options) (st : List Element) (x : Frame) (len : ℕ) (m : Marks) (h : Here) (r : Option Element) (g : Gapped) : Type 0 where
  pub good : Good text words
  pub end : Ended text words o st x len m h
  pub is : RestIs text words m h r
  pub gap : g ≡ gapped_of r len

-- and joined the root's body
module _ {text : Bytes} {words : List ℕ} {o : Options} {st : List Element} {x : Frame} {len : ℕ} {m : Marks} {h : Here} {r : Option Element} {g : Gapped} (e : Rested text words o st x len m h r g)
    {st' : List Element} {y : Frame} (j : JoinedIs (set st len g.made) x g.join st' y) where
  -- it was made, or no text is left
  rest_kept : (r : Option Element) → RestMeans text words m h r → GapMade text words r
  rest_kept (Some i) q = rest_made text words m h i e.good q e.end.here
  rest_kept None q = tt

  rest_joined : (r : Option Element) → RestMeans text words m h r → with_gap text words st x len e.end.elems e.end.root r ≡ rest_of text words m e.end.elems
  rest_joined (Some i) q = rw (lt-ltb (prev_of m) (length text) q.left) (ap (λ (k : Elem). k ∷ e.end.elems) (rest_means_lem text words m h i e.good q e.end.here))
  rest_joined None q = rw (le-ltb (prev_of m) (length text) q)

  ended_holds : Holds text words st' y.first (tree_of (rest_of text words m e.end.elems))
  ended_holds =
      rw (j.store, j.top, ← rest_joined r e.is.means)
      (root_joined text words st x len e.end.elems e.end.root r (rest_kept r e.is.means) g e.gap x.last refl _ refl)

  pub ended_stored : Stored text words st' y.first
  ended_stored = record { body = _; holds = ended_holds }

  -- where the tree is listed
  pub ended_answer : {l k : Bytes} {q : ℕ} → TreeIs text words st' y.first l k q → BufferedIs (walk_listing text words o) l k (Ok q)
  unfolding listing
  ended_answer {l} {k} {q} t =
      let v : Written (listing (body_of (rest_of text words m e.end.elems))) l 0 k q = t.lists _ ended_holds in
      record { means = record { bytes = _; answer = e.end.answer; count = omega (arith, v.next); stored = v.stored } }
