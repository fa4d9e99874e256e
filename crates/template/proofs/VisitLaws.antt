-- What each kind of span without an expression does: the specification's step, unfolded, is the code's step applied. Over plain values.
use Prim.Native.Nat.{ℕ, ◌+◌, ◌≤◌}
use native.Mathlib.Omega.{arith}
use mathlib.Core.Path.{◌≡◌, refl, sym, ap, subst, ◌∙◌}
use mathlib.Core.List.{List}
use mathlib.Core.Bool.{Bool, true, false, ◌&&◌, ◌||◌, not}
use mathlib.Core.Option.{Option, none, some}
use lib.Dec.{eqb}
use borrow.Author.Tests.{eqb-true, eqb-false}
use Rattle.std.specs.Prelude.{Some, None, Ok, Err}
use Rattle.std.specs.declared.option.Option as rattle
use Rattle.support.specs.Bytes.{Bytes, if}
use Rattle.support.specs.Utf8.{is_char_boundary}
use Rattle.support.specs.TextRules.{trim_end_blanks, comment_compact_text, comment_text}
use Rattle.support.specs.Position.{place_at, place_of}
use Rattle.support.specs.declared.position.Place as code
use Rattle.json_path.specs.Span.{Span, spans_from, own}
use Rattle.listing.specs.Tree as T
use Rattle.listing.specs.Reading.{item}
use Rattle.template.specs.Kind as K
use Rattle.template.specs.Kind.{Plain, plain, kind_of}
use Rattle.template.specs.State as S
use Rattle.template.specs.State.{Level, State, state, prev_end, with_top, with_end_pos, with_trim_line, add_to, trim_last}
use Rattle.template.specs.Result.{accepted, refused}
use Rattle.template.specs.Nests.{is_filling, plain_nests, nests}
use Rattle.template.specs.Escapes.{text_start, own_escapes, bad_escapes, faulty_escape, unescaped}
use Rattle.template.specs.Step.{trim_front, after_gap, take_gap, process_standalone, standalone, raw_string, add_item, add_comment, plain_step}
use Rattle.template.specs.Walk.{walk_plain, walk_kind}
use Rattle.template.specs.Element.{raw_means, item_means, leaf, role_of, Sound, no_name, new_element}
use Rattle.template.specs.Visit.{stage_means, prev_of, with_marks, MarksAre, HereIs, leaf_means, gap_effect, applied, Made, GapMade}
use Rattle.template.specs.Visiting.{Visited, KindIs, gap_element, text_element, text_step, raw_front, trim_of}
use Rattle.template.specs.declared.element.Back.{Back}
use Rattle.template.specs.declared.element.RawString.{RawString}
use Rattle.template.specs.declared.element.TemplateElement.TheVariants as E
use Rattle.template.specs.declared.element.Element.{Element}
use Rattle.template.specs.declared.frame.Stage.{Stage}
use Rattle.template.specs.declared.frame.Stage.TheVariants as G
use Rattle.template.specs.declared.frame.Marks.{Marks}
use Rattle.template.specs.declared.visit.Options.{Options}
use Rattle.template.specs.declared.visit.Here.{Here}
use Rattle.template.specs.declared.visit.View.{View}
use Rattle.template.specs.declared.visit.Act.TheVariants as A
use Rattle.template.specs.declared.visit.Added.TheVariants as N
use Rattle.template.specs.declared.visit.Step.{Step}
use Rattle.template.specs.declared.refusal.Reason.TheVariants as R
use Rattle.template.proofs.LastText.{trim_kept, trims}
use Rattle.template.proofs.GapLaws.{and_yes, place_some, made, front_raw, state_as, gap_made_lem, taken, gap_outer}

-- the marks behind a span that ends at e
abbrev pub marks_behind : Stage → ℕ → Bool → Bool → Marks
marks_behind g e w l = record { stage = g; end_pos = Some e; omit_pro_ws = w; trim_line_required = l }

-- a text's step, from its element
pub text_step_of : (v : View) (s : Span) (here : Here) (start : ℕ) (g : Stage) (l : Bool) {e : Element} → e ≡ text_element v s start here.place
    → record { gap = None; back = Back.Kept; act = A.Add e N.Leaf; marks = marks_behind g s.end v.marks.omit_pro_ws l; here = here; next = s.number + 1 } ≡ text_step v s here start g l
text_step_of v s here start g l e = rw e

-- ---- what every step has

module _ {text : Bytes} {v : View} {s : Span} {gap : Bool} {here : Here} {st : State} (h : Visited text v s gap here st) where
  -- the place of a span that becomes the previous one
  pub placed : HereIs text here s.end
  placed = record {
    place = h.place ∙ ap (place_at text) (sym h.at);
    before = omega (arith, h.at, h.fits.order);
    inside = h.fits.inside;
    between = h.fits.ends;
  }

-- a body that takes elements
pub filling : (g : S.Stage) → is_filling g ≡ true → g ≡ S.filling
filling S.waiting e = let z : ◌≡◌ {A = ℕ} 0 1 = cc in absurd (omega arith)
filling S.filling e = refl
filling S.full e = let z : ◌≡◌ {A = ℕ} 0 1 = cc in absurd (omega arith)

-- and one that waits does not
pub none_waits : {g : S.Stage} {P : Type 0} → g ≡ S.waiting → is_filling g ≡ true → P
none_waits e f = let z : ◌≡◌ {A = ℕ} 0 1 = (let y = ap is_filling (sym e) ∙ f in cc) in absurd (omega (arith, z))

-- before a skipped span such a body takes no gap
skipped_gapless : (gap : Bool) (st : State) → plain_nests K.skipped gap st ≡ true → st.stage ≡ S.waiting → gap ≡ false
unfolding plain_nests
skipped_gapless true st n w = none_waits w (or_no (is_filling st.stage) n)
  where
    or_no : (a : Bool) → (a || false) ≡ true → a ≡ true
    or_no true e = refl
    or_no false e = e
skipped_gapless false st n w = refl

-- a gap that is not kept is none
no_gap : (words : List ℕ) (m : Marks) (s : Span) (p : code.Place) {x : rattle.Option Element} (gap : Bool) → x ≡ gap_element words m s p gap → gap ≡ false → x ≡ None
no_gap words m s p gap e f = rw (e, f)

-- the standalone test's answer, in a state
pub processed : (alone cut : Bool) (g : S.Stage) (t : Level) (u : List Level) (e : Option ℕ) (w l : Bool)
    → process_standalone alone cut (state g t u e w l) ≡ state g (if (alone && cut) (trim_last trim_end_blanks t) t) u e w alone
unfolding process_standalone
processed alone cut g t u e w l = go (alone && cut)
  where
    go : (b : Bool) → with_trim_line alone (if b (with_top (trim_last trim_end_blanks t) (state g t u e w l)) (state g t u e w l)) ≡ state g (if b (trim_last trim_end_blanks t) t) u e w alone
    go true = refl
    go false = refl

module _ (text : Bytes) (words : List ℕ) (o : Options) (v : View) (s : Span) (here : Here) where
  abbrev m : Marks
  m = v.marks

  -- no escape is asked for, and the step is made
  module _ (k : Plain) (e : kind_of s.tag ≡ plain k) where
    plain_makes : (st : State) {st' : State} → faulty_escape text words k st s ≡ false → plain_step text words o.is_partial k st s ≡ st'
        → walk_kind text words o.prevent_indent o.is_partial (kind_of s.tag) st s (spans_from words (s.number + 1)) ≡ accepted (st', spans_from words (s.number + 1))
    unfolding walk_plain
    plain_makes st f g = rw (e, f) (ap (λ z. accepted (z, spans_from words (s.number + 1))) g)

    plain_refused : (st : State) → faulty_escape text words k st s ≡ true
        → walk_kind text words o.prevent_indent o.is_partial (kind_of s.tag) st s (spans_from words (s.number + 1)) ≡ refused 13 s.number
    unfolding walk_plain
    plain_refused st f = rw (e, f)

  -- ---- tag 1

  pub template_step : (gap : Bool) → s.tag ≡ 1
      → KindIs text words o v s gap here (Ok (record {
        gap = None;
        back = Back.Kept;
        act = A.Skip;
        marks = record { stage = G.Filling; end_pos = m.end_pos; omit_pro_ws = m.omit_pro_ws; trim_line_required = m.trim_line_required };
        here = v.here;
        next = s.number + 1;
      }))
  unfolding K.kinds plain_step applied with_marks
  template_step gap e = record {
    means = λ st h.
        let t = h.tells in
        let a = t.marks in
        record {
          makes = plain_makes K.template (ap kind_of e) st refl (state_as refl (sym (trim_kept st.top)) refl (sym a.end_pos) (sym a.omit_pro_ws) (sym a.trim_line));
          gap = tt;
          act = tt;
          gapless = λ w r. refl;
          here = subst (λ n. HereIs text v.here n) (sym a.previous) t.here;
          previous = a.previous ∙ ap (λ z. elim z [ none ↦ 0 | some n ↦ n ]) (sym a.end_pos);
          onward = omega arith;
        };
  }

  -- ---- skipped

  module _ (g : Stage) (gap : Bool) {l : Bool} {x : rattle.Option Element} (new : x ≡ gap_element words m s here.place gap)
      (i : stage_means g ≡ if gap (after_gap (stage_means m.stage)) (stage_means m.stage)) (j : l ≡ (m.trim_line_required && not gap)) where
    pub behind : {st : State} → Visited text v s gap here st → take_gap text s st ≡ state (stage_means g) (gap_effect text words x st).top st.outer st.end_pos st.omit_pro_ws l
    behind h = taken text words s h.tells.marks h.place g gap new h.kept i j

    pub made_gap : {st : State} → Visited text v s gap here st → GapMade text words x
    made_gap h = gap_made_lem text words s h.tells.marks h.place gap new h.fits h.tells.here h.early

    pub skipped_step : kind_of s.tag ≡ plain K.skipped
        → KindIs text words o v s gap here (Ok (record {
          gap = x;
          back = Back.Kept;
          act = A.Skip;
          marks = marks_behind g s.end m.omit_pro_ws l;
          here = here;
          next = s.number + 1;
        }))
    unfolding plain_step applied with_marks
    skipped_step e = record {
      means = λ st h. record {
        makes = plain_makes K.skipped e st refl (ap (with_end_pos s.end) (behind h)
            ∙ state_as refl (sym (trim_kept (gap_effect text words x st).top)) (sym (gap_outer text words x st)) refl (sym h.tells.marks.omit_pro_ws) refl);
        gap = made_gap h;
        act = tt;
        gapless = λ w r. no_gap words m s here.place gap new (skipped_gapless gap st (subst (λ k. nests k gap st ≡ true) e h.nested) w);
        here = placed h;
        previous = refl;
        onward = omega arith;
      };
    }

    -- ---- comments

    module _ {alone : Bool} (a : alone ≡ standalone text o.is_partial s) (y : Element) where
      abbrev comment_step : Step
      comment_step = record { gap = x; back = trim_of false alone; act = A.Add y N.Leaf; marks = marks_behind g s.end m.omit_pro_ws alone; here = here; next = s.number + 1 }

      comment_as : (t : Bytes) {st : State} → Visited text v s gap here st → leaf_means text words y ≡ item (place_at text s.start) (T.comment t)
          → with_end_pos s.end (add_comment text o.is_partial t st s) ≡ applied text words comment_step st
      unfolding add_comment applied with_marks
      comment_as t {st} h q =
          let t₁ = (gap_effect text words x st).top in
          ap (λ z. with_end_pos s.end (add_item text s (T.comment t) (process_standalone (standalone text o.is_partial s) true z))) (behind h)
          ∙ ap (λ z. with_end_pos s.end (add_item text s (T.comment t) z)) (processed (standalone text o.is_partial s) true (stage_means g) t₁ st.outer st.end_pos st.omit_pro_ws l)
          ∙ state_as refl
          (ap (λ z. add_to z (if (standalone text o.is_partial s && true) (trim_last trim_end_blanks t₁) t₁)) (sym q)
          ∙ ap (λ z. add_to (leaf_means text words y) (if z (trim_last trim_end_blanks t₁) t₁)) (and_yes (standalone text o.is_partial s) ∙ sym a)
          ∙ ap (add_to (leaf_means text words y)) (trims false alone t₁))
          (sym (gap_outer text words x st)) refl (sym h.tells.marks.omit_pro_ws) (sym a)

      comment_is : (k : Plain) (t : Bytes) → kind_of s.tag ≡ plain k → ((st : State) → plain_nests k gap st ≡ is_filling st.stage) → ((st : State) → faulty_escape text words k st s ≡ false)
          → ((st : State) → plain_step text words o.is_partial k st s ≡ with_end_pos s.end (add_comment text o.is_partial t st s))
          → item_means text words y.element ≡ T.comment t → y ≡ new_element y.element here.place → role_of y.element ≡ leaf → Sound text words y.name y.element
          → KindIs text words o v s gap here (Ok comment_step)
      unfolding with_marks
      comment_is k t e i f p q n r u = record {
        means = λ st h.
            let w : y.place ≡ here.place = ap (λ z. z.place) n in
            let a : y.name ≡ no_name = ap (λ z. z.name) n in
            record {
              makes = plain_makes k e st (f st) (p st ∙ comment_as t h (cc (h.place, q, w)));
              gap = made_gap h;
              act = record { new = n ∙ cc (w, a); is = record { role = r; place = place_some text s.start (cc (w, h.place)); sound = u } };
              gapless = λ a b. none_waits a (sym (i st) ∙ subst (λ c. nests c gap st ≡ true) e h.nested);
              here = placed h;
              previous = refl;
              onward = omega arith;
            };
      }

      pub comment_step_lem : (compact : Bool) {b : Back} → b ≡ trim_of false alone → 19 ≤ s.tag → s.tag ≤ 20 → compact ≡ eqb s.tag 19
          → y ≡ new_element (E.Comment (record { start = s.start; end = s.end; compact = compact })) here.place
          → KindIs text words o v s gap here (Ok (record { gap = x; back = b; act = A.Add y N.Leaf; marks = marks_behind g s.end m.omit_pro_ws alone; here = here; next = s.number + 1 }))
      unfolding K.kinds plain_nests plain_step item_means
      comment_step_lem compact d lo hi c n =
          subst (λ z. KindIs text words o v s gap here (Ok (record { gap = x; back = z; act = A.Add y N.Leaf; marks = marks_behind g s.end m.omit_pro_ws alone; here = here; next = s.number + 1 }))) (sym d)
          (go (eqb s.tag 19) refl)
        where
          element : y.element ≡ E.Comment (record { start = s.start; end = s.end; compact = compact })
          element = ap (λ z. z.element) n

          as_new : y ≡ new_element y.element here.place
          as_new = n ∙ ap (λ z. new_element z here.place) (sym element)

          go : (b : Bool) → eqb s.tag 19 ≡ b → KindIs text words o v s gap here (Ok comment_step)
          go true e = comment_is K.comment_compact (comment_compact_text (own text s)) (ap kind_of (eqb-true s.tag 19 e)) (λ st. refl) (λ st. refl) (λ st. refl)
              (rw (element, c, e)) as_new (ap role_of element) (subst (λ z. Sound text words y.name z) (sym element) tt)
          go false e =
              let n = eqb-false s.tag 19 e in
              let t : s.tag ≡ 20 = omega arith in
              comment_is K.comment (comment_text (own text s)) (ap kind_of t) (λ st. refl) (λ st. refl) (λ st. refl)
              (rw (element, c, e)) as_new (ap role_of element) (subst (λ z. Sound text words y.name z) (sym element) tt)

  -- ---- texts

  module _ (start : ℕ) where
    abbrev raw : RawString
    raw = record { start = start; end = s.end; escapes = s.number + 1; front = raw_front m; back = Back.Kept }

    abbrev y : Element
    y = text_element v s start here.place

    raw_means_lem : {st : State} → MarksAre m st → raw_means text words raw ≡ trim_front st (unescaped text start s.end (own_escapes words s))
    unfolding raw_means
    raw_means_lem h = front_raw h (unescaped text start s.end (own_escapes words s))

    text_leaf : (k : Plain) {st : State} → place_of here.place ≡ place_at text s.start → MarksAre m st → start ≡ text_start k st s
        → leaf_means text words y ≡ item (place_at text s.start) (T.text (raw_string text words k st s))
    unfolding item_means raw_string
    text_leaf k {st} q h e = cc (q, raw_means_lem h, e)

    text_made : {st : State} {gap : Bool} → Visited text v s gap here st → start ≤ s.end → is_char_boundary text start ≡ true
        → bad_escapes text start (own_escapes words s) ≡ false → Made text words leaf y
    text_made h a b c = made text words (E.RawString raw) no_name here.place (place_some text s.start h.place)
        (record { order = a; inside = h.fits.inside; starts = b; ends = h.fits.ends; escapes = c })

    pub text_step_lem : {gap : Bool} → s.tag ≡ 2 → start ≡ prev_of m → bad_escapes text start (own_escapes words s) ≡ false
        → KindIs text words o v s gap here (Ok (text_step v s here start G.Filling false))
    unfolding K.kinds plain_nests plain_step applied with_marks
    text_step_lem {gap} e b c = record {
      means = λ st h.
          let n : start ≡ prev_end st = b ∙ h.tells.marks.previous in
          let g : st.stage ≡ S.filling = filling st.stage (subst (λ t. nests (kind_of t) gap st ≡ true) e h.nested) in
          record {
            makes = plain_makes K.raw_text (ap kind_of e) st (ap (λ z. bad_escapes text z (own_escapes words s)) (sym n) ∙ c)
                (state_as g (ap (λ z. add_to z st.top) (sym (text_leaf K.raw_text h.place h.tells.marks n)) ∙ ap (add_to (leaf_means text words y)) (sym (trim_kept st.top))) refl refl (sym h.tells.marks.omit_pro_ws) refl);
            gap = tt;
            act = text_made h (omega (arith, h.early, h.fits.order)) (ap (is_char_boundary text) n ∙ h.tells.here.between) c;
            gapless = λ w r. refl;
            here = placed h;
            previous = refl;
            onward = omega arith;
          };
    }

    pub raw_step : {gap : Bool} → s.tag ≡ 3 → start ≡ s.start → bad_escapes text start (own_escapes words s) ≡ false
        → KindIs text words o v s gap here (Ok (text_step v s here start G.Full m.trim_line_required))
    unfolding K.kinds plain_step applied with_marks
    raw_step {gap} e b c = record {
      means = λ st h. record {
        makes = plain_makes K.raw_block_text (ap kind_of e) st (ap (λ z. bad_escapes text z (own_escapes words s)) (sym b) ∙ c)
            (state_as refl (ap (λ z. add_to z st.top) (sym (text_leaf K.raw_block_text h.place h.tells.marks b)) ∙ ap (add_to (leaf_means text words y)) (sym (trim_kept st.top))) refl refl (sym h.tells.marks.omit_pro_ws) (sym h.tells.marks.trim_line));
        gap = tt;
        act = text_made h (omega (arith, b, h.fits.order)) (ap (is_char_boundary text) b ∙ h.fits.starts) c;
        gapless = λ w r. refl;
        here = placed h;
        previous = refl;
        onward = omega arith;
      };
    }

  -- a bad escape
  pub text_bad : {gap : Bool} (start : ℕ) → s.tag ≡ 2 → start ≡ prev_of m → bad_escapes text start (own_escapes words s) ≡ true
      → KindIs text words o v s gap here (Err (record { reason = R.BadEscape; place = s.number }))
  unfolding K.kinds
  text_bad start e b c = record {
    means = λ st h. plain_refused K.raw_text (ap kind_of e) st (ap (λ z. bad_escapes text z (own_escapes words s)) (sym (b ∙ h.tells.marks.previous)) ∙ c);
  }

  pub raw_bad : {gap : Bool} (start : ℕ) → s.tag ≡ 3 → start ≡ s.start → bad_escapes text start (own_escapes words s) ≡ true
      → KindIs text words o v s gap here (Err (record { reason = R.BadEscape; place = s.number }))
  unfolding K.kinds
  raw_bad start e b c = record { means = λ st h. plain_refused K.raw_block_text (ap kind_of e) st (ap (λ z. bad_escapes text z (own_escapes words s)) (sym b) ∙ c) }
