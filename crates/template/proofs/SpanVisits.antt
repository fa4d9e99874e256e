-- The visit of a walked span: 6 and 7, then what its kind decides; of a tag 8 to 12, then its step. Each way out of the code is one law here.
use Rattle.std.specs.Prelude as std
use Prim.Native.Nat.{ℕ, zero, suc, ◌+◌, ◌≤◌, ◌<◌}
use native.Mathlib.Omega.{arith}
use mathlib.Core.Path.{◌≡◌, refl, sym, ap, subst, ◌∙◌}
use mathlib.Core.List.{List, [], ◌∷◌}
use mathlib.Core.Bool.{Bool, true, false, not}
use mathlib.Core.Option.{none}
use lib.Dec.{ltb}
use lib.ListN.{length}
use borrow.Author.Tests.{lt-ltb, le-ltb, ltb-false, not-false}
use Rattle.std.specs.Prelude.{Option, Some, None, is_some, Result, Ok, Err}
use Rattle.support.specs.Bytes.{Bytes, if, part}
use Rattle.support.specs.Utf8.{is_char_boundary}
use Rattle.support.specs.Position.{line_col}
use Rattle.support.proofs.Places.{line_col_from}
use Rattle.json_path.specs.Span.{Span, span_count, span_at, spans_from, all_from}
use Rattle.json_path.specs.Answers.{Walked}
use Rattle.json_path.proofs.Spans.{all_next}
use Rattle.expression.specs.Read.{fault_number}
use Rattle.expression.specs.Answers.{fault_means, NamesIs}
use Rattle.expression.specs.declared.parameter.Fault.{Fault}
use Rattle.json_path.specs.declared.path.Name.{Name}
use Rattle.template.specs.Kind.{Tag, tagged, kind_of}
use Rattle.template.specs.State.{State, prev_end}
use Rattle.template.specs.Result as spec
use Rattle.template.specs.Result.{accepted, refused, and_then, refuse_if}
use Rattle.template.specs.Checks.{bad_span, first_bad}
use Rattle.template.specs.Nests.{kept_gap, nests, starts_early}
use Rattle.template.specs.Refusal.{fault_place, too_many_open, helper_name_differs, decorator_name_differs}
use Rattle.template.specs.TagExpression.{read_tag}
use Rattle.template.specs.Walk.{walk_tag, walk_kind, walk_span, walk}
use Rattle.template.specs.Element.{Good}
use Rattle.template.specs.Numbers.{reason_number}
use Rattle.template.specs.Asked.{KeptIs, NestsIs, TooManyIs, HelperDiffersIs, DecoratorDiffersIs}
use Rattle.template.specs.TagRead.{tag_means, TagDone, TagReadIs}
use Rattle.template.specs.Visit.{some_step, prev_of, Tells, StepIs, VisitIs}
use Rattle.template.specs.Visiting.{SpanFits, Visited, Makes, KindIs, TagMakes, refusal_of, RefusalIs, AdvanceIs}
use Rattle.template.specs.declared.tag.TagExpression.{TagExpression}
use Rattle.template.specs.declared.refusal.Reason.{Reason}
use Rattle.template.specs.declared.refusal.Reason.TheVariants as R
use Rattle.template.specs.declared.refusal.Refusal.{Refusal}
use Rattle.template.specs.declared.visit.Options.{Options}
use Rattle.template.specs.declared.visit.Here.{Here}
use Rattle.template.specs.declared.visit.View.{View}
use Rattle.template.specs.declared.visit.Step.{Step}
use Rattle.template.proofs.TagKinds.{some_tag}
use Rattle.template.proofs.TagSteps.{tag_gapless}
use Rattle.template.proofs.WalkEquations.{walk_next, walk_stop}
use Rattle.template.proofs.RawEscapes.{or_false_left, or_false_right}

-- ---- 5 holds of no span

fits_of : (text : Bytes) (s : Span) → bad_span text s ≡ false → SpanFits text s
unfolding bad_span
fits_of text s e =
    let a = or_false_right (ltb 40 s.tag) _ e in
    let b = or_false_right (ltb s.end s.start) _ a in
    let c = or_false_right (ltb (length text) s.end) _ b in
    record {
      order = ltb-false s.end s.start (or_false_left (ltb s.end s.start) _ a);
      inside = ltb-false (length text) s.end (or_false_left (ltb (length text) s.end) _ b);
      starts = not-false (is_char_boundary text s.start) (or_false_left (not (is_char_boundary text s.start)) _ c);
      ends = not-false (is_char_boundary text s.end) (or_false_right (not (is_char_boundary text s.start)) _ c);
    }

-- the next one is not bad, and none is behind it
next_good : (text : Bytes) (words : List ℕ) (j : ℕ) → j < span_count words → first_bad text (all_from words j) ≡ none
    → (bad_span text (span_at words j) ≡ false) × (first_bad text (all_from words (j + 1)) ≡ none)
unfolding first_bad
next_good text words j h e = go (bad_span text (span_at words j)) refl (ap (first_bad text) (sym (all_next words j h)) ∙ e)
  where
    go : (b : Bool) → bad_span text (span_at words j) ≡ b → first_bad text (span_at words j ∷ all_from words (j + 1)) ≡ none
        → (bad_span text (span_at words j) ≡ false) × (first_bad text (all_from words (j + 1)) ≡ none)
    go true f e = let z = (rw (f, first_bad) at e) in let y : ◌≡◌ {A = ℕ} 0 1 = cc in absurd (omega arith)
    go false f e = (f, rw (f, first_bad) at e)

none_bad : (text : Bytes) (words : List ℕ) (n j : ℕ) → j + n < span_count words → first_bad text (all_from words j) ≡ none → bad_span text (span_at words (j + n)) ≡ false
none_bad text words zero j h e =
    let z : j + 0 ≡ j = omega arith in
    ap (λ i. bad_span text (span_at words i)) z ∙ (next_good text words j (omega arith) e).0
none_bad text words (suc n) j h e =
    let z : j + 1 + n ≡ j + suc n = omega arith in
    ap (λ i. bad_span text (span_at words i)) (sym z) ∙ none_bad text words n (j + 1) (omega arith) (next_good text words j (omega arith) e).1

pub walked_fits : {text : Bytes} {words : List ℕ} {k : ℕ} {s : Span} → Good text words → Walked words k s → SpanFits text s
walked_fits {text} {words} {k} {s} g w =
    let e : 0 + s.number ≡ s.number = omega arith in
    subst (λ z. SpanFits text z) (sym w.stands) (fits_of text (span_at words s.number) (ap (λ i. bad_span text (span_at words i)) (sym e) ∙ none_bad text words s.number 0 (omega (arith, w.inside)) g.spans))

-- ---- a tag

is_none : {A : Type 0} {o : Option A} → is_some o ≡ false → o ≡ None
is_none {o = Some a} e = let z : ◌≡◌ {A = ℕ} 0 1 = cc in absurd (omega (arith, z))
is_none {o = None} e = refl

module _ (text : Bytes) (words : List ℕ) (o : Options) (v : View) (s : Span) (gap : Bool) (here : Here) (lo : 5 ≤ s.tag) (hi : s.tag ≤ 18) where
  abbrev the : (k : Tag) × (kind_of s.tag ≡ tagged k)
  the = some_tag s.tag lo hi

  abbrev Is : Result Step Refusal → Type 0
  Is r = KindIs text words o v s gap here r

  pub tag_failed : {f : Fault} {c p : ℕ} {n : Reason} → TagReadIs text words s (Err f) → c ≡ span_count words → reason_number n ≡ fault_number (fault_means f) → p ≡ fault_place c s (fault_means f)
      → Is (Err (record { reason = n; place = p }))
  unfolding walk_tag
  tag_failed h c n p = record { means = λ st u. rw (the.1, h.means the.0 the.1) (cc (c, n, p)) }

  module _ {x : TagExpression} (h : TagReadIs text words s (Ok x)) where
    reads : TagDone text words (read_tag text the.0 s (spans_from words (s.number + 1))) s.end (s.number + 1) x
    reads = h.means the.0 the.1

    module _ {end : std.Option Name} (named : NamesIs x.name end) {n : Option Reason} (asked : RefusalIs text s.tag v.count v.name end n) where
      asked_as : {st : State} → Visited text v s gap here st → n ≡ refusal_of the.0 st (tag_means text words s.end x)
      asked_as {st} u = asked.means the.0 st (tag_means text words s.end x) the.1 u.tells.count (record { opens = u.tells.name; closes = named.means text words ∙ reads.name })

      -- what is asked of a tag that has read its expression
      walks_tag : (st : State) (r : Reason) → Some r ≡ refusal_of the.0 st (tag_means text words s.end x)
          → walk_kind text words o.prevent_indent o.is_partial (kind_of s.tag) st s (spans_from words (s.number + 1)) ≡ refused (reason_number r) s.number
      unfolding walk_tag
      walks_tag st r e = rw (the.1, reads.reads) (go (too_many_open the.0 st) (helper_name_differs the.0 st (tag_means text words s.end x)) (decorator_name_differs the.0 st (tag_means text words s.end x)) _ e)
        where
          as_number : {q : Reason} → Some r ≡ Some q → ◌≡◌ {A = spec.Result (State × List Span)} (refused (reason_number q) s.number) (refused (reason_number r) s.number)
          as_number {q} e = let z : r ≡ q = cc in ap (λ i. refused (reason_number i) s.number) (sym z)

          go : (a b c : Bool) (y : State × List Span) → Some r ≡ (if a (Some R.OverLimit) (if b (Some R.HelperName) (if c (Some R.DecoratorName) None)))
              → and_then (refuse_if a 12 s.number) (λ _. and_then (refuse_if b 10 s.number) (λ _. and_then (refuse_if c 11 s.number) (λ _. accepted y))) ≡ refused (reason_number r) s.number
          go true b c y e = as_number e
          go false true c y e = as_number e
          go false false true y e = as_number e
          go false false false y e = let z : ◌≡◌ {A = ℕ} 0 1 = cc in absurd (omega (arith, z))

      pub tag_refused : {r : Reason} → n ≡ Some r → Is (Err (record { reason = r; place = s.number }))
      tag_refused {r} e = record { means = λ st u. walks_tag st r (sym e ∙ asked_as u) }

      none_of : (st : State) → None ≡ refusal_of the.0 st (tag_means text words s.end x)
          → (too_many_open the.0 st ≡ false) × (helper_name_differs the.0 st (tag_means text words s.end x) ≡ false) × (decorator_name_differs the.0 st (tag_means text words s.end x) ≡ false)
      none_of st e = go (too_many_open the.0 st) (helper_name_differs the.0 st (tag_means text words s.end x)) (decorator_name_differs the.0 st (tag_means text words s.end x)) e
        where
          some_none : {q : Reason} {P : Type 0} → None ≡ Some q → P
          some_none e = let z : ◌≡◌ {A = ℕ} 0 1 = cc in absurd (omega (arith, z))

          go : (a b c : Bool) → None ≡ (if a (Some R.OverLimit) (if b (Some R.HelperName) (if c (Some R.DecoratorName) None))) → (a ≡ false) × (b ≡ false) × (c ≡ false)
          go true b c e = some_none e
          go false true c e = some_none e
          go false false true e = some_none e
          go false false false e = (refl, refl, refl)

      pub tag_steps : {p : Step} → n ≡ None → TagMakes text words o v s x gap here p → Is (Ok p)
      unfolding walk_tag
      tag_steps {p} z t = record {
        means = λ st u.
            let f = none_of st (sym z ∙ asked_as u) in
            record {
              makes = rw (the.1, reads.reads, f.0, f.1, f.2) (cc (t.makes the.0 st the.1 u, t.next));
              gap = t.gap_made st u;
              act = t.allowed the.0 st the.1 u f.0 reads.name;
              gapless = λ w r. is_none (t.gapped ∙ tag_gapless the.0 gap st (subst (λ k. nests k gap st ≡ true) the.1 u.nested) w r);
              here = t.placed st u;
              previous = t.previous st;
              onward = omega (arith, reads.onward, t.next);
            };
      }

-- ---- 12, 10 and 11

module _ (text : Bytes) (t c : ℕ) (opened end : std.Option Name) {b : Bool} (over : TooManyIs t c b) where
  pub refusal_12 : b ≡ true → RefusalIs text t c opened end (Some R.OverLimit)
  refusal_12 q = record { means = λ k st x e n a. rw (← over.means k st e n, q) }

  module _ (few : b ≡ false) {h : Bool} (helper : HelperDiffersIs text t opened end h) where
    pub refusal_10 : h ≡ true → RefusalIs text t c opened end (Some R.HelperName)
    refusal_10 q = record { means = λ k st x e n a. rw (← over.means k st e n, few, ← helper.means k st x e a, q) }

    module _ (same : h ≡ false) {d : Bool} (decorator : DecoratorDiffersIs text t opened end d) where
      pub refusal_11 : d ≡ true → RefusalIs text t c opened end (Some R.DecoratorName)
      refusal_11 q = record { means = λ k st x e n a. rw (← over.means k st e n, few, ← helper.means k st x e a, same, ← decorator.means k st x e a, q) }

      pub refusal_none : d ≡ false → RefusalIs text t c opened end None
      refusal_none q = record { means = λ k st x e n a. rw (← over.means k st e n, few, ← helper.means k st x e a, same, ← decorator.means k st x e a, q) }

-- ---- the visit

module _ (text : Bytes) (words : List ℕ) (o : Options) (v : View) (at : ℕ) where
  abbrev Visits : Result (Option Step) Refusal → Type 0
  Visits r = VisitIs text words o v at r

  pub visit_end : spans_from words at ≡ [] → Visits (Ok None)
  visit_end e = record { means = λ st t. e }

  module _ {s : Span} (w : Walked words at s) where
    refused_as : {f : Refusal}
        → ((st : State) → Tells text v st → walk_span text words o.prevent_indent o.is_partial st s (spans_from words (s.number + 1)) ≡ refused (reason_number f.reason) f.place) → Visits (Err f)
    refused_as {f} e =
        record { means = λ st t. ap (walk text words o.prevent_indent o.is_partial st) w.first ∙ walk_stop text words o.prevent_indent o.is_partial st s _ (reason_number f.reason) f.place (e st t) }

    pub visit_early : s.start < prev_of v.marks → Visits (Err (record { reason = R.OutOfOrder; place = s.number }))
    unfolding walk_span
    visit_early h = refused_as (λ st t. rw (lt-ltb s.start (prev_end st) (omega (arith, h, t.marks.previous))))

    module _ (late : prev_of v.marks ≤ s.start) {gap : Bool} (kept : KeptIs v.marks s gap)
        {b : Bool} (nest : NestsIs v.marks.stage v.opened v.inverted s.tag gap b) where
      not_early : {st : State} → Tells text v st → starts_early st s ≡ false
      not_early {st} t = le-ltb s.start (prev_end st) (omega (arith, late, t.marks.previous))

      nests_as : {st : State} → Tells text v st → b ≡ nests (kind_of s.tag) (kept_gap st s) st
      nests_as {st} t = nest.means st t.marks.stage t.opened ∙ ap (λ z. nests (kind_of s.tag) z st) (kept.means st t.marks)

      pub visit_out : not b ≡ true → Visits (Err (record { reason = R.BadNesting; place = s.number }))
      unfolding walk_span
      visit_out q = refused_as (λ st t. rw (not_early t, ← nests_as t, q))

      module _ (good : Good text words) (inner : not b ≡ false) {here : Here} (adv : AdvanceIs text v.here s.start here) where
        visited : {st : State} → Tells text v st → Visited text v s gap here st
        visited {st} t =
            let x = t.here in
            let y = t.marks.previous in
            record {
              tells = t;
              fits = walked_fits good w;
              kept = kept.means st t.marks;
              early = omega (arith, late, y);
              nested = sym (nest.means st t.marks.stage t.opened) ∙ not-false b inner;
              place = adv.place ∙ ap (λ p. line_col p (part text v.here.at s.start)) x.place ∙ line_col_from text v.here.at s.start (omega (arith, good.short)) (omega (arith, x.before, late, y));
              at = adv.at;
            }

        walks : {st : State} → Tells text v st → walk_span text words o.prevent_indent o.is_partial st s (spans_from words (s.number + 1)) ≡ walk_kind text words o.prevent_indent o.is_partial (kind_of s.tag) st s (spans_from words (s.number + 1))
        unfolding walk_span
        walks t = rw (not_early t, ← nests_as t, inner)

        step_of : (p : Step) {st : State} → Tells text v st → Makes text words o s p st → StepIs text words o at p st
        step_of p {st} t k = record {
          steps = ap (walk text words o.prevent_indent o.is_partial st) w.first ∙ walk_next text words o.prevent_indent o.is_partial st s _ _ (walks t ∙ k.makes);
          gap = k.gap;
          act = k.act;
          gapless = k.gapless;
          here = k.here;
          previous = k.previous;
          onward = omega (arith, w.from, k.onward);
          inside = omega (arith, w.from, w.inside);
        }

        pub kind_refused : {f : Refusal} → KindIs text words o v s gap here (Err f) → Visits (Err f)
        kind_refused k = refused_as (λ st t. walks t ∙ k.means st (visited t))

        pub kind_steps : {p : Step} → KindIs text words o v s gap here (Ok p) → Visits (Ok (Some p))
        kind_steps {p} k = record { means = λ st t. step_of p t (k.means st (visited t)) }

        pub kind_visited : (r : Result Step Refusal) → KindIs text words o v s gap here r → Visits (some_step r)
        kind_visited (Ok p) k = kind_steps k
        kind_visited (Err f) k = kind_refused k
