-- A step's gap and places over plain values: what the code's element and marks make of a state is what the specification makes of it.
use Prim.Native.Nat.{ℕ, ◌+◌, ◌≤◌}
use native.Mathlib.Omega.{arith}
use mathlib.Core.Path.{◌≡◌, refl, sym, ap, ◌∙◌}
use mathlib.Core.List.{List}
use mathlib.Core.Bool.{Bool, true, false, ◌&&◌, not, and-false}
use mathlib.Core.Option.{Option, some}
use lib.ListN.{take}
use borrow.Author.Tests.{ne_eqb}
use Rattle.std.specs.Prelude.{Some, None}
use Rattle.std.specs.declared.option.Option as rattle
use Rattle.support.specs.Bytes.{Bytes, if, part}
use Rattle.support.specs.Utf8.{is_char_boundary}
use Rattle.support.specs.WhiteSpace.{trim_start}
use Rattle.support.specs.Position.{Place, at, linefeeds, place_after, place_at, place_of}
use Rattle.support.specs.declared.position.Place as code
use Rattle.json_path.specs.Span.{Span, span_count}
use Rattle.json_path.proofs.Spans.{escapes_end}
use Rattle.expression.specs.declared.parameter.Parameter.{Parameter}
use Rattle.listing.specs.Tree as T
use Rattle.listing.specs.Reading.{item}
use Rattle.template.specs.State as S
use Rattle.template.specs.State.{Level, State, state, prev_end, add_to}
use Rattle.template.specs.Nests.{kept_gap}
use Rattle.template.specs.Escapes.{escapes_to, bad_escapes, unescaped}
use Rattle.template.specs.Step.{trim_line, trim_marked, trim_front, after_gap, take_gap}
use Rattle.template.specs.Element.{front_trim, place_means, raw_means, item_means, RawGood, role_of, Sound, no_name, new_element, named_element}
use Rattle.template.specs.Visit.{stage_means, prev_of, MarksAre, HereIs, leaf_means, gap_effect, Made, GapMade}
use Rattle.template.specs.Visiting.{SpanFits, front_of, raw_front, gap_text, gap_element}
use Rattle.template.specs.declared.element.Front.TheVariants as Front
use Rattle.template.specs.declared.element.TemplateElement.{TemplateElement}
use Rattle.template.specs.declared.element.TemplateElement.TheVariants as E
use Rattle.template.specs.declared.element.Element.{Element}
use Rattle.template.specs.declared.frame.Stage.{Stage}
use Rattle.template.specs.declared.frame.Marks.{Marks}
use Rattle.template.specs.declared.visit.Here.{Here}

-- ---- places

abbrev line_number : Place → ℕ
line_number (at l c) = l

pub place_some : (text : Bytes) (n : ℕ) {p : code.Place} → place_of p ≡ place_at text n → place_means p ≡ some (place_of p)
unfolding place_after
place_some text n {p} e =
    let f : p.line ≡ 1 + linefeeds (take n text) = ap line_number e in
    rw (ne_eqb p.line 0 (λ z. omega arith))

-- ---- elements

pub made : (text : Bytes) (words : List ℕ) (x : TemplateElement) (n : Parameter) (p : code.Place) → place_means p ≡ some (place_of p) → Sound text words n x
    → Made text words (role_of x) (named_element x n p)
made text words x n p e h = record { new = refl; is = record { role = refl; place = e; sound = h } }

-- ---- the front of a text

module _ {m : Marks} {st : State} (h : MarksAre m st) where
  pub front_marked : (t : Bytes) → front_trim (front_of m) t ≡ trim_marked st t
  unfolding trim_marked
  front_marked t = go m.trim_line_required ∙ ap (λ b. if b (trim_line t) t) h.trim_line
    where
      go : (b : Bool) → front_trim (if b Front.Line Front.Kept) t ≡ if b (trim_line t) t
      go true = refl
      go false = refl

  pub front_raw : (t : Bytes) → front_trim (raw_front m) t ≡ trim_front st t
  unfolding trim_front
  front_raw t = go m.omit_pro_ws ∙ ap (λ b. if b (trim_start t) (trim_marked st t)) h.omit_pro_ws
    where
      go : (b : Bool) → front_trim (if b Front.White (front_of m)) t ≡ if b (trim_start t) (trim_marked st t)
      go true = refl
      go false = front_marked t

-- ---- states

module _ {a b : S.Stage} {c d : Level} {e f : List Level} {g h : Option ℕ} {i j k l : Bool} where
  pub state_as : a ≡ b → c ≡ d → e ≡ f → g ≡ h → i ≡ j → k ≡ l → state a c e g i k ≡ state b d f h j l
  state_as p q r s t u = cc

-- ---- the gap

pub and_yes : (b : Bool) → (b && true) ≡ b
and_yes true = refl
and_yes false = refl

module _ (text : Bytes) (words : List ℕ) (s : Span) {m : Marks} {st : State} (h : MarksAre m st) where
  gap_means : raw_means text words (gap_text words m s) ≡ trim_marked st (part text (prev_end st) s.start)
  unfolding raw_means escapes_to unescaped
  gap_means = rw (escapes_end words (span_count words) (omega arith)) (front_marked h (part text (prev_of m) s.start) ∙ ap (λ n. trim_marked st (part text n s.start)) h.previous)

  pub gap_good : {here : Here} → SpanFits text s → HereIs text here (prev_end st) → prev_end st ≤ s.start → RawGood text words (gap_text words m s)
  unfolding escapes_to bad_escapes
  gap_good f b e = record {
    order = omega (arith, h.previous);
    inside = omega (arith, f.order, f.inside);
    starts = ap (is_char_boundary text) h.previous ∙ b.between;
    ends = f.starts;
    escapes = rw (escapes_end words (span_count words) (omega arith));
  }

  module _ {p : code.Place} (q : place_of p ≡ place_at text s.start) where
    abbrev gap_new : Element
    gap_new = new_element (E.RawString (gap_text words m s)) p

    gap_leaf : leaf_means text words gap_new ≡ item (place_at text s.start) (T.text (trim_marked st (part text (prev_end st) s.start)))
    unfolding item_means
    gap_leaf = cc (q, gap_means)

    pub gap_made_lem : {here : Here} {x : rattle.Option Element} (b : Bool) → x ≡ gap_element words m s p b → SpanFits text s → HereIs text here (prev_end st) → prev_end st ≤ s.start → GapMade text words x
    gap_made_lem true e f i k = rw e (made text words (E.RawString (gap_text words m s)) no_name p (place_some text s.start q) (gap_good f i k))
    gap_made_lem false e f i k = rw e tt

    -- the state behind the gap
    pub taken : (g : Stage) {l : Bool} {x : rattle.Option Element} (b : Bool) → x ≡ gap_element words m s p b → b ≡ kept_gap st s
        → stage_means g ≡ if b (after_gap (stage_means m.stage)) (stage_means m.stage) → l ≡ (m.trim_line_required && not b)
        → take_gap text s st ≡ state (stage_means g) (gap_effect text words x st).top st.outer st.end_pos st.omit_pro_ws l
    unfolding take_gap
    taken g true e k i j = rw (e, ← k) (state_as (ap after_gap (sym h.stage) ∙ sym i) (ap (λ x. add_to x st.top) (sym gap_leaf)) refl refl refl (sym (j ∙ and-false m.trim_line_required)))
    taken g false e k i j = rw (e, ← k) (state_as (sym h.stage ∙ sym i) refl refl refl refl (sym (j ∙ and_yes m.trim_line_required ∙ h.trim_line)))

pub gap_outer : (text : Bytes) (words : List ℕ) (x : rattle.Option Element) (st : State) → (gap_effect text words x st).outer ≡ st.outer
gap_outer text words (Some e) st = refl
gap_outer text words None st = refl
