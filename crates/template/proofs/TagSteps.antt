-- What each tag with an expression does: gap and trims, by the standalone test's answer, and then its act. Over plain values.
use Prim.Native.Nat.{ℕ, suc, ◌<◌}
use native.Mathlib.Omega.{arith}
use mathlib.Core.Path.{◌≡◌, refl, sym, ap, subst, ◌∙◌}
use mathlib.Core.List.{List, [], ◌∷◌}
use mathlib.Core.Bool.{Bool, true, false, ◌&&◌, ◌||◌, not}
use mathlib.Core.Option.{Option, none, some}
use lib.ListN.{take}
use borrow.Author.Tests.{ltb-false}
use Rattle.std.specs.Prelude.{Some, None, is_some}
use Rattle.std.specs.declared.option.Option as rattle
use Rattle.support.specs.Bytes.{Bytes, if}
use Rattle.support.specs.WhiteSpace.{trim_end}
use Rattle.support.specs.TextRules.{trim_end_blanks, trailing_blanks}
use Rattle.support.specs.Position.{place_at, place_of}
use Rattle.support.specs.declared.position.Place as code
use Rattle.support.proofs.Table.{and_left, and_right}
use Rattle.json_path.specs.Span.{Span}
use Rattle.expression.specs.Expression.{Expression, as_name, name_of}
use Rattle.expression.specs.Answers.{param_means}
use Rattle.listing.specs.Tree as T
use Rattle.listing.specs.Reading.{Elem, item}
use Rattle.template.specs.Kind as K
use Rattle.template.specs.Kind.{Tag, tagged, kind_of}
use Rattle.template.specs.State as S
use Rattle.template.specs.State.{Level, level, State, state, owner_of, owner, open_count, with_end_pos, with_omit_pro_ws, add_to, trim_last, close_level, close_block, open_block, next_branch}
use Rattle.template.specs.Nests.{is_filling, is_of_kind, tag_nests, nests}
use Rattle.template.specs.Refusal.{max_open, one_too_many, too_many_open}
use Rattle.template.specs.Step.{any_blanks, after_gap, take_gap, remove_previous_whitespace, process_standalone, standalone, indent, owner_for, standalone_of, tag_trims, tag_effect, tag_step}
use Rattle.template.specs.Element.{back_trim, call_at, block_at, blanks_before, indent_means, item_means, head_means, wrap_means, named_element}
use Rattle.template.specs.TagRead.{tag_means}
use Rattle.template.specs.Visit.{stage_means, end_means, with_marks, leaf_means, gap_effect, trim_effect, act_effect, applied, Allowed}
use Rattle.template.specs.Visiting.{Visited, TagMakes, gap_element, trim_of, cut_of, line_of, stage_behind, helper_of, decorator_of, element_for, act_for, indent_of, CutIs, LineIs, StageIs, ElementIs, ActIs, IndentIs}
use Rattle.template.specs.declared.element.Back.{Back}
use Rattle.template.specs.declared.element.TemplateElement.{TemplateElement}
use Rattle.template.specs.declared.element.TemplateElement.TheVariants as E
use Rattle.template.specs.declared.element.Element.{Element}
use Rattle.template.specs.declared.frame.Stage.{Stage}
use Rattle.template.specs.declared.frame.Stage.TheVariants as G
use Rattle.template.specs.declared.frame.Marks.{Marks}
use Rattle.template.specs.declared.tag.TagExpression.{TagExpression}
use Rattle.template.specs.declared.visit.Options.{Options}
use Rattle.template.specs.declared.visit.Here.{Here}
use Rattle.template.specs.declared.visit.View.{View}
use Rattle.template.specs.declared.visit.Act.{Act}
use Rattle.template.specs.declared.visit.Step.{Step}
use Rattle.template.proofs.LastText.{trims}
use Rattle.template.proofs.GapLaws.{and_yes, place_some, made, state_as}
use Rattle.template.proofs.VisitLaws.{marks_behind, placed, filling, none_waits, processed, behind, made_gap}

-- ---- trims

module _ (text : Bytes) (prevent is_partial : Bool) (s : Span) (g : S.Stage) (t : Level) (u : List Level) (e : Option ℕ) (w l : Bool) where
  abbrev alone : Bool
  alone = standalone text is_partial s

  abbrev trimmed : Bool → Level
  trimmed cut = if cut (trim_last trim_end_blanks t) t

  by_test : (cut c : Bool) → (alone && cut) ≡ c → process_standalone alone cut (state g t u e w l) ≡ state g (trimmed c) u e w alone
  by_test cut c q = processed alone cut g t u e w l ∙ ap (λ b. state g (trimmed b) u e w alone) q

  -- the standalone test of each tag
  tested : (k : Tag) → standalone_of text prevent is_partial k s (state g t u e w l) ≡ state g (trimmed (cut_of k alone prevent)) u e w (line_of k alone l)
  unfolding standalone_of
  tested (K.block_start k) = by_test true alone (and_yes alone)
  tested K.invert_tag = by_test true alone (and_yes alone)
  tested K.invert_chain_tag = by_test true alone (and_yes alone)
  tested K.expression = refl
  tested K.html_expression = refl
  tested K.decorator_expression = by_test true alone (and_yes alone)
  tested K.partial_expression = by_test (not prevent) (alone && not prevent) refl
  tested (K.block_end k) = by_test true alone (and_yes alone)

module _ (text : Bytes) (prevent is_partial : Bool) (s : Span) where
  removed : (left : Bool) (g : S.Stage) (t : Level) (u : List Level) (e : Option ℕ) (w l : Bool)
      → remove_previous_whitespace left (state g t u e w l) ≡ state g (if left (trim_last trim_end t) t) u e w l
  unfolding remove_previous_whitespace
  removed true g t u e w l = refl
  removed false g t u e w l = refl

  -- gap and trims
  pub trimmed_as : (k : Tag) (st : State) (x : Expression) {g : S.Stage} {t : Level} {u : List Level} {e : Option ℕ} {w l : Bool} → take_gap text s st ≡ state g t u e w l
      → tag_trims text prevent is_partial k st s x ≡ state g (trim_last (back_trim (trim_of x.omit_pre_ws (cut_of k (standalone text is_partial s) prevent))) t) u e x.omit_pro_ws (line_of k (standalone text is_partial s) l)
  unfolding tag_trims
  trimmed_as k st x {g} {t} {u} {e} {w} {l} q =
      ap (λ z. with_omit_pro_ws x.omit_pro_ws (standalone_of text prevent is_partial k s (remove_previous_whitespace x.omit_pre_ws z))) q
      ∙ ap (λ z. with_omit_pro_ws x.omit_pro_ws (standalone_of text prevent is_partial k s z)) (removed x.omit_pre_ws g t u e w l)
      ∙ ap (with_omit_pro_ws x.omit_pro_ws) (tested text prevent is_partial s g (if x.omit_pre_ws (trim_last trim_end t) t) u e w l k)
      ∙ state_as refl (trims x.omit_pre_ws (cut_of k (standalone text is_partial s) prevent) t) refl refl refl refl

-- ---- acts

trim_owner : (f : Bytes → Bytes) (l : Level) → owner_of (trim_last f l) ≡ owner_of l
unfolding trim_last
trim_owner f (level o []) = refl
trim_owner f (level o (e ∷ es)) = refl

add_owner : (e : Elem) (l : Level) → owner_of (add_to e l) ≡ owner_of l
add_owner e (level o es) = refl

-- a body of a block closes
closes : (t : Level) → (owner_of t ≡ S.root → ⊥) → (e : Elem) × (close_level t ≡ some e)
unfolding close_level
closes (level S.root es) n = absurd (n refl)
closes (level (S.helper raw p done h) es) n = (_, refl)
closes (level (S.in_else p h b done) es) n = (_, refl)
closes (level (S.wrapper p w) es) n = (_, refl)

closed : (t : Level) (u : List Level) → (owner_of t ≡ S.root → ⊥) → (u ≡ [] → ⊥) → (g a : S.Stage) (e b : Option ℕ) (w l c d : Bool) (n : ℕ) (m : Marks)
    → stage_means m.stage ≡ S.filling → end_means m ≡ some n → m.omit_pro_ws ≡ w → m.trim_line_required ≡ l
    → with_end_pos n (close_block (state g t u e w l)) ≡ with_marks m (close_block (state a t u b c d))
unfolding close_block with_marks close_level
closed t [] x y g a e b w l c d n m h i j k = absurd (y refl)
closed t (v ∷ vs) x y g a e b w l c d n m h i j k =
    let q = closes t x in
    rw q.1 (state_as (sym h) refl refl (sym i) (sym j) (sym k))

root_no_kind : (k : K.BlockKind) → is_of_kind k S.root ≡ true → ⊥
unfolding is_of_kind
root_no_kind k e = let z : ◌≡◌ {A = ℕ} 0 1 = cc in omega arith

-- before a tag a root that waits takes no gap
pub tag_gapless : (k : Tag) (gap : Bool) (st : State) → tag_nests k gap st ≡ true → st.stage ≡ S.waiting → owner st ≡ S.root → gap ≡ false
unfolding tag_nests
tag_gapless (K.block_start k) gap st n w r = none_waits w n
tag_gapless K.invert_tag gap st n w r = none_waits w (and_left (is_filling st.stage) _ n)
tag_gapless K.invert_chain_tag gap st n w r = none_waits w (and_left (is_filling st.stage) _ n)
tag_gapless K.expression gap st n w r = none_waits w n
tag_gapless K.html_expression gap st n w r = none_waits w n
tag_gapless K.decorator_expression gap st n w r = none_waits w n
tag_gapless K.partial_expression gap st n w r = none_waits w n
tag_gapless (K.block_end k) gap st n w r = absurd (root_no_kind k (ap (is_of_kind k) (sym r) ∙ and_left (is_of_kind k (owner st)) _ n))

-- what a tag asks of the state behind its gap and trims
abbrev Ready : Tag → S.Stage → Level → List Level → Type 0
Ready (K.block_start k) g t u = Unit {0}
Ready K.invert_tag g t u = Unit {0}
Ready K.invert_chain_tag g t u = Unit {0}
Ready K.expression g t u = g ≡ S.filling
Ready K.html_expression g t u = g ≡ S.filling
Ready K.decorator_expression g t u = g ≡ S.filling
Ready K.partial_expression g t u = g ≡ S.filling
Ready (K.block_end k) g t u = (owner_of t ≡ S.root → ⊥) × (u ≡ [] → ⊥)

module _ (text : Bytes) (words : List ℕ) (prevent is_partial : Bool) (s : Span) (x : TagExpression) {p : code.Place} (q : place_of p ≡ place_at text s.start)
    (mark ind : Bool) (r : mark ≡ (standalone text is_partial s && not x.omit_pre_ws)) where
  abbrev read : Expression
  read = tag_means text words s.end x

  no_indent : ind ≡ false → none ≡ indent_means text words (decorator_of x s mark ind)
  no_indent i = ap (λ b. blanks_before text words (if b (Some s.start) None)) (sym i)

  indent_as : ind ≡ (not prevent && not x.omit_pre_ws) → indent text prevent s read ≡ indent_means text words (decorator_of x s mark ind)
  unfolding indent
  indent_as i = go prevent x.omit_pre_ws ∙ ap (λ b. blanks_before text words (if b (Some s.start) None)) (sym i)
    where
      go : (a b : Bool) → (if (a || b) none (any_blanks (trailing_blanks (take s.start text)))) ≡ blanks_before text words (if (not a && not b) (Some s.start) None)
      go true b = refl
      go false true = refl
      go false false = refl

  module _ (m : Marks) (n : ℕ) (e : end_means m ≡ some n) (g a : S.Stage) (t : Level) (u : List Level) (f b : Option ℕ) (c d : Bool) where
    -- both sides: the specification's state, and the code's
    abbrev Acts : Tag → Type 0
    Acts k = with_end_pos n (tag_effect text prevent is_partial k s read (state g t u f m.omit_pro_ws m.trim_line_required))
        ≡ with_marks m (act_effect text words (act_for k (named_element (element_for k s x mark ind) x.name p)) (state a t u b c d))

    pub acts : (k : Tag) → ind ≡ indent_of k prevent x.omit_pre_ws → stage_means m.stage ≡ stage_behind k → Ready k g t u → Acts k
    unfolding tag_effect owner_for open_block with_marks item_means head_means wrap_means
    acts (K.block_start K.helper_block) i h y = state_as (sym h) (cc (q, r)) refl (sym e) refl refl
    acts (K.block_start K.raw_block) i h y = state_as (sym h) (cc (q, r)) refl (sym e) refl refl
    acts (K.block_start K.decorator_block) i h y = state_as (sym h) (cc (q, r, no_indent i)) refl (sym e) refl refl
    acts (K.block_start K.partial_block) i h y = state_as (sym h) (cc (q, r, no_indent i)) refl (sym e) refl refl
    acts K.invert_tag i h y = state_as (sym h) refl refl (sym e) refl refl
    acts K.invert_chain_tag i h y =
        state_as (sym h) (ap (λ z. next_branch (T.head (call_at text words x.from s.end) (block_at text words x.from s.end) z) t) (sym r)) refl (sym e) refl refl
    acts K.expression i h y = state_as (y ∙ sym h) (ap (λ z. add_to (item z (T.expr (call_at text words x.from s.end) (block_at text words x.from s.end))) t) (sym q)) refl (sym e) refl refl
    acts K.html_expression i h y = state_as (y ∙ sym h) (ap (λ z. add_to (item z (T.html (call_at text words x.from s.end) (block_at text words x.from s.end))) t) (sym q)) refl (sym e) refl refl
    acts K.decorator_expression i h y = state_as (y ∙ sym h) (ap (λ z. add_to z t) (cc (q, r, no_indent i))) refl (sym e) refl refl
    acts K.partial_expression i h y = state_as (y ∙ sym h) (ap (λ z. add_to z t) (cc (q, r, indent_as i))) refl (sym e) refl refl
    acts (K.block_end k) i h y = closed t u y.0 y.1 g a f b m.omit_pro_ws m.trim_line_required c d n m h e refl refl

-- ---- the step

kept : {A : Type 0} (a : A) (b : Bool) → is_some (if b (Some a) None) ≡ b
kept a true = refl
kept a false = refl

module _ (text : Bytes) (words : List ℕ) (o : Options) (v : View) (s : Span) (here : Here) (x : TagExpression) where
  abbrev marks : Marks
  marks = v.marks

  gap_state : (e : rattle.Option Element) (b : Back) (st : State)
      → trim_effect text words b (gap_effect text words e st)
      ≡ state st.stage (trim_last (back_trim b) (gap_effect text words e st).top) st.outer st.end_pos st.omit_pro_ws st.trim_line_required
  gap_state (Some e) b st = refl
  gap_state None b st = refl

  gap_owner : (e : rattle.Option Element) (st : State) → owner_of (gap_effect text words e st).top ≡ owner st
  gap_owner (Some e) st = add_owner (leaf_means text words e) st.top
  gap_owner None st = refl

  still_filling : (gap : Bool) {g h : S.Stage} → g ≡ if gap (after_gap h) h → h ≡ S.filling → g ≡ S.filling
  still_filling true e f = e ∙ ap after_gap f
  still_filling false e f = e ∙ f

  module _ {gap : Bool} {st : State} (h : Visited text v s gap here st) where
    nested_as : (k : Tag) → kind_of s.tag ≡ tagged k → tag_nests k gap st ≡ true
    nested_as k e = subst (λ z. nests z gap st ≡ true) e h.nested

    not_root : (k : K.BlockKind) → tag_nests (K.block_end k) gap st ≡ true → owner st ≡ S.root → ⊥
    unfolding tag_nests
    not_root k e f = root_no_kind k (ap (is_of_kind k) (sym f) ∙ and_left (is_of_kind k (owner st)) _ e)

    ready : (g : Stage) (e : rattle.Option Element) (f : Bytes → Bytes) → stage_means g ≡ if gap (after_gap (stage_means marks.stage)) (stage_means marks.stage)
        → (k : Tag) → tag_nests k gap st ≡ true → Ready k (stage_means g) (trim_last f (gap_effect text words e st).top) st.outer
    unfolding tag_nests
    ready g e f i (K.block_start k) n = tt
    ready g e f i K.invert_tag n = tt
    ready g e f i K.invert_chain_tag n = tt
    ready g e f i K.expression n = still_filling gap i (h.tells.marks.stage ∙ filling st.stage n)
    ready g e f i K.html_expression n = still_filling gap i (h.tells.marks.stage ∙ filling st.stage n)
    ready g e f i K.decorator_expression n = still_filling gap i (h.tells.marks.stage ∙ filling st.stage n)
    ready g e f i K.partial_expression n = still_filling gap i (h.tells.marks.stage ∙ filling st.stage n)
    ready g e f i (K.block_end k) n =
        let r = not_root k n in
        (λ z. r (sym (gap_owner e st) ∙ sym (trim_owner f (gap_effect text words e st).top) ∙ z), λ z. r (h.tells.outermost z))

    fewer : one_too_many st ≡ false → open_count st < max_open
    fewer e = let z = ltb-false max_open (suc (open_count st)) e in omega arith

    may : (mark ind : Bool) (k : Tag) → tag_nests k gap st ≡ true → too_many_open k st ≡ false
        → as_name (param_means text words x.name) ≡ name_of (call_at text words x.from s.end) → Allowed text words (act_for k (named_element (element_for k s x mark ind) x.name here.place)) st
    unfolding tag_nests wrap_means
    may mark ind (K.block_start K.helper_block) n c q = (made text words (E.HelperBlock (helper_of x s mark)) x.name here.place (place_some text s.start h.place) q, fewer c)
    may mark ind (K.block_start K.raw_block) n c q = (made text words (E.HelperBlock (helper_of x s mark)) x.name here.place (place_some text s.start h.place) q, fewer c)
    may mark ind (K.block_start K.decorator_block) n c q = (made text words (E.DecoratorBlock (decorator_of x s mark ind)) x.name here.place (place_some text s.start h.place) q, refl, fewer c)
    may mark ind (K.block_start K.partial_block) n c q = (made text words (E.PartialBlock (decorator_of x s mark ind)) x.name here.place (place_some text s.start h.place) q, refl, fewer c)
    may mark ind K.invert_tag n c q = and_right (is_filling st.stage) _ n
    may mark ind K.invert_chain_tag n c q = (made text words (E.HelperBlock (helper_of x s mark)) x.name here.place (place_some text s.start h.place) q, and_right (is_filling st.stage) _ n, fewer c)
    may mark ind K.expression n c q = made text words (E.Expression (helper_of x s mark)) x.name here.place (place_some text s.start h.place) tt
    may mark ind K.html_expression n c q = made text words (E.HtmlExpression (helper_of x s mark)) x.name here.place (place_some text s.start h.place) tt
    may mark ind K.decorator_expression n c q = made text words (E.DecoratorExpression (decorator_of x s mark ind)) x.name here.place (place_some text s.start h.place) tt
    may mark ind K.partial_expression n c q = made text words (E.PartialExpression (decorator_of x s mark ind)) x.name here.place (place_some text s.start h.place) tt
    may mark ind (K.block_end k) n c q = not_root k n

  module _ (g : Stage) (gap : Bool) {l : Bool} {e : rattle.Option Element} (new : e ≡ gap_element words marks s here.place gap)
      (i : stage_means g ≡ if gap (after_gap (stage_means marks.stage)) (stage_means marks.stage)) (j : l ≡ (marks.trim_line_required && not gap))
      {alone : Bool} (a : alone ≡ standalone text o.is_partial s)
      {cut : Bool} (c : CutIs s.tag alone o.prevent_indent cut) {b : Back} (d : b ≡ trim_of x.omit_pre_ws cut)
      {sg : Stage} (w : StageIs s.tag sg) {line : Bool} (f : LineIs s.tag alone l line)
      {mark ind : Bool} (r : mark ≡ (alone && not x.omit_pre_ws)) (q : IndentIs s.tag o.prevent_indent x.omit_pre_ws ind)
      {y : TemplateElement} (made_of : ElementIs s x mark ind y) {z : Element} (placed-as : z ≡ named_element y x.name here.place) {act : Act} (t : ActIs s.tag z act) where
    abbrev tagged_step : Step
    tagged_step = record { gap = e; back = b; act = act; marks = marks_behind sg s.end x.omit_pro_ws line; here = here; next = x.next }

    act_as : (k : Tag) → kind_of s.tag ≡ tagged k → act ≡ act_for k (named_element (element_for k s x mark ind) x.name here.place)
    act_as k u = t.means k u ∙ ap (act_for k) (placed-as ∙ ap (λ w. named_element w x.name here.place) (made_of.means k u))

    step_as : (k : Tag) (st : State) → kind_of s.tag ≡ tagged k → Visited text v s gap here st
        → tag_step text o.prevent_indent o.is_partial k st s (tag_means text words s.end x) ≡ applied text words tagged_step st
    unfolding tag_step applied
    step_as k st u h =
        let read = tag_means text words s.end x in
        let t₁ = (gap_effect text words e st).top in
        let back : trim_of x.omit_pre_ws (cut_of k (standalone text o.is_partial s) o.prevent_indent) ≡ b = ap (λ z. trim_of x.omit_pre_ws (cut_of k z o.prevent_indent)) (sym a) ∙ ap (trim_of x.omit_pre_ws) (sym (c.means k u)) ∙ sym d in
        let lines : line_of k (standalone text o.is_partial s) l ≡ line = ap (λ z. line_of k z l) (sym a) ∙ sym (f.means k u) in
        ap (λ z. with_end_pos s.end (tag_effect text o.prevent_indent o.is_partial k s read z))
        (trimmed_as text o.prevent_indent o.is_partial s k st read (behind text words o v s here g gap new i j h)
        ∙ state_as refl (ap (λ z. trim_last (back_trim z) t₁) back) refl refl refl lines)
        ∙ acts text words o.prevent_indent o.is_partial s x h.place mark ind (r ∙ ap (λ z. z && not x.omit_pre_ws) a)
        (marks_behind sg s.end x.omit_pro_ws line) s.end refl (stage_means g) st.stage (trim_last (back_trim b) t₁) st.outer st.end_pos st.end_pos st.omit_pro_ws st.trim_line_required
        k (q.means k u) (w.means k u) (ready h g e (back_trim b) i k (nested_as h k u))
        ∙ ap (λ z. with_marks (marks_behind sg s.end x.omit_pro_ws line) (act_effect text words z (state st.stage (trim_last (back_trim b) t₁) st.outer st.end_pos st.omit_pro_ws st.trim_line_required))) (sym (act_as k u))
        ∙ ap (λ z. with_marks (marks_behind sg s.end x.omit_pro_ws line) (act_effect text words act z)) (sym (gap_state e b st))

    pub tag_makes : TagMakes text words o v s x gap here tagged_step
    unfolding with_marks
    tag_makes = record {
      makes = step_as;
      gap_made = λ st h. made_gap text words o v s here g gap new i j h;
      allowed = λ k st u h n y. subst (λ z. Allowed text words z st) (sym (act_as k u)) (may h mark ind k (nested_as h k u) n y);
      gapped = ap is_some new ∙ kept _ gap;
      placed = λ st h. placed h;
      previous = λ st. refl;
      next = refl;
    }

-- ---- the stage behind a gap

abbrev filled : Stage → Stage
filled G.Waiting = G.Full
filled G.Filling = G.Filling
filled G.Full = G.Full

filled_as : (g : Stage) → stage_means (filled g) ≡ after_gap (stage_means g)
filled_as G.Waiting = refl
filled_as G.Filling = refl
filled_as G.Full = refl

abbrev pub gap_stage : Bool → Stage → Stage
gap_stage gap g = if gap (filled g) g

pub gap_stage_lem : (gap : Bool) (g : Stage) → stage_means (gap_stage gap g) ≡ if gap (after_gap (stage_means g)) (stage_means g)
gap_stage_lem true g = filled_as g
gap_stage_lem false g = refl
