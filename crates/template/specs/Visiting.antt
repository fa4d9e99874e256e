-- What is decided of a walked span once 6 and 7 are asked, by its kind.
use Rattle.std.specs.Prelude as std
use Rattle.std.specs.Prelude.{ℕ, ◌+◌, ◌≤◌, ◌<◌, ◌≡◌, List, Bool, true, false, ◌&&◌, not, Option, Some, None, is_some, Result, Ok, Err, length}
use Rattle.support.specs.Bytes.{Bytes, if, part}
use Rattle.support.specs.Utf8.{is_char_boundary}
use Rattle.support.specs.Position.{place_at, place_of, line_col}
use Rattle.support.specs.declared.position.Place as code
use Rattle.json_path.specs.Span.{Span, span_count, spans_from}
use Rattle.expression.specs.Expression.{Expression, as_name, name_of}
use Rattle.expression.specs.Answers.{param_means}
use Rattle.json_path.specs.declared.path.Name.{Name}
use Rattle.template.specs.Kind as K
use Rattle.template.specs.Kind.{Tag, tagged, kind_of}
use Rattle.template.specs.State as S
use Rattle.template.specs.State.{State, prev_end, open_count}
use Rattle.template.specs.Result.{accepted, refused}
use Rattle.template.specs.Nests.{kept_gap, nests}
use Rattle.template.specs.Refusal.{too_many_open, helper_name_differs, decorator_name_differs}
use Rattle.template.specs.Step.{tag_step}
use Rattle.template.specs.Walk.{walk_kind}
use Rattle.template.specs.Element.{call_at, new_element}
use Rattle.template.specs.TagRead.{tag_means}
use Rattle.template.specs.Asked.{NamesAre}
use Rattle.template.specs.Numbers.{reason_number}
use Rattle.template.specs.Visit.{stage_means, prev_of, with_marks, HereIs, Tells, applied, GapMade, Allowed}
use Rattle.template.specs.declared.element.Front.{Front}
use Rattle.template.specs.declared.element.Back.{Back}
use Rattle.template.specs.declared.element.RawString.{RawString}
use Rattle.template.specs.declared.element.HelperTemplate.{HelperTemplate}
use Rattle.template.specs.declared.element.DecoratorTemplate.{DecoratorTemplate}
use Rattle.template.specs.declared.element.TemplateElement.{TemplateElement}
use Rattle.template.specs.declared.element.TemplateElement.TheVariants as E
use Rattle.template.specs.declared.element.Element.{Element}
use Rattle.template.specs.declared.frame.Marks.{Marks}
use Rattle.template.specs.declared.frame.Stage.{Stage}
use Rattle.template.specs.declared.frame.Opened.{Opened}
use Rattle.template.specs.declared.frame.Opened.TheVariants as O
use Rattle.template.specs.declared.tag.TagExpression.{TagExpression}
use Rattle.template.specs.declared.visit.Options.{Options}
use Rattle.template.specs.declared.visit.Here.{Here}
use Rattle.template.specs.declared.visit.View.{View}
use Rattle.template.specs.declared.visit.Act.{Act}
use Rattle.template.specs.declared.visit.Act.TheVariants as A
use Rattle.template.specs.declared.visit.Added.TheVariants as N
use Rattle.template.specs.declared.visit.Step.{Step}
use Rattle.template.specs.declared.refusal.Reason.{Reason}
use Rattle.template.specs.declared.refusal.Reason.TheVariants as R
use Rattle.template.specs.declared.refusal.Refusal.{Refusal}

-- a span of an input that passes 5
pub record SpanFits (text : Bytes) (s : Span) : Type 0 where
  pub order : s.start ≤ s.end
  pub inside : s.end ≤ length text
  pub starts : is_char_boundary text s.start ≡ true
  pub ends : is_char_boundary text s.end ≡ true

-- a walked span of an input that passes 5
pub record SpanStands (text : Bytes) (words : List ℕ) (s : Span) : Type 0 where
  pub fits : SpanFits text s
  pub counted : s.number < span_count words
  pub no_escape : s.tag ≡ 4 → ⊥

-- v tells of st, 6 and 7 do not hold of s, and this is its gap and its place
pub record Visited (text : Bytes) (v : View) (s : Span) (gap : Bool) (here : Here) (st : State) : Type 0 where
  pub tells : Tells text v st
  pub fits : SpanFits text s
  pub kept : gap ≡ kept_gap st s
  pub early : prev_end st ≤ s.start
  pub nested : nests (kind_of s.tag) gap st ≡ true
  pub place : place_of here.place ≡ place_at text s.start
  pub at : here.at ≡ s.start

module _ (text : Bytes) (words : List ℕ) where
  -- p is the step that s makes from st
  pub record Makes (o : Options) (s : Span) (p : Step) (st : State) : Type 0 where
    pub makes : walk_kind text words o.prevent_indent o.is_partial (kind_of s.tag) st s (spans_from words (s.number + 1)) ≡ accepted (applied text words p st, spans_from words p.next)
    pub gap : GapMade text words p.gap
    pub act : Allowed text words p.act st
    -- a root that waits takes no gap
    pub gapless : st.stage ≡ S.waiting → S.owner st ≡ S.root → p.gap ≡ None
    pub here : HereIs text p.here (prev_of p.marks)
    pub previous : prev_of p.marks ≡ prev_end (with_marks p.marks st)
    pub onward : s.number < p.next

  abbrev pub KindMeans : Options → Span → Result Step Refusal → State → Type 0
  KindMeans o s (Err f) st = walk_kind text words o.prevent_indent o.is_partial (kind_of s.tag) st s (spans_from words (s.number + 1)) ≡ refused (reason_number f.reason) f.place
  KindMeans o s (Ok p) st = Makes o s p st

  -- r is what is decided of s behind 6 and 7
  pub record KindIs (o : Options) (v : View) (s : Span) (gap : Bool) (here : Here) (r : Result Step Refusal) : Type 0 where
    pub means : (st : State) → Visited text v s gap here st → KindMeans o s r st

  -- p is the step of the tag s that has read x, where 12 does not hold
  pub record TagMakes (o : Options) (v : View) (s : Span) (x : TagExpression) (gap : Bool) (here : Here) (p : Step) : Type 0 where
    pub makes : (k : Tag) (st : State) → kind_of s.tag ≡ tagged k → Visited text v s gap here st
        → tag_step text o.prevent_indent o.is_partial k st s (tag_means text words s.end x) ≡ applied text words p st
    pub gap_made : (st : State) → Visited text v s gap here st → GapMade text words p.gap
    pub allowed : (k : Tag) (st : State) → kind_of s.tag ≡ tagged k → Visited text v s gap here st → too_many_open k st ≡ false
        → as_name (param_means text words x.name) ≡ name_of (call_at text words x.from s.end) → Allowed text words p.act st
    pub gapped : is_some p.gap ≡ gap
    pub placed : (st : State) → Visited text v s gap here st → HereIs text p.here (prev_of p.marks)
    pub previous : (st : State) → prev_of p.marks ≡ prev_end (with_marks p.marks st)
    pub next : p.next ≡ x.next

-- ---- what a step is made of

-- r is the place of a later offset
pub record AdvanceIs (text : Bytes) (here : Here) (to : ℕ) (r : Here) : Type 0 where
  pub place : place_of r.place ≡ line_col (place_of here.place) (part text here.at to)
  pub at : r.at ≡ to

-- how the front of a gap, and of a text of tag 2 or 3, is trimmed

abbrev pub front_of : Marks → Front
front_of m = if m.trim_line_required Front.Line Front.Kept

abbrev pub raw_front : Marks → Front
raw_front m = if m.omit_pro_ws Front.White (front_of m)

-- the gap before s as a text; no escapes are listed at the count
abbrev pub gap_text : List ℕ → Marks → Span → RawString
gap_text words m s = record { start = prev_of m; end = s.start; escapes = span_count words; front = front_of m; back = Back.Kept }

-- its element, if it is kept
abbrev pub gap_element : List ℕ → Marks → Span → code.Place → Bool → Option Element
gap_element words m s p kept = if kept (Some (new_element (E.RawString (gap_text words m s)) p)) None

-- the text of tag 2 or 3 from `start` on, and its step with this stage and line mark behind it

abbrev pub text_element : View → Span → ℕ → code.Place → Element
text_element v s start p = new_element (E.RawString (record { start = start; end = s.end; escapes = s.number + 1; front = raw_front v.marks; back = Back.Kept })) p

abbrev pub text_step : View → Span → Here → ℕ → Stage → Bool → Step
text_step v s here start g l = record {
  gap = None;
  back = Back.Kept;
  act = A.Add (text_element v s start here.place) N.Leaf;
  marks = record { stage = g; end_pos = Some s.end; omit_pro_ws = v.marks.omit_pro_ws; trim_line_required = l };
  here = here;
  next = s.number + 1;
}

-- how the last text is trimmed: by a left tilde, or by the standalone test
abbrev pub trim_of : Bool → Bool → Back
trim_of left cut = if left Back.White (if cut Back.Blanks Back.Kept)

-- the standalone test cuts the last blanks
abbrev pub cut_of : Tag → Bool → Bool → Bool
cut_of (K.block_start k) alone prevent = alone
cut_of K.invert_tag alone prevent = alone
cut_of K.invert_chain_tag alone prevent = alone
cut_of K.expression alone prevent = false
cut_of K.html_expression alone prevent = false
cut_of K.decorator_expression alone prevent = alone
cut_of K.partial_expression alone prevent = alone && not prevent
cut_of (K.block_end k) alone prevent = alone

-- the line mark behind a tag
abbrev pub line_of : Tag → Bool → Bool → Bool
line_of (K.block_start k) alone line = alone
line_of K.invert_tag alone line = alone
line_of K.invert_chain_tag alone line = alone
line_of K.expression alone line = line
line_of K.html_expression alone line = line
line_of K.decorator_expression alone line = alone
line_of K.partial_expression alone line = alone
line_of (K.block_end k) alone line = alone

-- block starts and else tags wait for a body
abbrev pub stage_behind : Tag → S.Stage
stage_behind (K.block_start k) = S.waiting
stage_behind K.invert_tag = S.waiting
stage_behind K.invert_chain_tag = S.waiting
stage_behind K.expression = S.filling
stage_behind K.html_expression = S.filling
stage_behind K.decorator_expression = S.filling
stage_behind K.partial_expression = S.filling
stage_behind (K.block_end k) = S.filling

-- the link to the expression of a tag that has read x
abbrev pub helper_of : TagExpression → Span → Bool → HelperTemplate
helper_of x s mark = record { from = x.from; limit = s.end; indent_before_write = mark }

abbrev pub decorator_of : TagExpression → Span → Bool → Bool → DecoratorTemplate
decorator_of x s mark indent = record { from = x.from; limit = s.end; indent_before_write = mark; indent = if indent (Some s.start) None }

-- the element that a tag makes that has read x
abbrev pub element_for : Tag → Span → TagExpression → Bool → Bool → TemplateElement
element_for (K.block_start K.helper_block) s x mark indent = E.HelperBlock (helper_of x s mark)
element_for (K.block_start K.raw_block) s x mark indent = E.HelperBlock (helper_of x s mark)
element_for (K.block_start K.decorator_block) s x mark indent = E.DecoratorBlock (decorator_of x s mark indent)
element_for (K.block_start K.partial_block) s x mark indent = E.PartialBlock (decorator_of x s mark indent)
element_for K.invert_tag s x mark indent = E.Empty
element_for K.invert_chain_tag s x mark indent = E.HelperBlock (helper_of x s mark)
element_for K.expression s x mark indent = E.Expression (helper_of x s mark)
element_for K.html_expression s x mark indent = E.HtmlExpression (helper_of x s mark)
element_for K.decorator_expression s x mark indent = E.DecoratorExpression (decorator_of x s mark indent)
element_for K.partial_expression s x mark indent = E.PartialExpression (decorator_of x s mark indent)
element_for (K.block_end k) s x mark indent = E.Empty

-- whose body a block start opens
abbrev pub begin_of : K.BlockKind → Opened
begin_of K.helper_block = O.Helper
begin_of K.raw_block = O.Raw
begin_of K.decorator_block = O.Decorator
begin_of K.partial_block = O.Partial

-- what a tag does with its element after its gap and trims
abbrev pub act_for : Tag → Element → Act
act_for (K.block_start k) e = A.Add e (N.Block (begin_of k))
act_for K.invert_tag e = A.Else
act_for K.invert_chain_tag e = A.Add e N.ElseIf
act_for K.expression e = A.Add e N.Leaf
act_for K.html_expression e = A.Add e N.Leaf
act_for K.decorator_expression e = A.Add e N.Leaf
act_for K.partial_expression e = A.Add e N.Leaf
act_for (K.block_end k) e = A.Close

-- tag 14 keeps the blanks before it as indent, unless it is prevented or there is a left tilde
abbrev pub indent_of : Tag → Bool → Bool → Bool
indent_of (K.block_start k) prevent left = false
indent_of K.invert_tag prevent left = false
indent_of K.invert_chain_tag prevent left = false
indent_of K.expression prevent left = false
indent_of K.html_expression prevent left = false
indent_of K.decorator_expression prevent left = false
indent_of K.partial_expression prevent left = not prevent && not left
indent_of (K.block_end k) prevent left = false

-- r is that of the tag, whatever tag it is

pub record CutIs (tag : ℕ) (alone prevent r : Bool) : Type 0 where
  pub means : (k : Tag) → kind_of tag ≡ tagged k → r ≡ cut_of k alone prevent

pub record LineIs (tag : ℕ) (alone line r : Bool) : Type 0 where
  pub means : (k : Tag) → kind_of tag ≡ tagged k → r ≡ line_of k alone line

pub record StageIs (tag : ℕ) (r : Stage) : Type 0 where
  pub means : (k : Tag) → kind_of tag ≡ tagged k → stage_means r ≡ stage_behind k

pub record ElementIs (s : Span) (x : TagExpression) (mark indent : Bool) (r : TemplateElement) : Type 0 where
  pub means : (k : Tag) → kind_of s.tag ≡ tagged k → r ≡ element_for k s x mark indent

pub record BeginIs (tag : ℕ) (r : Opened) : Type 0 where
  pub means : (k : K.BlockKind) → kind_of tag ≡ tagged (K.block_start k) → r ≡ begin_of k

pub record ActIs (tag : ℕ) (e : Element) (r : Act) : Type 0 where
  pub means : (k : Tag) → kind_of tag ≡ tagged k → r ≡ act_for k e

pub record IndentIs (tag : ℕ) (prevent left r : Bool) : Type 0 where
  pub means : (k : Tag) → kind_of tag ≡ tagged k → r ≡ indent_of k prevent left

-- 12, 10 or 11, in this order, or none
abbrev pub refusal_of : Tag → State → Expression → Option Reason
refusal_of k st x = if (too_many_open k st) (Some R.OverLimit) (if (helper_name_differs k st x) (Some R.HelperName) (if (decorator_name_differs k st x) (Some R.DecoratorName) None))

pub record RefusalIs (text : Bytes) (tag count : ℕ) (opened end : std.Option Name) (r : Option Reason) : Type 0 where
  pub means : (k : Tag) (st : State) (x : Expression) → kind_of tag ≡ tagged k → count ≡ open_count st → NamesAre text opened end st x → r ≡ refusal_of k st x
