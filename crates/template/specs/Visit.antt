-- What a visit of a span answers: why the card is turned away, or the step to take, in terms of the specification's state.
use Rattle.std.specs.Prelude.{ℕ, ◌<◌, ◌≤◌, ◌≡◌, List, [], Bool, true, false, Some, None, unwrap_or, Result, Ok, Err, length}
use Rattle.std.specs.declared.option.Option as rattle
use Rattle.std.proofs.Math.Option.{Option, none, some}
use Rattle.support.specs.Bytes.{Bytes}
use Rattle.support.specs.Utf8.{is_char_boundary}
use Rattle.support.specs.Position.{place_at, place_of}
use Rattle.json_path.specs.Span.{span_count, spans_from}
use Rattle.expression.specs.Answers.{as_name_means}
use Rattle.listing.specs.Tree as T
use Rattle.listing.specs.Reading.{Elem, item}
use Rattle.template.specs.State as S
use Rattle.template.specs.State.{Owner, State, state, prev_end, owner, with_top, add_elem, trim_last, close_block, open_block, next_branch, else_branch, opened_name, open_count}
use Rattle.template.specs.Result.{refused}
use Rattle.template.specs.Nests.{takes_else}
use Rattle.template.specs.Walk.{walk}
use Rattle.template.specs.Refusal.{max_open}
use Rattle.template.specs.Element.{back_trim, item_means, head_means, wrap_means, Role, leaf, helper, wrapper, named_element}
use Rattle.template.specs.Store.{Is}
use Rattle.template.specs.Numbers.{reason_number}
use Rattle.template.specs.declared.element.Back.{Back}
use Rattle.template.specs.declared.element.Element.{Element}
use Rattle.template.specs.declared.frame.Opened.{Opened}
use Rattle.template.specs.declared.frame.Opened.TheVariants as O
use Rattle.template.specs.declared.frame.Stage.{Stage}
use Rattle.template.specs.declared.frame.Stage.TheVariants as G
use Rattle.template.specs.declared.frame.Marks.{Marks}
use Rattle.template.specs.declared.visit.Options.{Options}
use Rattle.template.specs.declared.visit.Here.{Here}
use Rattle.template.specs.declared.visit.View.{View}
use Rattle.template.specs.declared.visit.Act.{Act}
use Rattle.template.specs.declared.visit.Act.TheVariants as A
use Rattle.template.specs.declared.visit.Added.TheVariants as N
use Rattle.template.specs.declared.visit.Step.{Step}
use Rattle.template.specs.declared.refusal.Refusal.{Refusal}

-- ---- the marks

abbrev pub stage_means : Stage → S.Stage
stage_means G.Waiting = S.waiting
stage_means G.Filling = S.filling
stage_means G.Full = S.full

-- an end, if there is one
abbrev pub end_as : rattle.Option ℕ → Option ℕ
end_as (Some n) = some n
end_as None = none

abbrev pub end_means : Marks → Option ℕ
end_means m = end_as m.end_pos

-- the previous end, at first 0
abbrev pub prev_of : Marks → ℕ
prev_of m = unwrap_or m.end_pos 0

-- the state with the code's marks in place of its own
unfoldable pub with_marks : Marks → State → State
with_marks m st = state (stage_means m.stage) st.top st.outer (end_means m) m.omit_pro_ws m.trim_line_required

-- the marks are the state's; before the first span the previous end is 0
pub record MarksAre (m : Marks) (st : State) : Type 0 where
  pub stage : stage_means m.stage ≡ st.stage
  pub end_pos : end_means m ≡ st.end_pos
  pub previous : prev_of m ≡ prev_end st
  pub omit_pro_ws : m.omit_pro_ws ≡ st.omit_pro_ws
  pub trim_line : m.trim_line_required ≡ st.trim_line_required

-- ---- what the walk knows of the innermost body

-- its kind, and whether it is a plain else
abbrev pub OpenedIs : Opened → Bool → Owner → Type 0
OpenedIs O.Root i S.root = i ≡ false
OpenedIs O.Root i (S.helper raw p done h) = ⊥
OpenedIs O.Root i (S.in_else p h b done) = ⊥
OpenedIs O.Root i (S.wrapper p w) = ⊥
OpenedIs O.Helper i S.root = ⊥
OpenedIs O.Helper i (S.helper raw p done h) = (i ≡ false) × (raw ≡ false)
OpenedIs O.Helper i (S.in_else p h b done) = i ≡ true
OpenedIs O.Helper i (S.wrapper p w) = ⊥
OpenedIs O.Raw i S.root = ⊥
OpenedIs O.Raw i (S.helper raw p done h) = (i ≡ false) × (raw ≡ true)
OpenedIs O.Raw i (S.in_else p h b done) = ⊥
OpenedIs O.Raw i (S.wrapper p w) = ⊥
OpenedIs O.Decorator i S.root = ⊥
OpenedIs O.Decorator i (S.helper raw p done h) = ⊥
OpenedIs O.Decorator i (S.in_else p h b done) = ⊥
OpenedIs O.Decorator i (S.wrapper p (T.decor_block m d c)) = i ≡ false
OpenedIs O.Decorator i (S.wrapper p (T.partial_block m d c)) = ⊥
OpenedIs O.Partial i S.root = ⊥
OpenedIs O.Partial i (S.helper raw p done h) = ⊥
OpenedIs O.Partial i (S.in_else p h b done) = ⊥
OpenedIs O.Partial i (S.wrapper p (T.decor_block m d c)) = ⊥
OpenedIs O.Partial i (S.wrapper p (T.partial_block m d c)) = i ≡ false

-- the place found last is not behind the previous end, which stands between two characters
pub record HereIs (text : Bytes) (h : Here) (end : ℕ) : Type 0 where
  pub place : place_of h.place ≡ place_at text h.at
  pub before : h.at ≤ end
  pub inside : end ≤ length text
  pub between : is_char_boundary text end ≡ true

-- v tells what a visit asks of the state
pub record Tells (text : Bytes) (v : View) (st : State) : Type 0 where
  pub marks : MarksAre v.marks st
  pub opened : OpenedIs v.opened v.inverted (owner st)
  pub name : as_name_means text v.name ≡ opened_name (owner st)
  pub count : v.count ≡ open_count st
  pub here : HereIs text v.here (prev_end st)
  -- with no body around it the innermost one is the root's
  pub outermost : st.outer ≡ [] → owner st ≡ S.root

-- ---- steps

-- the answer about a span, as one about what may be the end of the list
abbrev pub some_step : Result Step Refusal → Result (rattle.Option Step) Refusal
some_step (Ok p) = Ok (Some p)
some_step (Err f) = Err f

module _ (text : Bytes) (words : List ℕ) where
  -- an element that was just made joins a body
  abbrev pub leaf_means : Element → Elem
  leaf_means e = item (place_of e.place) (item_means text words e.element)

  -- whose body a block start opens
  abbrev pub owner_means : Element → Opened → Owner
  owner_means e O.Root = S.root
  owner_means e O.Helper = S.helper false (place_of e.place) [] (head_means text words e.element)
  owner_means e O.Raw = S.helper true (place_of e.place) [] (head_means text words e.element)
  owner_means e O.Decorator = S.wrapper (place_of e.place) (wrap_means text words e.element)
  owner_means e O.Partial = S.wrapper (place_of e.place) (wrap_means text words e.element)

  abbrev pub gap_effect : rattle.Option Element → State → State
  gap_effect (Some e) st = add_elem (leaf_means e) st
  gap_effect None st = st

  abbrev pub trim_effect : Back → State → State
  trim_effect b st = with_top (trim_last (back_trim b) st.top) st

  abbrev pub act_effect : Act → State → State
  act_effect A.Skip st = st
  act_effect (A.Add e N.Leaf) st = add_elem (leaf_means e) st
  act_effect (A.Add e (N.Block o)) st = open_block (owner_means e o) st
  act_effect (A.Add e N.ElseIf) st = with_top (next_branch (head_means text words e.element) st.top) st
  act_effect A.Else st = with_top (else_branch st.top) st
  act_effect A.Close st = close_block st

  -- the state after a step: the gap, the trim, the act, the marks
  unfoldable pub applied : Step → State → State
  applied p st = with_marks p.marks (act_effect p.act (trim_effect p.back (gap_effect p.gap st)))

  -- an element that was just made, with a place
  pub record Made (r : Role) (e : Element) : Type 0 where
    pub new : e ≡ named_element e.element e.name e.place
    pub is : Is text words r (some (place_of e.place)) e

  -- the role of the block that a kind of body belongs to
  abbrev pub opened_role : Opened → Role
  opened_role O.Root = Role.nothing
  opened_role O.Helper = helper
  opened_role O.Raw = helper
  opened_role O.Decorator = wrapper
  opened_role O.Partial = wrapper

  -- the decorator block is opened as one, and the partial block
  abbrev pub WrapFits : Element → Opened → Type 0
  WrapFits e O.Root = Unit {0}
  WrapFits e O.Helper = Unit {0}
  WrapFits e O.Raw = Unit {0}
  WrapFits e O.Decorator = OpenedIs O.Decorator false (owner_means e O.Decorator)
  WrapFits e O.Partial = OpenedIs O.Partial false (owner_means e O.Partial)

  -- the act can be done
  abbrev pub Allowed : Act → State → Type 0
  Allowed A.Skip st = Unit {0}
  Allowed (A.Add e N.Leaf) st = Made leaf e
  Allowed (A.Add e (N.Block O.Root)) st = ⊥
  Allowed (A.Add e (N.Block O.Helper)) st = Made helper e × (open_count st < max_open)
  Allowed (A.Add e (N.Block O.Raw)) st = Made helper e × (open_count st < max_open)
  Allowed (A.Add e (N.Block O.Decorator)) st = Made wrapper e × WrapFits e O.Decorator × (open_count st < max_open)
  Allowed (A.Add e (N.Block O.Partial)) st = Made wrapper e × WrapFits e O.Partial × (open_count st < max_open)
  Allowed (A.Add e N.ElseIf) st = Made helper e × (takes_else (owner st) ≡ true) × (open_count st < max_open)
  Allowed A.Else st = takes_else (owner st) ≡ true
  Allowed A.Close st = owner st ≡ S.root → ⊥

  abbrev pub GapMade : rattle.Option Element → Type 0
  GapMade (Some e) = Made leaf e
  GapMade None = Unit {0}

  -- p is the step that the walk takes from st at number `at`
  pub record StepIs (o : Options) (at : ℕ) (p : Step) (st : State) : Type 0 where
    pub steps : walk text words o.prevent_indent o.is_partial st (spans_from words at) ≡ walk text words o.prevent_indent o.is_partial (applied p st) (spans_from words p.next)
    pub gap : GapMade p.gap
    pub act : Allowed p.act st
    -- a root that waits takes no gap
    pub gapless : st.stage ≡ S.waiting → owner st ≡ S.root → p.gap ≡ None
    pub here : HereIs text p.here (prev_of p.marks)
    pub previous : prev_of p.marks ≡ prev_end (with_marks p.marks st)
    pub onward : at < p.next
    pub inside : at < span_count words

  abbrev pub VisitMeans : Options → ℕ → Result (rattle.Option Step) Refusal → State → Type 0
  VisitMeans o at (Err f) st = walk text words o.prevent_indent o.is_partial st (spans_from words at) ≡ refused (reason_number f.reason) f.place
  VisitMeans o at (Ok None) st = spans_from words at ≡ []
  VisitMeans o at (Ok (Some p)) st = StepIs o at p st

  -- r is the visit of the walked span from number `at` on, from every state that v tells of
  pub record VisitIs (o : Options) (v : View) (at : ℕ) (r : Result (rattle.Option Step) Refusal) : Type 0 where
    pub means : (st : State) → Tells text v st → VisitMeans o at r st
