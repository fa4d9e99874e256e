-- What a turn of the walk does to the store: the values that it stores, and where.
use Rattle.std.specs.Prelude.{ℕ, ◌+◌, ◌-◌, ◌≤◌, ◌<◌, ◌≡◌, List, Bool, true, false, Option, Some, None, Result, Ok, eqb, length, get_or, set}
use Rattle.support.specs.Bytes.{Bytes, if}
use Rattle.template.specs.Element.{empty_element}
use Rattle.template.specs.Store.{element_at}
use Rattle.template.specs.Links.{inverse_node, followed_by, set_template, set_inverse, trim_end_of}
use Rattle.template.specs.Visit.{VisitIs}
use Rattle.template.specs.declared.element.Back.TheVariants as Back
use Rattle.template.specs.declared.element.Element.{Element}
use Rattle.template.specs.declared.frame.Frame.{Frame}
use Rattle.template.specs.declared.frame.Opened.{Opened}
use Rattle.template.specs.declared.frame.Opened.TheVariants as O
use Rattle.template.specs.declared.visit.Act.{Act}
use Rattle.template.specs.declared.visit.Act.TheVariants as A
use Rattle.template.specs.declared.visit.Added.{Added}
use Rattle.template.specs.declared.visit.Added.TheVariants as N
use Rattle.template.specs.declared.visit.Options.{Options}
use Rattle.template.specs.declared.visit.View.{View}
use Rattle.template.specs.declared.visit.Step.{Step}
use Rattle.template.specs.declared.refusal.Refusal.{Refusal}
use Rattle.template.specs.declared.turn.Turn.{Turn}
use Rattle.template.specs.declared.turn.Plan.{Plan}
use Rattle.template.specs.declared.turn.Open.{Open}
use Rattle.template.specs.declared.turn.Gapped.{Gapped}
use Rattle.template.specs.declared.turn.Standing.{Standing}

-- the root's body, with nothing in it
abbrev pub empty_frame : Frame
empty_frame = record { opened = O.Root; block = 0; head = 0; first = 0; last = 0; chain = false; inverted = false }

-- the newest else-if node, if there is one
unfoldable pub head_of : ℕ → Option ℕ
head_of n = if (eqb n 0) None (Some n)

-- the element that the open body belongs to: the newest else-if node, or the block
unfoldable pub ref_chain_head : ℕ → ℕ → ℕ
ref_chain_head block head = if (eqb head 0) block head

-- the body on top without elements
abbrev pub emptied : Frame → Bool → Frame
emptied x i = record { opened = x.opened; block = x.block; head = x.head; first = 0; last = 0; chain = x.chain; inverted = i }

-- the body on top with another first and last element
abbrev pub filled : Frame → ℕ → ℕ → Frame
filled x f l = record { opened = x.opened; block = x.block; head = x.head; first = f; last = l; chain = x.chain; inverted = x.inverted }

-- the frame of a block that begins
abbrev pub begun : Opened → ℕ → Frame
begun op at = record { opened = op; block = at; head = 0; first = 0; last = 0; chain = false; inverted = false }

-- the frame of the branch that begins with the node at `at`
abbrev pub branched : Frame → ℕ → Frame
branched x at = record { opened = x.opened; block = x.block; head = at; first = 0; last = 0; chain = true; inverted = false }

-- the frame while its newest node is turned round
abbrev pub reverted : Frame → ℕ → Frame
reverted x rest = record { opened = x.opened; block = x.block; head = rest; first = x.head; last = 0; chain = x.chain; inverted = true }

-- ---- plans

-- one more body, element and else-if have a number
abbrev pub OpenFits : Open → Type 0
OpenFits o = (o.depth ≤ 64) × (o.len ≤ 8192) × (o.count ≤ 64)

-- nothing happens, or `join` joins the body on top
abbrev pub plain_plan : Open → Element → ℕ → ℕ → Plan
plain_plan o made len join =
    record { made = made; owner = o.owner; top = o.top; put = o.below; slot = o.depth - 1; depth = o.depth; len = len; count = o.count; join = join; closing = false }

abbrev pub begin_plan : Open → Element → Opened → Plan
begin_plan o made op =
    record { made = made; owner = o.owner; top = begun op o.len; put = o.top; slot = o.depth; depth = o.depth + 1; len = o.len + 1; count = o.count + 1; join = 0; closing = false }

-- the open body becomes its owner's, and the next branch begins
abbrev pub chain_plan : Open → Element → Plan
chain_plan o made =
    record { made = inverse_node made o.top.head; owner = set_template o.owner o.top.first; top = branched o.top o.len; put = o.below; slot = o.depth - 1; depth = o.depth; len = o.len + 1; count = o.count + 1; join = 0; closing = false }

-- the open body becomes its owner's; another, or none, is open then
abbrev pub template_plan : Open → Bool → Bool → Plan
template_plan o inverted closing =
    record { made = empty_element; owner = set_template o.owner o.top.first; top = emptied o.top inverted; put = o.below; slot = o.depth - 1; depth = o.depth; len = o.len; count = o.count; join = 0; closing = closing }

-- the plain else's body stays in the frame: it is what has been turned so far
abbrev pub shut_plan : Open → Plan
shut_plan o =
    record { made = empty_element; owner = o.owner; top = o.top; put = o.below; slot = o.depth - 1; depth = o.depth; len = o.len; count = o.count; join = 0; closing = true }

-- the newest else-if node gets what has been turned so far as its else
abbrev pub revert_plan : Open → Plan
revert_plan o =
    record { made = empty_element; owner = set_inverse o.owner o.top.first o.top.inverted true; top = reverted o.top o.owner.inverse; put = o.below; slot = o.depth - 1; depth = o.depth; len = o.len; count = o.count - 1; join = 0; closing = true }

-- the block gets what has been turned as its else, and joins the body around it
abbrev pub inverse_plan : Open → Plan
inverse_plan o =
    record { made = empty_element; owner = set_inverse o.owner o.top.first o.top.inverted o.top.chain; top = o.below; put = o.below; slot = o.depth - 1; depth = o.depth - 1; len = o.len; count = o.count - 1; join = o.top.block; closing = false }

-- the open body is complete
abbrev pub close_plan : Open → Plan
close_plan o = if o.top.inverted (shut_plan o) (template_plan o false true)

-- an element is added: it joins the body, opens a block, or is an else-if's node
unfoldable pub add_plan : Element → Added → Open → Plan
add_plan e N.Leaf o = plain_plan o e (o.len + 1) o.len
add_plan e (N.Block op) o = begin_plan o e op
add_plan e N.ElseIf o = chain_plan o e

unfoldable pub act_plan : Act → Open → Plan
act_plan A.Skip o = plain_plan o empty_element o.len 0
act_plan (A.Add e n) o = add_plan e n o
act_plan A.Else o = template_plan o true false
act_plan A.Close o = close_plan o

unfoldable pub plan_of : Turn → Open → Plan
plan_of (Turn.Act a) o = act_plan a o
plan_of Turn.Revert o = revert_plan o
plan_of Turn.Set o = inverse_plan o

-- the turn: while a block closes, its newest node is turned round, or it is complete
unfoldable pub turn_of : Bool → ℕ → Act → Turn
turn_of closing head a = if closing (if (eqb head 0) Turn.Set Turn.Revert) (Turn.Act a)

-- ---- joining

-- a frame and the last element of its body
pub record Joined : Type 0 where
  pub top : Frame
  pub last : Element

-- the frame and the last element of its body, with `at` behind them
unfoldable pub joined_of : Frame → Element → ℕ → Joined
joined_of x last at =
    if (eqb at 0) (record { top = x; last = last })
    (if (eqb x.last 0) (record { top = filled x at at; last = last }) (record { top = filled x x.first at; last = followed_by last at }))

-- y is the frame, in the store that was st and is st', with the element at `at` behind the last one of its body
pub record JoinedIs (st : List Element) (x : Frame) (at : ℕ) (st' : List Element) (y : Frame) : Type 0 where
  pub store : st' ≡ set st x.last (joined_of x (element_at st x.last) at).last
  pub top : y ≡ (joined_of x (element_at st x.last) at).top

-- the gap's element, if it is kept
unfoldable pub gapped_of : Option Element → ℕ → Gapped
gapped_of (Some e) len = record { made = e; len = len + 1; join = len }
gapped_of None len = record { made = empty_element; len = len; join = 0 }

-- ---- a turn, stage by stage

module _ (st : List Element) (lv : List Frame) (b : Standing) (s : Step) where
  -- the gap is made
  abbrev pub gap_made : Gapped
  gap_made = gapped_of s.gap b.len

  -- it joins the body on top
  abbrev pub gap_joined : Joined
  gap_joined = joined_of b.top (element_at (set st b.len gap_made.made) b.top.last) gap_made.join

  -- the store with both
  abbrev pub gap_store : List Element
  gap_store = set (set st b.len gap_made.made) b.top.last gap_joined.last

  -- the last text is trimmed
  abbrev pub text_trimmed : Element
  text_trimmed = trim_end_of (element_at gap_store gap_joined.top.last) s.back

  -- the store with the text trimmed
  abbrev pub trim_store : List Element
  trim_store = set gap_store gap_joined.top.last text_trimmed

  -- the owner of the open body
  abbrev pub owner_at : ℕ
  owner_at = ref_chain_head gap_joined.top.block gap_joined.top.head

  -- the act is planned
  abbrev pub act_planned : Plan
  act_planned =
      plan_of (turn_of b.closing gap_joined.top.head s.act)
      (record { top = gap_joined.top; below = get_or lv (b.depth - 1) empty_frame; owner = element_at trim_store owner_at; depth = b.depth; len = gap_made.len; count = b.count })

  -- the store with what the plan makes
  abbrev pub act_store : List Element
  act_store = set (set trim_store gap_made.len act_planned.made) owner_at act_planned.owner

  -- an element joins the body that is on top then
  abbrev pub act_joined : Joined
  act_joined = joined_of act_planned.top (element_at act_store act_planned.top.last) act_planned.join

  -- what the stages load and store is there
  pub record TurnFits : Type 0 where
    pub short : length st ≤ 8193
    pub wide : length lv ≡ 64
    pub len : b.len < length st
    pub last : b.top.last < length st
    pub joined : gap_joined.top.last < length st
    pub owner : owner_at < length st
    pub deep : b.depth ≤ 64
    pub count : b.count ≤ 64
    pub room : gap_made.len < length st
    pub slot : act_planned.slot < 64
    pub planned : act_planned.top.last < length st

  -- what the turn leaves
  pub record TurnIs (st' : List Element) (lv' : List Frame) (b' : Standing) : Type 0 where
    pub store : st' ≡ set act_store act_planned.top.last act_joined.last
    pub frames : lv' ≡ set lv act_planned.slot act_planned.put
    pub standing :
        b' ≡ record {
          top = act_joined.top;
          marks = s.marks;
          here = s.here;
          depth = act_planned.depth;
          len = act_planned.len;
          count = act_planned.count;
          closing = act_planned.closing;
          at = s.next;
        }

-- ---- what is visited

-- nothing happens
abbrev pub still_step : View → ℕ → Step
still_step v at = record { gap = None; back = Back.Kept; act = A.Skip; marks = v.marks; here = v.here; next = at }

-- r is what a turn does first: while a block closes nothing, else the visit
pub record LookIs (text : Bytes) (words : List ℕ) (o : Options) (v : View) (at : ℕ) (closing : Bool) (r : Result (Option Step) Refusal) : Type 0 where
  pub still : closing ≡ true → r ≡ Ok (Some (still_step v at))
  pub visits : closing ≡ false → VisitIs text words o v at r
