-- What is answered to the questions about a walked span, from every state that the arguments tell of.
use Rattle.std.specs.Prelude as std
use Rattle.std.specs.Prelude.{ℕ, ◌≡◌, Bool}
use Rattle.support.specs.Bytes.{Bytes}
use Rattle.json_path.specs.Span.{Span}
use Rattle.expression.specs.Expression.{Expression, name_of}
use Rattle.expression.specs.Answers.{as_name_means}
use Rattle.json_path.specs.declared.path.Name.{Name}
use Rattle.template.specs.Kind.{BlockKind, helper_block, raw_block, decorator_block, partial_block, Tag, tagged, kind_of}
use Rattle.template.specs.State.{Owner, State, owner, opened_name, open_count}
use Rattle.template.specs.Nests.{kept_gap, is_raw, takes_else, is_of_kind, nests}
use Rattle.template.specs.Refusal.{too_many_open, helper_name_differs, decorator_name_differs}
use Rattle.template.specs.Visit.{stage_means, MarksAre, OpenedIs}
use Rattle.template.specs.declared.frame.Opened.{Opened}
use Rattle.template.specs.declared.frame.Stage.{Stage}
use Rattle.template.specs.declared.frame.Marks.{Marks}

-- r: a gap stands before s and is kept
pub record KeptIs (m : Marks) (s : Span) (r : Bool) : Type 0 where
  pub means : (st : State) → MarksAre m st → r ≡ kept_gap st s

-- r: the innermost block is raw; it takes an else; it is of the kind that the end tag closes
pub record RawIs (o : Opened) (r : Bool) : Type 0 where
  pub means : (i : Bool) (w : Owner) → OpenedIs o i w → r ≡ is_raw w

pub record TakesIs (o : Opened) (i : Bool) (r : Bool) : Type 0 where
  pub means : (w : Owner) → OpenedIs o i w → r ≡ takes_else w

-- the tag that ends a block of this kind
abbrev pub end_tag : BlockKind → ℕ
end_tag helper_block = 15
end_tag raw_block = 16
end_tag decorator_block = 17
end_tag partial_block = 18

pub record OfKindIs (tag : ℕ) (o : Opened) (r : Bool) : Type 0 where
  pub means : (k : BlockKind) (i : Bool) (w : Owner) → end_tag k ≡ tag → OpenedIs o i w → r ≡ is_of_kind k w

-- r: the span has its place in the nesting
pub record NestsIs (g : Stage) (o : Opened) (i : Bool) (tag : ℕ) (gap : Bool) (r : Bool) : Type 0 where
  pub means : (st : State) → stage_means g ≡ st.stage → OpenedIs o i (owner st) → r ≡ nests (kind_of tag) gap st

-- r: one more open block or else-if is too many
pub record TooManyIs (tag count : ℕ) (r : Bool) : Type 0 where
  pub means : (k : Tag) (st : State) → kind_of tag ≡ tagged k → count ≡ open_count st → r ≡ too_many_open k st

-- the names are those of the opening tag and of the expression x
pub record NamesAre (text : Bytes) (opened end : std.Option Name) (st : State) (x : Expression) : Type 0 where
  pub opens : as_name_means text opened ≡ opened_name (owner st)
  pub closes : as_name_means text end ≡ name_of x.call_of

-- r: 10; 11
pub record HelperDiffersIs (text : Bytes) (tag : ℕ) (opened end : std.Option Name) (r : Bool) : Type 0 where
  pub means : (k : Tag) (st : State) (x : Expression) → kind_of tag ≡ tagged k → NamesAre text opened end st x → r ≡ helper_name_differs k st x

pub record DecoratorDiffersIs (text : Bytes) (tag : ℕ) (opened end : std.Option Name) (r : Bool) : Type 0 where
  pub means : (k : Tag) (st : State) (x : Expression) → kind_of tag ≡ tagged k → NamesAre text opened end st x → r ≡ decorator_name_differs k st x
