-- The end of the walk: whether it is unfinished, the text that is left, and the listing.
use Rattle.std.specs.Prelude.{ℕ, ◌≤◌, ◌<◌, ◌≡◌, List, Bool, ◌&&◌, ◌||◌, not, Option, Some, None, is_none, Ok, Err, ltb, length}
use Rattle.std.specs.declared.result.Result as rattle
use Rattle.std.proofs.lemmas.List.Edits.{sets}
use Rattle.support.specs.Bytes.{Bytes, part}
use Rattle.support.specs.Position.{place_of, line_col}
use Rattle.json_path.specs.Span.{span_count}
use Rattle.listing.specs.Tree.{Body}
use Rattle.listing.specs.Listing.{write, listing}
use Rattle.listing.specs.Written.{largest, Written}
use Rattle.template.specs.Result.{Result, accepted, refused, ◌>>=◌}
use Rattle.template.specs.Nests.{is_filling}
use Rattle.template.specs.Walk.{read_spans}
use Rattle.template.specs.Compile.{fit}
use Rattle.template.specs.Element.{new_element}
use Rattle.template.specs.Store.{Holds}
use Rattle.template.specs.Visit.{stage_means, prev_of}
use Rattle.template.specs.Numbers.{reason_number}
use Rattle.template.specs.declared.refusal.Refusal.{Refusal}
use Rattle.template.specs.declared.element.Front.TheVariants as Front
use Rattle.template.specs.declared.element.Back.TheVariants as Back
use Rattle.template.specs.declared.element.RawString.{RawString}
use Rattle.template.specs.declared.element.TemplateElement.TheVariants as E
use Rattle.template.specs.declared.element.Element.{Element}
use Rattle.template.specs.declared.frame.Marks.{Marks}
use Rattle.template.specs.declared.visit.Here.{Here}
use Rattle.template.specs.declared.visit.Options.{Options}

-- 7 at the end of the list, by the marks and the bodies around
abbrev pub unfinished_at : Bytes → Marks → ℕ → Bool
unfinished_at text m depth = not (is_filling (stage_means m.stage)) || (ltb 0 depth || (ltb (prev_of m) (length text) && is_none m.end_pos))

-- the text after the last previous end, with no escapes
abbrev pub rest_text : Bytes → List ℕ → Marks → RawString
rest_text text words m = record { start = prev_of m; end = length text; escapes = span_count words; front = Front.Kept; back = Back.Kept }

-- e is its element
pub record RestMade (text : Bytes) (words : List ℕ) (m : Marks) (h : Here) (e : Element) : Type 0 where
  pub left : prev_of m < length text
  pub new : e ≡ new_element (E.RawString (rest_text text words m)) e.place
  pub place : place_of e.place ≡ line_col (place_of h.place) (part text h.at (prev_of m))

-- the two answers about it
abbrev pub RestMeans : Bytes → List ℕ → Marks → Here → Option Element → Type 0
RestMeans text words m h (Some e) = RestMade text words m h e
RestMeans text words m h None = length text ≤ prev_of m

-- r is its element, or no text is left
pub record RestIs (text : Bytes) (words : List ℕ) (m : Marks) (h : Here) (r : Option Element) : Type 0 where
  pub means : RestMeans text words m h r

-- what the walk lists, or why it does not
abbrev pub walk_listing : Bytes → List ℕ → Options → Result Bytes
walk_listing text words o = do
  r ← read_spans text words o.prevent_indent o.is_partial
  accepted (listing r)

-- the same where the listing may be too long
abbrev pub walk_answer : Bytes → List ℕ → Options → ℕ → Result Bytes
walk_answer text words o room = do
  r ← read_spans text words o.prevent_indent o.is_partial
  fit room (listing r)

-- whatever tree the store holds from `first` on is listed, and the listing has n bytes: the output was l and is m
pub record TreeIs (text : Bytes) (words : List ℕ) (st : List Element) (first : ℕ) (l m : Bytes) (n : ℕ) : Type 0 where
  pub lists : (b : Body) → Holds text words st first b → Written (write b) l 0 m n
  pub short : n < largest

-- the listing has n bytes, and as many of them as there is room for are stored: the output was l and is m
pub record Buffers (x : Result Bytes) (l m : Bytes) (n : ℕ) : Type 0 where
  pub bytes : Bytes
  pub answer : x ≡ accepted bytes
  pub count : n ≡ length bytes
  pub stored : m ≡ sets l 0 bytes

-- what an answer of the walk means
abbrev pub BufferedMeans : Result Bytes → Bytes → Bytes → rattle.Result ℕ Refusal → Type 0
BufferedMeans x l m (Ok n) = Buffers x l m n
BufferedMeans x l m (Err f) = (x ≡ refused (reason_number f.reason) f.place) × (m ≡ l)

pub record BufferedIs (x : Result Bytes) (l m : Bytes) (r : rattle.Result ℕ Refusal) : Type 0 where
  pub means : BufferedMeans x l m r
