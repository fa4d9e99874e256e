-- What the answers of the code mean: each case of an enum in terms of the lists of specs/Span and specs/Path.
use Rattle.std.specs.Prelude.{ℕ, ◌+◌, ◌≤◌, ◌<◌, ◌≡◌, List, [], ◌∷◌, Option, Some, None, option_map}
use Rattle.support.specs.Bytes.{Bytes, part}
use Rattle.json_path.specs.Span.{Span, span_count, span_at, spans_from, escapes_from, skip_to}
use Rattle.json_path.specs.Path.{Segment, named, root, here, up, relative, local, segments_to, path_at}
use Rattle.json_path.specs.Path as spec
use Rattle.json_path.specs.declared.path.Name.{Name}
use Rattle.json_path.specs.declared.path.PathSeg.{PathSeg}
use Rattle.json_path.specs.declared.path.PathSeg.TheVariants.{Named, Root, Here, Up}
use Rattle.json_path.specs.declared.path.Relative.{Relative}
use Rattle.json_path.specs.declared.path.Path.{Path}
use Rattle.json_path.specs.declared.path.PathRead.{PathRead}

-- ---- spans

-- s is the first of the walked spans from number k on
pub record Walked (words : List ℕ) (k : ℕ) (s : Span) : Type 0 where
  pub first : spans_from words k ≡ s ∷ spans_from words (s.number + 1)
  pub stands : s ≡ span_at words s.number
  pub no_escape : s.tag ≡ 4 → ⊥
  pub from : k ≤ s.number
  pub inside : s.number < span_count words

-- the span is the next walked one; at the end none is left
abbrev pub NextMeans : List ℕ → ℕ → Option Span → Type 0
NextMeans words k (Some s) = Walked words k s
NextMeans words k None = spans_from words k ≡ []

-- r answers for the walked spans from number k on
pub record NextIs (words : List ℕ) (k : ℕ) (r : Option Span) : Type 0 where
  pub means : NextMeans words k r

-- s is the first of the escapes from number k on
pub record Escapes (words : List ℕ) (k : ℕ) (s : Span) : Type 0 where
  pub first : escapes_from words k ≡ s ∷ escapes_from words (k + 1)
  pub stands : s ≡ span_at words k
  pub escape : s.tag ≡ 4
  pub inside : k < span_count words

-- the span is the escape at number k; else no escape stands there
abbrev pub EscapeMeans : List ℕ → ℕ → Option Span → Type 0
EscapeMeans words k (Some s) = Escapes words k s
EscapeMeans words k None = escapes_from words k ≡ []

-- r answers for the escapes from number k on
pub record EscapeIs (words : List ℕ) (k : ℕ) (r : Option Span) : Type 0 where
  pub means : EscapeMeans words k r

-- the spans from number r on follow those, from number k on, whose end is not beyond the limit
pub record SkipIs (words : List ℕ) (limit k r : ℕ) : Type 0 where
  pub rest : skip_to limit (spans_from words k) ≡ spans_from words r
  pub onward : k ≤ r

-- ---- paths

-- the bytes of a name
abbrev pub name_means : Bytes → Name → Bytes
name_means text n = part text n.start n.end

-- the segment that a value of the code denotes
abbrev pub segment_means : Bytes → PathSeg → Segment
segment_means text (Named n) = named (name_means text n)
segment_means text Root = root
segment_means text Here = here
segment_means text Up = up

-- what a span gives: a segment, or none
abbrev pub given_means : Bytes → Option PathSeg → Option Segment
given_means text o = option_map (segment_means text) o

-- the level and the name of a local path, or none
abbrev pub local_means : Bytes → Option (ℕ × Name) → Option (ℕ × Bytes)
local_means text o = option_map (λ l. (l.0, name_means text l.1)) o

-- the segments of a relative path
abbrev pub segments_mean : Bytes → List ℕ → Relative → List Segment
segments_mean text words p = segments_to text p.raw.end (spans_from words p.from)

-- g is the first segment of p; q has p's raw text and the other segments
pub record Segments (text : Bytes) (words : List ℕ) (p : Relative) (g : PathSeg) (q : Relative) : Type 0 where
  pub first : segments_mean text words p ≡ segment_means text g ∷ segments_mean text words q
  pub raw : q ≡ record { raw = p.raw; from = q.from }
  pub onward : p.from < q.from
  pub inside : q.from ≤ span_count words

-- the first segment and the path of the others; at the end none is left
abbrev pub SegmentReadMeans : Bytes → List ℕ → Relative → Option (PathSeg × Relative) → Type 0
SegmentReadMeans text words p (Some (g, q)) = Segments text words p g q
SegmentReadMeans text words p None = segments_mean text words p ≡ []

-- r answers for the segments of p
pub record SegmentIs (text : Bytes) (words : List ℕ) (p : Relative) (r : Option (PathSeg × Relative)) : Type 0 where
  pub means : SegmentReadMeans text words p r

-- asking for one segment of p after the other, up to the end, answers these
pub data Traversed (text : Bytes) (words : List ℕ) : Relative → List Segment → Type 0 where
  ended : {p : Relative} → SegmentIs text words p None → Traversed text words p []
  step : {p q : Relative} {g : PathSeg} {ss : List Segment} → SegmentIs text words p (Some (g, q)) → Traversed text words q ss → Traversed text words p (segment_means text g ∷ ss)

-- the raw text of a path
abbrev pub raw_means : Bytes → Path → Bytes
raw_means text (Path.Relative p) = name_means text p.raw
raw_means text (Path.Local p) = name_means text p.raw

-- the path that a value of the code denotes
abbrev pub path_means : Bytes → List ℕ → Path → spec.Path
path_means text words (Path.Relative p) = relative (name_means text p.raw) (segments_mean text words p)
path_means text words (Path.Local p) = local p.level (name_means text p.name) (name_means text p.raw)

-- r is the path of reference s and of the spans from number k on, with the number from which the spans after it are
pub record PathIs (text : Bytes) (words : List ℕ) (s : Span) (k : ℕ) (r : PathRead) : Type 0 where
  pub means : path_means text words r.path ≡ path_at text s (spans_from words k)
  pub rest : skip_to s.end (spans_from words k) ≡ spans_from words r.next
  pub onward : k ≤ r.next
