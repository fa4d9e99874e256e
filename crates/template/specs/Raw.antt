-- What a cut of the text denotes: its bytes without the first bytes of its escapes. The pieces between them are whole characters.
use mathlib.Core.HLevel.{×_prop}
use denote.Struct.Props.{props}
use Rattle.std.specs.Prelude.{ℕ, zero, suc, ◌+◌, ◌-◌, ◌≤◌, ◌<◌, ◌≡◌, List, [], ◌∷◌, Bool, ltb, length}
use Rattle.support.specs.Bytes.{Bytes, if, part}
use Rattle.support.specs.Utf8.{Valid}
use Rattle.support.specs.WhiteSpace.{trim_start, trim_end}
use Rattle.support.specs.TextRules.{trim_start_blanks, trim_end_blanks}
use Rattle.json_path.specs.Span.{Span, span_at}
use Rattle.template.specs.Escapes.{unescaped}
use Rattle.template.specs.declared.raw.Cut.{Cut}

-- n spans from number k on
unfoldable pub numbered : List ℕ → ℕ → ℕ → List Span
numbered words k zero = []
numbered words k (suc n) = span_at words k ∷ numbered words (k + 1) n

-- the escapes of a cut
abbrev pub cut_escapes : List ℕ → Cut → List Span
cut_escapes words c = numbered words c.first (c.last - c.first)

unfoldable pub cut_means : Bytes → List ℕ → Cut → Bytes
cut_means text words c = unescaped text c.start c.end (cut_escapes words c)

-- the text from a to e is UTF-8
pub record Piece (text : Bytes) (a e : ℕ) : Type 0 where
  pub order : a ≤ e
  pub inside : e ≤ length text
  pub valid : Valid (part text a e)

-- and so is each part of it between the first bytes of these escapes
abbrev pub Pieces : Bytes → ℕ → ℕ → List Span → Type 0
Pieces text a e [] = Piece text a e
Pieces text a e (x ∷ r) = Piece text a x.start × Pieces text (suc x.start) e r

pub record CutGood (text : Bytes) (words : List ℕ) (c : Cut) : Type 0 where
  pub pieces : Pieces text c.start c.end (cut_escapes words c)

-- A cut is good in one way at most, as a fact must be that a struct holds.
pieces_prop : (text : Bytes) (a e : ℕ) (xs : List Span) → IsProp (Pieces text a e xs)
pieces_prop text a e [] = hlevel props
pieces_prop text a e (x ∷ r) = ×_prop (hlevel props) (pieces_prop text (suc x.start) e r)

pub CutGood-prop : (text : Bytes) (words : List ℕ) (c : Cut) → IsProp (CutGood text words c)
CutGood-prop text words c x y = λ i. record { pieces = pieces_prop text c.start c.end (cut_escapes words c) x.pieces y.pieces i }

-- c is a good cut, and denotes t
pub record CutIs (text : Bytes) (words : List ℕ) (t : Bytes) (c : Cut) : Type 0 where
  pub good : CutGood text words c
  pub means : cut_means text words c ≡ t

-- where its first piece ends, and where its last one starts
abbrev pub piece_end : List ℕ → Cut → ℕ
piece_end words c = if (ltb c.first c.last) (span_at words c.first).start c.end

abbrev pub piece_start : List ℕ → Cut → ℕ
piece_start words c = if (ltb c.first c.last) ((span_at words (c.last - 1)).start + 1) c.start

-- the cut from another start, to another end, and what is left without the first piece, which ends at e, or the last, which starts at a
abbrev pub from_start : Cut → ℕ → Cut
from_start c a = record { start = a; end = c.end; first = c.first; last = c.last }

abbrev pub to_end : Cut → ℕ → Cut
to_end c e = record { start = c.start; end = e; first = c.first; last = c.last }

abbrev pub without_first : Cut → ℕ → Cut
without_first c e = record { start = e + 1; end = c.end; first = c.first + 1; last = c.last }

abbrev pub without_last : Cut → ℕ → Cut
without_last c a = record { start = c.start; end = a - 1; first = c.first; last = c.last - 1 }

-- r denotes t; and if it has an escape, a byte stands before that
pub record Skipped (text : Bytes) (words : List ℕ) (t : Bytes) (r : Cut) : Type 0 where
  pub is : CutIs text words t r
  pub byte : r.first < r.last → r.start < piece_end words r

-- the front, and the end, trimmed of White_Space or of blanks
abbrev pub start_trim : Bool → Bytes → Bytes
start_trim white t = if white (trim_start t) (trim_start_blanks t)

abbrev pub end_trim : Bool → Bytes → Bytes
end_trim white t = if white (trim_end t) (trim_end_blanks t)
