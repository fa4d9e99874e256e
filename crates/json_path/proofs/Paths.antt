-- Paths as the crates above meet them: the raw text that every path keeps, and that going through a relative path's segments
-- gives exactly its list. By cases on the path, and by recursion over the answers. Assumes nothing.
use Prim.Native.Nat.{ℕ}
use mathlib.Core.Path.{◌≡◌, refl, sym, ap, ◌∙◌}
use mathlib.Core.List.{List, ◌∷◌}
use Rattle.std.specs.Prelude.{Option, Some, None}
use Rattle.support.specs.Bytes.{Bytes}
use Rattle.json_path.specs.Path.{Segment, raw_text, local_name, path_of}
use Rattle.json_path.specs.Answers.{segment_means, segments_mean, Traversed, ended, step, raw_means, path_means}
use Rattle.json_path.specs.declared.path.Path.{Path}
use Rattle.json_path.specs.declared.path.Path.TheVariants.{Relative, Local}
use Rattle.json_path.specs.declared.path.Relative as declared

-- every path keeps its raw text
pub raw_kept : (raw : Bytes) (ss : List Segment) → raw_text (path_of raw ss) ≡ raw
unfolding path_of
raw_kept raw ss = go (local_name ss) refl
  where
    go : (o : Option (ℕ × Bytes)) → local_name ss ≡ o → raw_text (path_of raw ss) ≡ raw
    go None e = rw (e, path_of)
    go (Some p) e = rw (e, path_of)

-- the raw text of a value of the code is that of the path it denotes
pub raw_denoted : (text : Bytes) (words : List ℕ) (p : Path) → raw_means text p ≡ raw_text (path_means text words p)
raw_denoted text words (Relative p) = refl
raw_denoted text words (Local p) = refl

-- the segments answered one after the other are exactly those of the path
pub traversed_all : {text : Bytes} {words : List ℕ} {p : declared.Relative} {ss : List Segment} → Traversed text words p ss → ss ≡ segments_mean text words p
traversed_all (ended h) = sym h.means
traversed_all {text} (step {g = g} h r) = ap (λ z. segment_means text g ∷ z) (traversed_all r) ∙ sym h.means.first
