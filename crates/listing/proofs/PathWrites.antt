-- The bytes of a path's forms, piece by piece as the writers store them, and the loop over its segments: what writes the rest
-- writes the whole. Assumes nothing.
use Prim.Native.Nat.{ℕ}
use mathlib.Core.Path.{◌≡◌, sym, ap, subst}
use mathlib.Core.List.{List, [], ◌∷◌, ◌++◌, append-nil, append_assoc}
use Rattle.support.specs.Bytes.{Bytes, ascii}
use Rattle.json_path.specs.Answers.{segment_means, segments_mean, Segments, path_means}
use Rattle.json_path.specs.declared.path.PathSeg.{PathSeg}
use Rattle.json_path.specs.declared.path.Relative.{Relative}
use Rattle.json_path.specs.declared.path.Path.{Path}
use Rattle.listing.specs.Quoted.{decimal, quoted}
use Rattle.listing.specs.Form.{Word, spell, number, quote, write_field, write_fields, write_head, line, open_form, Forms, write_form, write_forms}
use Rattle.listing.specs.Listing.{segment_form, segment_forms, path_form}
use Rattle.listing.specs.Wrote.{Wrote}
use Rattle.listing.specs.declared.writer.Writer.{Writer}
use Rattle.listing.proofs.Writers.{Onward, onward_as, onward_next, onward_end}

-- ---- the bytes of a form

-- `[word "t"` and what follows
pub quote_head : (w : Word) (t x : Bytes) → write_head w (quote t ∷ []) ++ x ≡ (ascii "[" ++ (spell w ++ ascii " ")) ++ (quoted t ++ x)
unfolding write_head write_fields write_field
quote_head w t x = simp (append-nil, append_assoc)

pub seg_bytes : (t : Bytes) → write_form (line Word.seg (quote t ∷ [])) ≡ ascii "[seg " ++ (quoted t ++ ascii "]\n")
unfolding write_form
seg_bytes t = quote_head Word.seg t (ascii "]\n")

pub path_bytes : (t : Bytes) (ks : Forms)
    → write_form (open_form Word.path (quote t ∷ []) ks) ≡ ascii "[path " ++ (quoted t ++ (ascii "\n" ++ (write_forms ks ++ ascii "]\n")))
unfolding write_form
path_bytes t ks = quote_head Word.path t (ascii "\n" ++ (write_forms ks ++ ascii "]\n"))

pub local_bytes : (n : ℕ) (a b : Bytes)
    → write_form (line Word.local (number n ∷ quote a ∷ quote b ∷ [])) ≡ ascii "[local " ++ (decimal n ++ (ascii " " ++ (quoted a ++ (ascii " " ++ (quoted b ++ ascii "]\n")))))
unfolding write_form write_head write_fields write_field
local_bytes n a b = simp (append-nil, append_assoc)

-- ---- segments

-- a segment told by its case
pub segment_is : {a b : Writer} (text : Bytes) (g h : PathSeg) → g ≡ h → Wrote (write_form (segment_form (segment_means text h))) a b
    → Wrote (write_form (segment_form (segment_means text g))) a b
segment_is {a} {b} text g h e w = subst (λ z. Wrote (write_form (segment_form (segment_means text z))) a b) (sym e) w

-- the bytes of the segments
abbrev pub segments_bytes : Bytes → List ℕ → Relative → Bytes
segments_bytes text words path = write_forms (segment_forms (segments_mean text words path))

module _ (text : Bytes) (words : List ℕ) (rest : Relative) {w : Bytes} {a b : Writer} (o : Onward w (segments_bytes text words rest) a b) where
  pub segments_next : {after : Relative} {g : PathSeg} {c : Writer} → Segments text words rest g after
      → Wrote (write_form (segment_form (segment_means text g))) b c → Onward w (segments_bytes text words after) a c
  unfolding segment_forms write_form
  segments_next s v = onward_next (onward_as (ap (λ ss. write_forms (segment_forms ss)) s.first) o) v

  pub segments_end : segments_mean text words rest ≡ [] → Wrote w a b
  unfolding segment_forms write_form
  segments_end e = onward_end (onward_as (ap (λ ss. write_forms (segment_forms ss)) e) o)

-- ---- a path told by its case
pub path_is : {a b : Writer} (text : Bytes) (words : List ℕ) (g h : Path) → g ≡ h
    → Wrote (write_form (path_form (path_means text words h))) a b
    → Wrote (write_form (path_form (path_means text words g))) a b
path_is {a} {b} text words g h e w = subst (λ z. Wrote (write_form (path_form (path_means text words z))) a b) (sym e) w
