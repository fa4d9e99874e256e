-- Writing a cut piece by piece: what is written and what the rest denotes make up the whole. Assumes nothing.
use Prim.Native.Nat.{ℕ, ◌≤◌, ◌<◌}
use mathlib.Core.Path.{◌≡◌, refl, sym, ap, ◌∙◌}
use mathlib.Core.List.{List, [], ◌++◌, append-nil, append_assoc}
use Rattle.support.specs.Bytes.{Bytes, part}
use Rattle.listing.specs.Quoted.{escaped}
use Rattle.listing.specs.Wrote.{Wrote}
use Rattle.listing.specs.declared.writer.Writer.{Writer}
use Rattle.listing.proofs.Writes.{escaped_append}
use Rattle.listing.proofs.Writers.{wrote_none, wrote_then}
use Rattle.template.specs.Raw.{cut_means, piece_end, without_first}
use Rattle.template.specs.declared.raw.Cut.{Cut}
use Rattle.template.proofs.CutLaws.{rest_means, rest_more, rest_none, split_front}

pub record Writing (text : Bytes) (words : List ℕ) (t : Bytes) (a : Writer) (c : Cut) (b : Writer) : Type 0 where
  pub done : Bytes
  pub written : Wrote (escaped done) a b
  pub whole : t ≡ done ++ cut_means text words c

pub writing_start : {text : Bytes} {words : List ℕ} {c : Cut} {a : Writer} → Writing text words (cut_means text words c) a c a
unfolding escaped
writing_start {a = a} = record { done = []; written = wrote_none a; whole = refl }

module _ {text : Bytes} {words : List ℕ} {t : Bytes} {a : Writer} {c : Cut} {b : Writer} (w : Writing text words t a c b)
    {end : ℕ} {s : Bytes} {d : Writer} (e : end ≡ piece_end words c) (f : s ≡ part text c.start end) (g : Wrote (escaped s) b d) where
  more : Wrote (escaped (w.done ++ s)) a d
  more = rw (escaped_append w.done s) (wrote_then w.written g)

  split : t ≡ (w.done ++ s) ++ rest_means text words c
  split =
      w.whole
      ∙ ap (w.done ++◌) (split_front text words c c.start ∙ ap (◌++ rest_means text words c) (sym (f ∙ ap (part text c.start) e)))
      ∙ sym (append_assoc w.done s (rest_means text words c))

  pub writing_end : c.last ≤ c.first → Wrote (escaped t) a d
  writing_end k =
      let q : t ≡ w.done ++ s = split ∙ ap ((w.done ++ s) ++◌) (rest_none text words c k) ∙ append-nil (w.done ++ s) in
      rw q more

  pub writing_on : {n : Cut} → c.first < c.last → n ≡ without_first c end → Writing text words t a n d
  writing_on {n} k q =
      rw (q, e) (record {
        done = w.done ++ s;
        written = more;
        whole = split ∙ ap ((w.done ++ s) ++◌) (rest_more text words c k);
      })
