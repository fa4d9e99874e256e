-- One read more into a buffer: what it gave stands behind what was read before it. Assumes nothing.
use Prim.Native.Nat.{ℕ, ◌+◌, ◌≤◌}
use native.Mathlib.Nat.{le_refl}
use mathlib.Core.Path.{◌≡◌, sym, ap, ap₂, subst, ◌∙◌}
use mathlib.Core.List.{◌++◌, append_assoc}
use lib.ListN.{length, take, drop}
use lib.Seq.{take-add, take-append-le, length-take-le, drop_at}
use borrow.Rule.Slice.PartMut.{put_mid, post_of}
use Rattle.std.specs.Prelude.{Option, Some, None}
use Rattle.std.specs.Io.KnownBytes.{Consumes}
use Rattle.std.proofs.lemmas.Slice.{take-put_mid_below}
use Rattle.support.specs.Bytes.{Bytes}

consumes_both : (a b c : Option Bytes) (bs cs : Bytes) → Consumes a b bs → Consumes b c cs → Consumes a c (bs ++ cs)
consumes_both None b c bs cs p q = tt
consumes_both (Some x) None c bs cs p q = absurd p
consumes_both (Some x) (Some y) None bs cs p q = absurd q
consumes_both (Some x) (Some y) (Some z) bs cs p q = p ∙ ap (bs ++◌) q ∙ sym (append_assoc bs cs z)

-- i bytes of the buffer were read; its part from place i on, k bytes, becomes `part`, whose first n bytes were read
pub reads_more : (a b c : Option Bytes) (buf : Bytes) (i : ℕ) → i ≤ length buf → Consumes a b (take i buf) → (part : Bytes) (k n : ℕ) → n ≤ length part → Consumes b c (take n part)
    → Consumes a c (take (i + n) (put_mid i k buf part))
reads_more a b c buf i within front part k n fits read =
    let behind : Bytes = post_of i k buf in
    let here : drop i (put_mid i k buf part) ≡ part ++ behind = drop_at (take i buf) (part ++ behind) i (length-take-le i buf within) in
    let both : take (i + n) (put_mid i k buf part) ≡ take i buf ++ take n part =
    take-add i n (put_mid i k buf part)
    ∙ ap₂ ◌++◌ (take-put_mid_below i k buf part i (le_refl i) within) (ap (take n) here ∙ take-append-le n part behind fits) in
    subst (Consumes a c) (sym both) (consumes_both a b c (take i buf) (take n part) front read)
