-- The laws for the code that takes stored records one by one: what stands behind a line, and that each record makes the rest shorter. Assumes
-- nothing.
use Prim.Native.Nat.{ℕ, suc, ◌+◌, ◌-◌, ◌≤◌, ◌<◌}
use native.Mathlib.Omega.{arith}
use mathlib.Core.Path.{◌≡◌, ap, ◌∙◌}
use lib.ListN.{length, take, drop, length-drop}
use Rattle.std.proofs.lemmas.List.{take_rest}
use Rattle.support.specs.Bytes.{Bytes, part}
use Rattle.card.specs.Stored.{first_line, after_line, first_number, FirstLineIs, RecordIs, BlockIs}

pub behind_line : {s line r : Bytes} → FirstLineIs s 0 line → r ≡ part s (length line + 1) (length s) → r ≡ after_line s
behind_line {s} {line} {r} f e =
    let n : length line ≡ length (first_line s) = ap length f.means in
    let k : length line + 1 ≡ suc (length (first_line s)) = omega arith in
    e ∙ take_rest s (length line + 1) ∙ ap (λ z. drop z s) k

-- a line takes a byte at least, if there is one
shorter : (s : Bytes) → 0 < length s → length (after_line s) < length s
shorter s h = let d = length-drop (suc (length (first_line s))) s in omega arith

no_longer : (s : Bytes) → length (after_line s) ≤ length s
no_longer s = let d = length-drop (suc (length (first_line s))) s in omega arith

module _ {s behind : Bytes} (h : 0 < length s) (b : behind ≡ after_line s) where
  pub record_is : {text words rest : Bytes} → text ≡ first_line s → words ≡ first_line behind → rest ≡ after_line behind → RecordIs s text words rest
  record_is {text} {words} {rest} t w r =
      let e : rest ≡ after_line (after_line s) = r ∙ ap after_line b in
      let n : length rest ≡ length (after_line (after_line s)) = ap length e in
      let i = no_longer (after_line s) in
      let j = shorter s h in
      record { first = t; second = w ∙ ap first_line b; behind = e; less = omega arith }

  pub block_is : {line block rest : Bytes} {n : ℕ} → line ≡ first_line s → n ≡ first_number line → block ≡ part behind 0 n → rest ≡ part behind n (length behind) → BlockIs s block rest
  block_is {line} {block} {rest} {n} l k p r =
      let m : n ≡ first_number (first_line s) = k ∙ ap first_number l in
      let e : rest ≡ drop (first_number (first_line s)) (after_line s) = r ∙ take_rest behind n ∙ ap (λ z. drop z behind) m ∙ ap (drop (first_number (first_line s))) b in
      let q : length rest ≡ length (drop (first_number (first_line s)) (after_line s)) = ap length e in
      let d = length-drop (first_number (first_line s)) (after_line s) in
      let j = shorter s h in
      let same : n - 0 ≡ n = omega arith in
      record { front = p ∙ ap (λ z. take z behind) (same ∙ m) ∙ ap (take (first_number (first_line s))) b; behind = e; less = omega arith }
