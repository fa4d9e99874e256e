-- The writer of held keys: what is left to write falls with each entry, and all of it is the keys of the parts. Assumes nothing.
use Prim.Native.Nat.{ℕ, ◌+◌, ◌-◌, ◌≤◌, ◌<◌}
use native.Mathlib.Omega.{arith}
use native.Mathlib.Numerals.{add-one}
use mathlib.Core.Path.{◌≡◌, sym, ap, subst, ◌∙◌}
use mathlib.Core.List.{List}
use mathlib.Core.Bool.{false}
use lib.ListN.{length, get_or, take, drop, drop_of_length-le}
use lib.Seq.{drop-cons}
use Rattle.support.specs.Bytes.{Bytes}
use Rattle.json_path.specs.Span.{spans_from}
use Rattle.json_path.specs.Answers.{name_means}
use Rattle.expression.specs.Expression.{Keys, no_keys, key}
use Rattle.expression.specs.Read.{read_or}
use Rattle.expression.specs.Answers.{param_means, keys_read, HashIs}
use Rattle.expression.specs.declared.parameter.Parts.{Parts}
use Rattle.expression.specs.declared.parameter.Hash.{Hash}
use Rattle.expression.specs.declared.parameter.Fault.{Fault}
use Rattle.std.specs.Prelude.{Result, None, Ok, Err}
use Rattle.expression.specs.declared.parameter.Fault.{Fault}
use Rattle.expression.proofs.Lists.{not_failed, keys_all_lem}
use Rattle.listing.specs.Form.{nil, write_form, write_forms}
use Rattle.listing.specs.Listing.{param_form, key_forms}
use Rattle.listing.specs.Wrote.{Wrote}
use Rattle.listing.specs.declared.writer.Writer.{Writer}
use Rattle.listing.specs.Held.{value_of, entry_value, EntryRead, All, keys_by, held_keys, KeysHeld}
use Rattle.listing.proofs.Size.{param_size, keys_size}
use Rattle.listing.proofs.Writers.{Onward, onward_start, onward_as, onward_next, onward_end}
use Rattle.listing.proofs.Entries.{all_at}
use Rattle.listing.proofs.Cells.{from_zero}
use Rattle.listing.proofs.HeldKeys.{hash_key}
use Rattle.listing.proofs.ParamWrites.{keys_join, keys_all}

-- the bytes of these entries
abbrev bytes_of : Bytes → List ℕ → ℕ → List ℕ → Bytes
bytes_of text words d es = write_forms (key_forms (held_keys text words d es) nil)

-- the entries from i on are left
pub record HeldLeft (text : Bytes) (words : List ℕ) (d : ℕ) (es : List ℕ) (a : Writer) (i : ℕ) (b : Writer) : Type 0 where
  pub fits : keys_size (held_keys text words d (drop i es)) ≤ keys_size (held_keys text words d es)
  pub onward : Onward (bytes_of text words d es) (bytes_of text words d (drop i es)) a b

pub held_begins : (text : Bytes) (words : List ℕ) (d : ℕ) (es : List ℕ) (a : Writer) → HeldLeft text words d es a 0 a
held_begins text words d es a = record { fits = omega arith; onward = onward_start _ a }

-- an entry that can be read is read
pub entry_read : (text : Bytes) (words : List ℕ) (d : ℕ) (es : List ℕ) (i : ℕ) {r : Result (Hash × ℕ) Fault} {f : Fault} → All (EntryRead text words d) es → i < length es
    → r ≡ Err f → HashIs false text words d (get_or es i 0) r → ⊥
entry_read text words d es i a l e h =
    let o = all_at (EntryRead text words d) es i a l in
    not_failed (record { rest = o.rest; reads = o.reads }) (subst (λ z. HashIs false text words d (get_or es i 0) z) e h).reads

module _ {text : Bytes} {words : List ℕ} {d : ℕ} {es : List ℕ} {a b : Writer} {i : ℕ} (g : HeldLeft text words d es a i b) where
  module _ {h : Hash} {n : ℕ} {r : Result (Hash × ℕ) Fault} (j : i < length es) (e : r ≡ Ok (h, n)) (u : HashIs false text words d (get_or es i 0) r) where
    next : held_keys text words d (drop i es) ≡ key (name_means text h.key) (param_means text words h.value) (held_keys text words d (drop (i + 1) es))
    unfolding keys_by
    next =
        let o = (subst (λ z. HashIs false text words d (get_or es i 0) z) e u).reads in
        let x : ℕ = get_or es i 0 in
        let rest : Keys = held_keys text words d (drop (i + 1) es) in
        rw (add-one i) (ap (held_keys text words d) (drop-cons es i 0 j))
        ∙ ap (λ z. key z (entry_value text words d x) rest) (hash_key text d (spans_from words x) o)
        ∙ ap (λ z. key (name_means text h.key) z rest) (ap value_of o)

    pub held_less : param_size (param_means text words h.value) < keys_size (held_keys text words d es)
    held_less = let f = ap keys_size next in omega (arith, g.fits)

    pub held_on : {c : Writer} → Wrote (write_forms (key_forms (key (name_means text h.key) (param_means text words h.value) no_keys) nil)) b c
        → HeldLeft text words d es a (i + 1) c
    held_on w =
        let f = ap keys_size next in
        record {
          fits = omega (arith, g.fits);
          onward = onward_next (onward_as (ap (λ o. write_forms (key_forms o nil)) next ∙ keys_join _ _ _) g.onward) w;
        }

  pub held_done : length es ≤ i → Wrote (bytes_of text words d es) a b
  unfolding keys_by param_form write_form
  held_done h = onward_end (onward_as (ap (bytes_of text words d) (drop_of_length-le es h)) g.onward)

-- ---- the keys that are held are all keys

module _ {text : Bytes} {words : List ℕ} {p : Parts} {cells : List ℕ} {n : ℕ} (h : KeysHeld text words p cells n) where
  pub all_read : All (EntryRead text words p.depth) (take (n - 0) cells)
  all_read = subst (λ k. All (EntryRead text words p.depth) (take k cells)) (from_zero n) h.read

  same : read_or no_keys (keys_read text words p) ≡ held_keys text words p.depth (take (n - 0) cells)
  same = ap (read_or no_keys) h.keys.reads ∙ ap (λ k. held_keys text words p.depth (take k cells)) (from_zero n)

  pub held_size : keys_size (held_keys text words p.depth (take (n - 0) cells)) ≡ keys_all text words p None
  held_size =
      ap (λ k. keys_size (held_keys text words p.depth (take k cells))) (sym (from_zero n))
      ∙ sym (ap (λ o. keys_size (read_or no_keys o)) (keys_all_lem text words p h.keys).reads)

  pub held_written : {a b : Writer} → Wrote (bytes_of text words p.depth (take (n - 0) cells)) a b
      → Wrote (write_forms (key_forms (read_or no_keys (keys_read text words p)) nil)) a b
  held_written {a} {b} w = subst (λ z. Wrote (write_forms (key_forms z nil)) a b) (sym same) w
