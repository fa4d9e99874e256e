-- Entries as they are read: the entry of a part that is a key gives that key and its value, and going through the parts, entry by entry,
-- gives the specification's keys. By cases on what is read. Assumes nothing.
use Prim.Native.Nat.{ℕ, ◌+◌, ◌≤◌, ◌<◌}
use native.Mathlib.Omega.{arith}
use mathlib.Core.Path.{◌≡◌, refl, sym, ap, subst, ◌∙◌}
use mathlib.Core.List.{List, [], ◌∷◌}
use mathlib.Core.Bool.{Bool, true, false}
use lib.Dec.{ltb}
use lib.ListN.{length, take, drop}
use lib.Seq.{length-take-le}
use Rattle.support.specs.Bytes.{Bytes, if, part}
use Rattle.json_path.specs.Span.{Span, own, spans_from}
use Rattle.json_path.specs.Answers.{Walked, name_means}
use Rattle.expression.specs.Expression.{Param, hash, parameter, block, right_tilde, skipped, no_keys, insert_key, keys_of}
use Rattle.expression.specs.Expression as spec
use Rattle.expression.specs.Read.{Read, done, failed, and_then, pure, ◌>>=◌, mapped, read_or, is_tag, Readable, Reads}
use Rattle.expression.specs.Readers.{read_block_param, hash_with, part_with, read_param, read_hash, read_parts}
use Rattle.expression.specs.Answers.{param_means, part_means, hash_means, parts_read, keys_read, FirstPart}
use Rattle.expression.specs.declared.parameter.Part.{Part}
use Rattle.expression.specs.declared.parameter.Parts.{Parts}
use Rattle.expression.specs.declared.parameter.Hash.{Hash}
use Rattle.expression.specs.declared.parameter.Parameter.{Parameter}
use Rattle.expression.specs.declared.parameter.BlockParam.{BlockParam}
use Rattle.expression.proofs.Equations.{parts_end, parts_stop, parts_next}
use Rattle.expression.proofs.Lists.{one, tail, along}
use Rattle.listing.specs.Held.{first_text, value_of, entry_key, entry_value, EntryRead, EntryIs, All, InOrder, put_entry, key_count, CellsHold, EntryHeld, PartHeld, KeysHeld}
use Rattle.std.specs.Prelude.{Option, Some, None}
use Rattle.listing.proofs.Entries.{all_put, order_put, onto, onto_put, onto_none, at_least}

-- ---- the number and the key of an entry

module _ (words : List ℕ) (from : ℕ) where
  pub entry_none : spans_from words from ≡ [] → EntryIs words from from
  entry_none e = record { behind = e ∙ ap (drop 1) (sym e) }

  pub entry_next : {s : Span} → Walked words from s → EntryIs words from (s.number + 1)
  entry_next w = record { behind = sym (ap (drop 1) w.first) }

  pub key_none : (text : Bytes) {t : Bytes} → spans_from words from ≡ [] → t ≡ part text 0 0 → t ≡ entry_key text words from
  key_none text e h = h ∙ sym (ap (first_text text) e)

  pub key_next : (text : Bytes) {s : Span} {t : Bytes} → Walked words from s → t ≡ own text s → t ≡ entry_key text words from
  key_next text w h = h ∙ sym (ap (first_text text) w.first)

-- ---- after a part, told by its case

module _ (text : Bytes) (words : List ℕ) (from : ℕ) {x : Part} (es : List ℕ) {cells : List ℕ} {r : Option ℕ} where
  pub part_key : {h : Hash} → x ≡ Part.Hash h → {e : ℕ} → EntryIs words from e → CellsHold (put_entry (entry_key text words) e es) cells r
      → PartHeld text words from x es cells r
  part_key q {e} i h = subst (λ z. PartHeld text words from z es cells r) (sym q) (record { means = record { entry = e; is = i; hold = h } })

-- a part that is no key changes nothing
module _ (text : Bytes) (words : List ℕ) (from : ℕ) (cells : List ℕ) (n : ℕ) (b : n ≤ length cells) where
  abbrev Same : Part → Type 0
  Same x = PartHeld text words from x (take n cells) cells (Some n)

  pub part_param : {x : Part} {p : Parameter} → x ≡ Part.Param p → Same x
  part_param q = subst Same (sym q) (record { means = record { means = (b, refl) } })

  pub part_block : {x : Part} {p : BlockParam} → x ≡ Part.BlockParam p → Same x
  part_block q = subst Same (sym q) (record { means = record { means = (b, refl) } })

  pub part_tilde : {x : Part} → x ≡ Part.RightTilde → Same x
  part_tilde q = subst Same (sym q) (record { means = record { means = (b, refl) } })

  pub part_skipped : {x : Part} → x ≡ Part.Skipped → Same x
  part_skipped q = subst Same (sym q) (record { means = record { means = (b, refl) } })

-- ---- the entry of a part that is a key

module _ (text : Bytes) (d : ℕ) where
  pub hash_key : (r : List Span) {k : Bytes} {v : Param} {t : List Span} → read_hash false text d r ≡ done (hash k v) t → first_text text r ≡ k
  hash_key [] e = cc
  hash_key (s ∷ r) {k} {v} {t} e = go (read_param false text d r) e
    where
      go : (o : Read Param) → and_then o (λ w. pure (hash (own text s) w)) ≡ done (hash k v) t → own text s ≡ k
      go (done w u) q = cc
      go (failed x) q = cc

  -- a part that is a key stands behind a tag 32
  part_hash : (s : Span) (r : List Span) {k : Bytes} {v : Param} {t : List Span} → part_with text (read_param false text d) s r ≡ done (hash k v) t
      → read_hash false text d r ≡ done (hash k v) t
  part_hash s r {k} {v} {t} e = go (is_tag 28 s) (is_tag 32 s) (is_tag 33 s) (is_tag 35 s) e
    where
      no_param : (o : Read Param) → and_then o (λ p. pure (parameter p)) ≡ done (hash k v) t → read_hash false text d r ≡ done (hash k v) t
      no_param (done p u) q = cc
      no_param (failed x) q = cc

      no_block : (o : Read spec.BlockParam) → and_then o (λ b. pure (block b)) ≡ done (hash k v) t → read_hash false text d r ≡ done (hash k v) t
      no_block (done b u) q = cc
      no_block (failed x) q = cc

      go : (a b c f : Bool)
          → if a (read_param false text d >>= λ p. pure (parameter p)) (if b (hash_with text (read_param false text d)) (if c (read_block_param text s.end >>= λ z. pure (block z)) (if f (pure right_tilde) (pure skipped)))) r ≡ done (hash k v) t
          → read_hash false text d r ≡ done (hash k v) t
      go true b c f q = no_param (read_param false text d r) q
      go false true c f q = q
      go false false true f q = no_block (read_block_param text s.end r) q
      go false false false true q = cc
      go false false false false q = cc

  first_hash : (limit : ℕ) (sp : List Span) {k : Bytes} {v : Param} {ys : List spec.Part} → Reads (read_parts false text d limit sp) (hash k v ∷ ys)
      → Reads (read_hash false text d (drop 1 sp)) (hash k v)
  first_hash limit [] h = let e = sym (parts_end false text d limit) ∙ h.reads in let z : ◌≡◌ {A = ℕ} 0 1 = cc in absurd (omega arith)
  first_hash limit (s ∷ r) {k} {v} {ys} h = go (ltb s.end limit) refl
    where
      same : {x : spec.Part} (o : Read (List spec.Part)) → and_then o (λ xs. pure (x ∷ xs)) ≡ done (hash k v ∷ ys) h.rest → x ≡ hash k v
      same (done xs t) q = cc
      same (failed f) q = cc

      read : (o : Read spec.Part) → part_with text (read_param false text d) s r ≡ o
          → and_then o (λ x. read_parts false text d limit >>= λ xs. pure (x ∷ xs)) ≡ done (hash k v ∷ ys) h.rest
          → Reads (read_hash false text d r) (hash k v)
      read (done x t) e q = record { rest = t; reads = part_hash s r (e ∙ ap (λ z. done z t) (same (read_parts false text d limit t) q)) }
      read (failed f) e q = let z : ◌≡◌ {A = ℕ} 0 1 = cc in absurd (omega arith)

      go : (u : Bool) → ltb s.end limit ≡ u → Reads (read_hash false text d r) (hash k v)
      go true e = read (part_with text (read_param false text d) s r) refl (sym (parts_next false text d limit s r e) ∙ h.reads)
      go false e = let q = sym (parts_stop false text d limit s r e) ∙ h.reads in let z : ◌≡◌ {A = ℕ} 0 1 = cc in absurd (omega arith)

-- ---- going through the parts: the first n cells hold the keys of those before `rest`

pub record Holding (text : Bytes) (words : List ℕ) (p rest : Parts) (cells : List ℕ) (n : ℕ) : Type 0 where
  pub fits : n ≤ length cells
  pub order : InOrder (entry_key text words) (take n cells)
  pub read : All (EntryRead text words p.depth) (take n cells)
  pub deep : rest.depth ≡ p.depth
  pub left : List spec.Part
  pub reads : Reads (parts_read false text words rest) left
  pub keys : Reads (keys_read text words p) (onto (entry_key text words) (entry_value text words p.depth) (take n cells) (keys_of left))

pub holding_begins : (text : Bytes) (words : List ℕ) (p : Parts) (cells : List ℕ) → Readable (parts_read false text words p)
    → Holding text words p p cells 0
holding_begins text words p cells h = record {
  fits = omega arith;
  order = tt;
  read = tt;
  deep = refl;
  left = h.value;
  reads = record { rest = h.rest; reads = h.reads };
  keys = record { rest = h.rest; reads = ap (mapped keys_of) h.reads };
}

module _ {text : Bytes} {words : List ℕ} {p rest : Parts} {cells : List ℕ} {n : ℕ} (g : Holding text words p rest cells n) where
  abbrev f : ℕ → Bytes
  f = entry_key text words

  abbrev v : ℕ → Param
  v = entry_value text words p.depth

  pub holding_ends : {t : List Span} → parts_read false text words rest ≡ done [] t → KeysHeld text words p cells n
  unfolding keys_of
  holding_ends {t} e =
      let q : g.left ≡ [] = one g.reads (record { rest = t; reads = e }) in
      record {
        fits = g.fits;
        keys = subst (λ z. Reads (keys_read text words p) z) (ap (λ xs. onto f v (take n cells) (keys_of xs)) q ∙ onto_none f v (take n cells) g.order) g.keys;
        read = g.read;
      }

  -- after the part x the entries are es
  module _ {x : Part} {q : Parts} (i : FirstPart false text words rest x q) {es more : List ℕ} {m : ℕ} (h : CellsHold es more (Some m)) where
    next : InOrder f es → All (EntryRead text words p.depth) es
        → ((ys : List spec.Part) → onto f v (take n cells) (keys_of (part_means text words x ∷ ys)) ≡ onto f v es (keys_of ys))
        → Holding text words p q more m
    next o a k =
        let t = tail (λ ys. part_means text words x ∷ ys) (parts_read false text words q) (along i.first g.reads) in
        let e : es ≡ take m more = sym h.means.1 in
        record {
          fits = h.means.0;
          order = subst (InOrder f) e o;
          read = subst (All (EntryRead text words p.depth)) e a;
          deep = ap (λ z. z.depth) i.link ∙ g.deep;
          left = t.value;
          reads = t.reads;
          keys = subst (λ z. Reads (keys_read text words p) z) (ap (λ ys. onto f v (take n cells) (keys_of ys)) t.same ∙ k t.value ∙ ap (λ z. onto f v z (keys_of t.value)) e) g.keys;
        }

  -- the part is a key: its entry can be read, and put in gives it
  module _ {h : Hash} {q : Parts} (i : FirstPart false text words rest (Part.Hash h) q) {e : ℕ} (is : EntryIs words rest.from e) where
    key_read : Reads (read_hash false text p.depth (spans_from words e)) (hash_means text words h)
    key_read =
        let t = tail (λ ys. hash_means text words h ∷ ys) (parts_read false text words q) (along i.first g.reads) in
        let b = first_hash text rest.depth rest.limit (spans_from words rest.from) (subst (λ ys. Reads (parts_read false text words rest) ys) t.same g.reads) in
        let c = subst (λ sp. Reads (read_hash false text rest.depth sp) (hash_means text words h)) (sym is.behind) b in
        subst (λ d. Reads (read_hash false text d (spans_from words e)) (hash_means text words h)) g.deep c

    key_put : (ys : List spec.Part) → onto f v (take n cells) (keys_of (hash_means text words h ∷ ys)) ≡ onto f v (put_entry f e (take n cells)) (keys_of ys)
    unfolding keys_of
    key_put ys =
        let es : List ℕ = take n cells in
        let k : f e ≡ name_means text h.key = hash_key text p.depth (spans_from words e) key_read.reads in
        let w : v e ≡ param_means text words h.value = ap value_of key_read.reads in
        sym
        (onto_put f v e es (keys_of ys) g.order
        ∙ ap (λ z. onto f v es (insert_key z (v e) (keys_of ys))) k
        ∙ ap (λ z. onto f v es (insert_key (name_means text h.key) z (keys_of ys))) w)

  keyed : {h : Hash} {q : Parts} → FirstPart false text words rest (Part.Hash h) q → {more : List ℕ} {m : ℕ}
      → EntryHeld text words rest.from (take n cells) more (Some m) → Holding text words p q more m
  keyed {h} i a =
      let r = key_read i a.is in
      next i a.hold (order_put f a.entry (take n cells) g.order)
      (all_put (EntryRead text words p.depth) f a.entry (take n cells) (record { value = hash_means text words h; rest = r.rest; reads = r.reads }) g.read)
      (key_put i a.is)

  pub holding_on : (x : Part) {q : Parts} → FirstPart false text words rest x q → {more : List ℕ} {m : ℕ}
      → PartHeld text words rest.from x (take n cells) more (Some m) → Holding text words p q more m
  unfolding keys_of
  holding_on (Part.Hash h) i a = keyed i a.means
  holding_on (Part.Param w) i a = next i a.means g.order g.read (λ ys. refl)
  holding_on (Part.BlockParam w) i a = next i a.means g.order g.read (λ ys. refl)
  holding_on Part.RightTilde i a = next i a.means g.order g.read (λ ys. refl)
  holding_on Part.Skipped i a = next i a.means g.order g.read (λ ys. refl)

  -- there is no cell for the part
  full : {es more : List ℕ} → CellsHold es more None → InOrder f es → (ys : List spec.Part)
      → onto f v (take n cells) (keys_of g.left) ≡ onto f v es (keys_of ys) → length more < key_count (read_or no_keys (keys_read text words p))
  full {es} h o ys k =
      let a = ap (λ z. key_count (read_or no_keys z)) g.keys.reads in
      let b = ap key_count k in
      let c = at_least f v es (keys_of ys) o in
      omega (arith, h.means)

  no_key : {more : List ℕ} → length more ≡ length cells → CellsHold (take n cells) more None → ⊥
  no_key e h = let l = length-take-le n cells g.fits in absurd (omega (arith, h.means, g.fits))

  pub holding_full : (x : Part) {q : Parts} → FirstPart false text words rest x q → {more : List ℕ} → length more ≡ length cells
      → PartHeld text words rest.from x (take n cells) more None → length more < key_count (read_or no_keys (keys_read text words p))
  holding_full (Part.Hash h) {q} i e a =
      let t = tail (λ ys. hash_means text words h ∷ ys) (parts_read false text words q) (along i.first g.reads) in
      let b = a.means in
      full b.hold (order_put f b.entry (take n cells) g.order) t.value
      (ap (λ ys. onto f v (take n cells) (keys_of ys)) t.same ∙ key_put i b.is t.value)
  holding_full (Part.Param w) i e a = absurd (no_key e a.means)
  holding_full (Part.BlockParam w) i e a = absurd (no_key e a.means)
  holding_full Part.RightTilde i e a = absurd (no_key e a.means)
  holding_full Part.Skipped i e a = absurd (no_key e a.means)
