-- An expression's keys held in byte order. An entry is a number behind a tag 32, from which the key and its value are read again.
use Rattle.std.specs.Prelude.{ℕ, ◌+◌, ◌≤◌, ◌<◌, ◌≡◌, List, [], ◌∷◌, true, false, length, get_or, take, drop, Option, Some, None}
use Rattle.support.specs.Bytes.{Bytes, same_bytes, precedes}
use Rattle.json_path.specs.Span.{Span, own, spans_from}
use Rattle.expression.specs.Expression.{Param, name, Keys, no_keys, key, Part, parameter, hash, block, right_tilde, skipped}
use Rattle.expression.specs.Read.{Read, done, failed, read_or, Readable, Reads}
use Rattle.expression.specs.Readers.{read_hash}
use Rattle.expression.specs.Answers.{keys_read}
use Rattle.expression.specs.declared.parameter.Part as declared
use Rattle.expression.specs.declared.parameter.Part.TheVariants as Part
use Rattle.expression.specs.declared.parameter.Parts.{Parts}

-- ---- entries

-- the text of the first span
abbrev pub first_text : Bytes → List Span → Bytes
first_text text [] = []
first_text text (s ∷ r) = own text s

-- the value that was read with a key; an empty name where none was
abbrev pub value_of : Read Part → Param
value_of (done (hash k v) r) = v
value_of (done (parameter p) r) = name []
value_of (done (block b) r) = name []
value_of (done right_tilde r) = name []
value_of (done skipped r) = name []
value_of (failed e) = name []

-- the key of an entry
abbrev pub entry_key : Bytes → List ℕ → ℕ → Bytes
entry_key text words e = first_text text (spans_from words e)

-- its value, with so many subexpressions allowed inside one another
abbrev pub entry_value : Bytes → List ℕ → ℕ → ℕ → Param
entry_value text words d e = value_of (read_hash false text d (spans_from words e))

-- it can be read
abbrev pub EntryRead : Bytes → List ℕ → ℕ → ℕ → Type 0
EntryRead text words d e = Readable (read_hash false text d (spans_from words e))

-- e is the number behind the first span from number `from` on
pub record EntryIs (words : List ℕ) (from e : ℕ) : Type 0 where
  pub behind : spans_from words e ≡ drop 1 (spans_from words from)

-- ---- lists of entries, by the key f and the value g of each

-- every entry has the property
abbrev pub All : (ℕ → Type 0) → List ℕ → Type 0
All P [] = Unit {0}
All P (e ∷ es) = P e × All P es

-- k stands before the key of every entry
abbrev pub Before : (ℕ → Bytes) → Bytes → List ℕ → Type 0
Before f k es = All (λ e. precedes k (f e) ≡ true) es

-- the keys stand in byte order, each once
abbrev pub InOrder : (ℕ → Bytes) → List ℕ → Type 0
InOrder f [] = Unit {0}
InOrder f (e ∷ es) = Before f (f e) es × InOrder f es

-- the keys with their values
unfoldable pub keys_by : (ℕ → Bytes) → (ℕ → Param) → List ℕ → Keys
keys_by f g [] = no_keys
keys_by f g (e ∷ es) = key (f e) (g e) (keys_by f g es)

-- e among entries in byte order; one with the same key is replaced
unfoldable pub put_entry : (ℕ → Bytes) → ℕ → List ℕ → List ℕ
put_entry f e [] = e ∷ []
put_entry f e (b ∷ es) = elim (precedes (f b) (f e)) [
  | true ↦ b ∷ put_entry f e es
  | false ↦ elim (same_bytes (f b) (f e)) [ true ↦ e ∷ es | false ↦ e ∷ b ∷ es ]
]

-- how many keys
abbrev pub key_count : Keys → ℕ
key_count no_keys = 0
key_count (key k v ks) = key_count ks + 1

-- the keys of entries
abbrev pub held_keys : Bytes → List ℕ → ℕ → List ℕ → Keys
held_keys text words d es = keys_by (entry_key text words) (entry_value text words d) es

-- ---- answers

-- r is the place of the key k: the entries before it stand before k, and no other does
pub record PlaceIs (f : ℕ → Bytes) (k : Bytes) (es : List ℕ) (r : ℕ) : Type 0 where
  pub inside : r ≤ length es
  pub before : (j : ℕ) → j < r → precedes (f (get_or es j 0)) k ≡ true
  pub after : (j : ℕ) → r ≤ j → j < length es → precedes (f (get_or es j 0)) k ≡ false

-- the first n cells hold these entries; or there are more entries than cells
abbrev pub CellsMean : List ℕ → List ℕ → Option ℕ → Type 0
CellsMean es cells (Some n) = (n ≤ length cells) × (take n cells ≡ es)
CellsMean es cells None = length cells < length es

-- r says how the cells hold these entries
pub record CellsHold (es cells : List ℕ) (r : Option ℕ) : Type 0 where
  pub means : CellsMean es cells r

-- the same after one more entry, the number behind the first span from number `from` on
pub record EntryHeld (text : Bytes) (words : List ℕ) (from : ℕ) (es cells : List ℕ) (r : Option ℕ) : Type 0 where
  pub entry : ℕ
  pub is : EntryIs words from entry
  pub hold : CellsHold (put_entry (entry_key text words) entry es) cells r

-- the same after a part that stands there: only a key gives an entry
abbrev pub PartHeldMeans : Bytes → List ℕ → ℕ → declared.Part → List ℕ → List ℕ → Option ℕ → Type 0
PartHeldMeans text words from (Part.Hash h) es cells r = EntryHeld text words from es cells r
PartHeldMeans text words from (Part.Param p) es cells r = CellsHold es cells r
PartHeldMeans text words from (Part.BlockParam b) es cells r = CellsHold es cells r
PartHeldMeans text words from Part.RightTilde es cells r = CellsHold es cells r
PartHeldMeans text words from Part.Skipped es cells r = CellsHold es cells r

-- r says how the cells hold the entries es and that of the part x
pub record PartHeld (text : Bytes) (words : List ℕ) (from : ℕ) (x : declared.Part) (es cells : List ℕ) (r : Option ℕ) : Type 0 where
  pub means : PartHeldMeans text words from x es cells r

-- the keys of p's parts are those of the entries in the first n cells, and each can be read
pub record KeysHeld (text : Bytes) (words : List ℕ) (p : Parts) (cells : List ℕ) (n : ℕ) : Type 0 where
  pub fits : n ≤ length cells
  pub keys : Reads (keys_read text words p) (held_keys text words p.depth (take n cells))
  pub read : All (EntryRead text words p.depth) (take n cells)

-- what each case says: they are held, or there are more keys than cells
abbrev pub HeldMeans : Bytes → List ℕ → Parts → List ℕ → Option ℕ → Type 0
HeldMeans text words p cells (Some n) = KeysHeld text words p cells n
HeldMeans text words p cells None = length cells < key_count (read_or no_keys (keys_read text words p))

-- r says how the cells hold the keys of p's parts
pub record HeldIs (text : Bytes) (words : List ℕ) (p : Parts) (cells : List ℕ) (r : Option ℕ) : Type 0 where
  pub means : HeldMeans text words p cells r
