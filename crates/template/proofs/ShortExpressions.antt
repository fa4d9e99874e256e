-- How long the forms of an expression that is read again are: at most 100,000 bytes for each span that a reader takes. A reader fits if the
-- bytes of what it reads are at most 100,000 for each span that it was given and does not leave; put together from others it fits if they
-- do; then by induction on the bound on the steps. Assumes nothing.
use Prim.Native.Nat.{ℕ, zero, suc, ◌+◌, ◌-◌, ◌*◌, ◌≤◌}
use native.Mathlib.Omega.{arith}
use mathlib.Core.Path.{◌≡◌, refl, ap}
use mathlib.Core.List.{List, [], ◌∷◌, ◌++◌}
use mathlib.Core.Bool.{Bool, true, false, ◌||◌}
use Rattle.std.specs.Prelude.{Option, Some, None}
use mathlib.Core.Option.{none, some}
use lib.Dec.{ltb, leb, eqb}
use lib.ListN.{length, length-append}
use Rattle.support.specs.Bytes.{Bytes, ascii, if, same_bytes, precedes}
use Rattle.json_path.specs.Span.{Span, own, skip_to, span_count, spans_from}
use Rattle.json_path.specs.Path.{Segment, named, root, here, up, relative, local, segment_of, prepend, segments_to, ups_and_name, local_name, path_of}
use Rattle.literal.specs.Requote.{requoted}
use Rattle.expression.specs.Expression.{Param, name, path, literal, subexpression, Call, call, Params, no_params, param, Keys, no_keys, key, BlockParam, no_block_param, single, pair, Expression, Part, parameter, hash, block, right_tilde, skipped, insert_key, params_of, keys_of, last_block, expression_of}
use Rattle.expression.specs.Read.{Fault, over_limit, not_allowed, exhausted, Read, done, failed, Reader, and_then, ◌>>=◌, pure, fail, next, peek, next_below, skipping, is_tag}
use Rattle.expression.specs.Readers.{is_name, read_tilde, literal_text, read_own_span, read_path, read_literal, read_second, read_block_param, value_with, part_with, read_name_by, read_subexpression_by, read_param_by, read_expression_by, read_parts_by, enough, read_expression}
use Rattle.expression.specs.Answers.{call_or}
use Rattle.expression.specs.declared.parameter.Subexpression.{Subexpression}
use Rattle.expression.proofs.Fuel.{skip_shorter, parts}
use Rattle.listing.specs.Quoted.{decimal, quoted, escaped}
use Rattle.listing.specs.Form.{Word, quote, open_form, write_field, write_fields, write_head, nil, cons, write_form, write_forms}
use Rattle.listing.specs.Listing.{segment_form, segment_forms, path_form, param_form, call_forms, param_forms, key_forms, block_param_forms}
use Rattle.listing.specs.Children.{block_or, expression_at, decorator_children, helper_children}
use Rattle.listing.proofs.PathWrites.{seg_bytes, path_bytes, local_bytes}
use Rattle.listing.proofs.ParamWrites.{name_bytes_lem, literal_bytes, sub_bytes, call_bytes_lem, hash_bytes}
use Rattle.listing.proofs.ChildWrites.{single_bytes, pair_bytes, call_join}
use Rattle.template.proofs.ShortTexts.{part_short, quoted_short, decimal_short, requoted_short, spans_short}

-- ---- the bytes

abbrev segments_bytes : List Segment → ℕ
segments_bytes ss = length (write_forms (segment_forms ss))

abbrev param_bytes : Param → ℕ
param_bytes p = length (write_form (param_form p))

abbrev params_bytes : Params → ℕ
params_bytes ps = length (write_forms (param_forms ps nil))

abbrev keys_bytes : Keys → ℕ
keys_bytes ks = length (write_forms (key_forms ks nil))

abbrev key_bytes : Bytes → Param → ℕ
key_bytes k v = keys_bytes (key k v no_keys)

abbrev block_bytes : BlockParam → ℕ
block_bytes b = length (write_forms (block_param_forms b nil))

abbrev call_bytes : Call → ℕ
call_bytes c = length (write_forms (call_forms c nil))

abbrev expression_bytes : Expression → ℕ
expression_bytes x = call_bytes x.call_of + block_bytes x.block_param

abbrev part_bytes : Part → ℕ
part_bytes (parameter p) = param_bytes p
part_bytes (hash k v) = key_bytes k v
part_bytes (block b) = block_bytes b
part_bytes right_tilde = 0
part_bytes skipped = 0

unfoldable parts_bytes : List Part → ℕ
parts_bytes [] = 0
parts_bytes (x ∷ xs) = part_bytes x + parts_bytes xs

-- a text between two others
around : (a t b : Bytes) → length (a ++ (t ++ b)) ≡ length a + length t + length b
around a t b = omega (arith, length-append a (t ++ b), length-append t b)

name_is : (t : Bytes) → param_bytes (name t) ≡ 8 + length (quoted t)
name_is t = let e = ap length (name_bytes_lem t) in omega (arith, around (ascii "[name ") (quoted t) (ascii "]\n"))

literal_is : (t : Bytes) → param_bytes (literal t) ≡ 7 + length (quoted t)
literal_is t = let e = ap length (literal_bytes t) in omega (arith, around (ascii "[lit ") (quoted t) (ascii "]\n"))

sub_is : (c : Call) → param_bytes (subexpression c) ≡ 7 + call_bytes c
sub_is c = let e = ap length (sub_bytes c) in omega (arith, around (ascii "[sub\n") (write_forms (call_forms c nil)) (ascii "]\n"))

call_is : (n : Param) (ps : Params) (ks : Keys) → call_bytes (call n ps ks) ≡ param_bytes n + params_bytes ps + keys_bytes ks
call_is n ps ks =
    let e = ap length (call_bytes_lem n ps ks) in
    omega (arith, around (write_form (param_form n)) (write_forms (param_forms ps nil)) (write_forms (key_forms ks nil)))

param_is : (p : Param) (ps : Params) → params_bytes (param p ps) ≡ param_bytes p + params_bytes ps
unfolding param_form write_form
param_is p ps = length-append (write_form (param_form p)) (write_forms (param_forms ps nil))

key_is : (k : Bytes) (v : Param) (ks : Keys) → keys_bytes (key k v ks) ≡ key_bytes k v + keys_bytes ks
unfolding param_form write_form
key_is k v ks =
    let f = write_form (open_form Word.key (quote k ∷ []) (cons (param_form v) nil)) in
    omega (arith, length-append f (write_forms (key_forms ks nil)), length-append f [])

key_short : (k : Bytes) (v : Param) → key_bytes k v ≡ length (quoted k) + 8 + param_bytes v
key_short k v =
    let e = ap length (hash_bytes k v) in
    omega (arith, length-append (ascii "[key " ++ (quoted k ++ ascii "\n")) (write_form (param_form v) ++ ascii "]\n"), around (ascii "[key ") (quoted k) (ascii "\n"), length-append (write_form (param_form v)) (ascii "]\n"))

single_is : (a : Bytes) → block_bytes (single a) ≡ 6 + length (quoted a)
single_is a = let e = ap length (single_bytes a) in omega (arith, around (ascii "[as ") (quoted a) (ascii "]\n"))

pair_is : (a b : Bytes) → block_bytes (pair a b) ≡ 7 + length (quoted a) + length (quoted b)
pair_is a b =
    let e = ap length (pair_bytes a b) in
    omega (
      arith,
      length-append (ascii "[as " ++ (quoted a ++ ascii " ")) (ascii "" ++ (quoted b ++ ascii "]\n")),
      around (ascii "[as ") (quoted a) (ascii " "),
      around (ascii "") (quoted b) (ascii "]\n"),
    )

-- ---- the parts of an expression

insert_short : (k : Bytes) (v : Param) (ks : Keys) → keys_bytes (insert_key k v ks) ≤ key_bytes k v + keys_bytes ks
unfolding insert_key
insert_short k v no_keys = omega (arith, key_is k v no_keys)
insert_short k v (key j w ks) = go (same_bytes k j) (precedes k j) (insert_short k v ks)
  where
    go : (t u : Bool) → keys_bytes (insert_key k v ks) ≤ key_bytes k v + keys_bytes ks
        → keys_bytes (elim t [
          | true ↦ key j w ks
          | false ↦ elim u [ true ↦ key k v (key j w ks) | false ↦ key j w (insert_key k v ks) ]
        ]) ≤ key_bytes k v + keys_bytes (key j w ks)
    go true u h = omega arith
    go false true h = omega (arith, key_is k v (key j w ks))
    go false false h = omega (arith, key_is j w (insert_key k v ks), key_is j w ks)

parts_short : (b : BlockParam) (xs : List Part)
    → params_bytes (params_of xs) + keys_bytes (keys_of xs) + block_bytes (last_block b xs) ≤ block_bytes b + parts_bytes xs
unfolding params_of keys_of last_block parts_bytes param_form write_form
parts_short b [] = omega arith
parts_short b (parameter p ∷ xs) = let h = parts_short b xs in omega (arith, param_is p (params_of xs))
parts_short b (hash k v ∷ xs) = let h = parts_short b xs in omega (arith, insert_short k v (keys_of xs))
parts_short b (block c ∷ xs) = let h = parts_short c xs in omega arith
parts_short b (right_tilde ∷ xs) = let h = parts_short b xs in omega arith
parts_short b (skipped ∷ xs) = let h = parts_short b xs in omega arith

no_block : block_bytes no_block_param ≡ 0
unfolding write_form
no_block = refl

expression_is : (t : Bool) (n : Param) (xs : List Part) → expression_bytes (expression_of t n xs) ≤ param_bytes n + parts_bytes xs
expression_is t n xs = omega (arith, call_is n (params_of xs) (keys_of xs), parts_short no_block_param xs, no_block)

-- ---- a path

named_is : (t : Bytes) (ss : List Segment) → segments_bytes (named t ∷ ss) ≡ 7 + length (quoted t) + segments_bytes ss
unfolding segment_forms write_form
named_is t ss =
    let e = ap length (seg_bytes t) in
    omega (arith, length-append (write_form (segment_form (named t))) (write_forms (segment_forms ss)), around (ascii "[seg ") (quoted t) (ascii "]\n"))

up_is : (ss : List Segment) → segments_bytes (up ∷ ss) ≡ 5 + segments_bytes ss
unfolding segment_forms write_form write_head write_fields
up_is ss = omega arith

here_is : (ss : List Segment) → segments_bytes (here ∷ ss) ≡ 7 + segments_bytes ss
unfolding segment_forms write_form write_head write_fields
here_is ss = omega arith

root_is : (ss : List Segment) → segments_bytes (root ∷ ss) ≡ 7 + segments_bytes ss
unfolding segment_forms write_form write_head write_fields
root_is ss = omega arith

-- a local variable's level and name take no more than its segments
abbrev Named : ℕ → List Segment → Option (ℕ × Bytes) → Type 0
Named n ss None = Unit {0}
Named n ss (Some p) = p.0 + length (quoted p.1) ≤ n + segments_bytes ss

ups_short : (n : ℕ) (ss : List Segment) → Named n ss (ups_and_name n ss)
unfolding ups_and_name
ups_short n [] = tt
ups_short n (named b ∷ ss) = omega (arith, named_is b ss)
ups_short n (root ∷ ss) = tt
ups_short n (here ∷ ss) = tt
ups_short n (up ∷ ss) = more (ups_and_name (n + 1) ss) (ups_short (n + 1) ss)
  where
    more : (o : Option (ℕ × Bytes)) → Named (n + 1) ss o → Named n (up ∷ ss) o
    more None h = tt
    more (Some p) h = omega (arith, up_is ss)

local_short : (ss : List Segment) → Named 0 ss (local_name ss)
unfolding local_name
local_short [] = tt
local_short (named b ∷ ss) = tt
local_short (root ∷ ss) = tt
local_short (up ∷ ss) = tt
local_short (here ∷ ss) = more (ups_and_name 0 ss) (ups_short 0 ss)
  where
    more : (o : Option (ℕ × Bytes)) → Named 0 ss o → Named 0 (here ∷ ss) o
    more None h = tt
    more (Some p) h = omega (arith, here_is ss)

path_short : (raw : Bytes) (ss : List Segment) → param_bytes (path (path_of raw ss)) ≤ 12 + length (quoted raw) + segments_bytes ss
unfolding param_form path_of
path_short raw ss = go (local_name ss) (local_short ss)
  where
    go : (o : Option (ℕ × Bytes)) → Named 0 ss o
        → length (write_form (path_form (elim o [ None ↦ relative raw ss | Some p ↦ local p.0 p.1 raw ]))) ≤ 12 + length (quoted raw) + segments_bytes ss
    go None h =
        let e = ap length (path_bytes raw (segment_forms ss)) in
        omega (arith, around (ascii "[path ") (quoted raw) (ascii "\n" ++ (write_forms (segment_forms ss) ++ ascii "]\n")), around (ascii "\n") (write_forms (segment_forms ss)) (ascii "]\n"))
    go (Some p) h =
        let e = ap length (local_bytes p.0 p.1 raw) in
        let rest = quoted p.1 ++ (ascii " " ++ (quoted raw ++ ascii "]\n")) in
        omega (
          arith,
          decimal_short p.0,
          around (ascii "[local ") (decimal p.0) (ascii " " ++ rest),
          around (ascii " ") (quoted p.1) (ascii " " ++ (quoted raw ++ ascii "]\n")),
          around (ascii " ") (quoted raw) (ascii "]\n"),
        )

module _ (text : Bytes) (short : length text ≤ 16384) where
  own_short : (s : Span) → length (quoted (own text s)) ≤ 32770
  own_short s = omega (arith, quoted_short (own text s), part_short text s.start s.end)

  -- ---- readers

  -- what was read and the spans that are left fit
  abbrev Within : {A : Type 0} → (A → ℕ) → ℕ → Read A → Type 0
  Within w k (done a r) = w a + 100000 * length r ≤ k
  Within w k (failed e) = Unit {0}

  record Fits {A : Type 0} (w : A → ℕ) (j k : ℕ) (m : Reader A) : Type 0 where
    within : (s : List Span) → 100000 * length s ≤ j → Within w k (m s)

  within_then : {A B : Type 0} (v : A → ℕ) (w : B → ℕ) (j k : ℕ) (o : Read A) (f : A → Reader B) → Within v j o
      → ((a : A) → v a ≤ j → Fits w (j - v a) k (f a))
      → Within w k (and_then o f)
  within_then v w j k (done a r) f h g = (g a (omega arith)).within r (omega arith)
  within_then v w j k (failed e) f h g = tt

  fits_then : {A B : Type 0} {v : A → ℕ} {w : B → ℕ} {i j k : ℕ} {m : Reader A} {f : A → Reader B} → Fits v i j m
      → ((a : A) → v a ≤ j → Fits w (j - v a) k (f a))
      → Fits w i k (m >>= f)
  fits_then {v = v} {w = w} {j = j} {k = k} {m = m} {f = f} x y = record { within = λ s h. within_then v w j k (m s) f (x.within s h) y }

  fits_if : {A : Type 0} {w : A → ℕ} {j k : ℕ} (t : Bool) {p q : Reader A} → Fits w j k p → Fits w j k q → Fits w j k (if t p q)
  fits_if true x y = x
  fits_if false x y = y

  fits_fail : {A : Type 0} {w : A → ℕ} {j k : ℕ} {e : Fault} → Fits w j k (fail e)
  fits_fail = record { within = λ s h. tt }

  fits_pure : {A : Type 0} {w : A → ℕ} {j k : ℕ} {a : A} → w a + j ≤ k → Fits w j k (pure a)
  fits_pure h = record { within = λ s l. omega arith }

  within_more : {A : Type 0} (w : A → ℕ) (j k : ℕ) (o : Read A) → j ≤ k → Within w j o → Within w k o
  within_more w j k (done a r) h g = omega arith
  within_more w j k (failed e) h g = tt

  fits_more : {A : Type 0} {w : A → ℕ} {i j k : ℕ} {m : Reader A} → j ≤ k → Fits w i j m → Fits w i k m
  fits_more {w = w} {j = j} {k = k} {m = m} h x = record { within = λ s l. within_more w j k (m s) h (x.within s l) }

  -- one span is taken: room for 100,000 bytes
  fits_next : {j : ℕ} → Fits (λ s. 100000) j j next
  fits_next {j} = record { within = go }
    where
      go : (s : List Span) → 100000 * length s ≤ j → Within (λ s. 100000) j (next s)
      go [] h = tt
      go (x ∷ s) h = omega arith

  fits_peek : {j : ℕ} → Fits (λ s. 0) j j peek
  fits_peek {j} = record { within = go }
    where
      go : (s : List Span) → 100000 * length s ≤ j → Within (λ s. 0) j (peek s)
      go [] h = tt
      go (x ∷ s) h = omega arith

  fits_tilde : {j : ℕ} → Fits (λ t. 0) j j read_tilde
  fits_tilde {j} = record { within = go }
    where
      go : (s : List Span) → 100000 * length s ≤ j → Within (λ t. 0) j (read_tilde s)
      go [] h = tt
      go (x ∷ s) h = pick (is_tag 34 x)
        where
          pick : (t : Bool) → Within {A = Bool} (λ t. 0) j (if t (done true s) (done false (x ∷ s)))
          pick true = omega arith
          pick false = omega arith

  fits_skipping : {A : Type 0} {w : A → ℕ} {j k : ℕ} (l : ℕ) (a : A) → w a + j ≤ k → Fits w j k (skipping l a)
  fits_skipping l a g = record { within = λ r h. let i = skip_shorter l r in omega arith }

  fits_own : {j : ℕ} → Fits (λ s. 100000) j j read_own_span
  unfolding read_own_span
  fits_own {j} = fits_then fits_next (λ s h. fits_if (is_tag 28 s) (fits_more (omega arith) fits_next) (fits_pure (omega arith)))

  -- ---- the readers of a path, a literal, block parameters

  segment_short : (s : Span) (ss : List Segment) → segments_bytes (prepend (segment_of text s) ss) ≤ 100000 + segments_bytes ss
  unfolding segment_of
  segment_short s ss = go (eqb s.tag 36) (eqb s.tag 37) (eqb s.tag 38) (eqb s.tag 39 || eqb s.tag 40) (same_bytes (own text s) (ascii "this"))
    where
      go : (a b c d e : Bool)
          → segments_bytes (prepend (if a (Some root) (if b (Some here) (if c (Some up) (if d (if e None (Some (named (own text s)))) None)))) ss) ≤ 100000 + segments_bytes ss
      go true b c d e = omega (arith, root_is ss)
      go false true c d e = omega (arith, here_is ss)
      go false false true d e = omega (arith, up_is ss)
      go false false false true true = omega arith
      go false false false true false = omega (arith, named_is (own text s) ss, own_short s)
      go false false false false e = omega arith

  segments_short : (limit : ℕ) (r : List Span) → segments_bytes (segments_to text limit r) + 100000 * length (skip_to limit r) ≤ 100000 * length r
  unfolding segments_to skip_to segment_forms write_form
  segments_short limit [] = omega arith
  segments_short limit (s ∷ r) = go (ltb limit s.end) (segments_short limit r)
    where
      go : (t : Bool) → segments_bytes (segments_to text limit r) + 100000 * length (skip_to limit r) ≤ 100000 * length r
          → segments_bytes (elim t [ true ↦ [] | false ↦ prepend (segment_of text s) (segments_to text limit r) ]) + 100000 * length {A = Span} (elim t [ true ↦ s ∷ r | false ↦ skip_to limit r ])
          ≤ 100000 * suc (length r)
      go true h = omega arith
      go false h = omega (arith, segment_short s (segments_to text limit r))

  fits_path : {j k : ℕ} (s : Span) → j + 40000 ≤ k → Fits param_bytes j k (read_path text s)
  unfolding read_path
  fits_path s g = record { within = λ r h. omega (arith, path_short (own text s) (segments_to text s.end r), own_short s, segments_short s.end r) }

  fits_text : {j k : ℕ} (t : Bytes) → length (quoted t) + 7 + j ≤ k → Fits param_bytes j k (literal_text false t)
  fits_text t g = fits_pure (omega (arith, literal_is t))

  requoted_own_short : (s : Span) → length (quoted (requoted (own text s))) ≤ 66000
  requoted_own_short s = omega (arith, quoted_short (requoted (own text s)), requoted_short (own text s), part_short text s.start s.end)

  fits_literal : {j k : ℕ} (s : Span) → j + 70000 ≤ k → Fits param_bytes j k (read_literal false text s)
  unfolding read_literal
  fits_literal {j} s g =
      fits_then fits_next (λ i h.
      fits_if (is_tag 30 i)
      (fits_then fits_peek (λ q y.
      fits_if (is_tag 31 q)
      (fits_then fits_next (λ r z. fits_text (requoted (own text r)) (omega (arith, requoted_own_short r))))
      (fits_text (own text s) (omega (arith, own_short s)))))
      (fits_text (own text s) (omega (arith, own_short s))))

  fits_second : {j k : ℕ} (l : ℕ) (a : Bytes) → length (quoted a) ≤ 32770 → j + 70000 ≤ k → Fits block_bytes j k (read_second text l a)
  unfolding read_second
  fits_second {j} {k} l a g b = record { within = go }
    where
      go : (s : List Span) → 100000 * length s ≤ j → Within block_bytes k (read_second text l a s)
      go [] h = omega (arith, single_is a)
      go (x ∷ s) h = pick (leb x.end l)
        where
          pick : (t : Bool) → Within {A = BlockParam} block_bytes k (if t (done (pair a (own text x)) s) (done (single a) (x ∷ s)))
          pick true = omega (arith, pair_is a (own text x), own_short x)
          pick false = omega (arith, single_is a)

  fits_block_param : {j : ℕ} (l : ℕ) → Fits block_bytes j j (read_block_param text l)
  unfolding read_block_param
  fits_block_param {j} l = fits_then fits_next (λ a h. fits_second l (own text a) (own_short a) (omega arith))

  -- ---- the readers of parameters and expressions

  fits_value : {j k : ℕ} (sub : ℕ → Reader Param) (s : Span) → j + 70000 ≤ k → Fits param_bytes j k (sub s.end) → Fits param_bytes j k (value_with false text sub s)
  fits_value sub s g x =
      fits_if (is_tag 26 s) (fits_path s (omega arith))
      (fits_if (is_tag 27 s) x
      (fits_if (is_tag 29 s) (fits_literal s g)
      (fits_fail {e = not_allowed})))

  fits_part : {j : ℕ} (prm : Reader Param) (s : Span) → ((i : ℕ) → Fits param_bytes i i prm) → Fits part_bytes j j (part_with text prm s)
  fits_part {j} prm s x =
      fits_if (is_tag 28 s)
      (fits_then (x j) (λ p h. fits_pure {a = parameter p} (omega arith)))
      (fits_if (is_tag 32 s)
      (fits_then fits_next (λ k h. fits_then (x (j - 100000)) (λ v g. fits_pure {a = hash (own text k) v} (omega (arith, key_short (own text k) v, own_short k)))))
      (fits_if (is_tag 33 s)
      (fits_then (fits_block_param s.end) (λ b h. fits_pure {a = block b} (omega arith)))
      (fits_if (is_tag 35 s) (fits_pure {a = right_tilde} (omega arith))
      (fits_pure {a = skipped} (omega arith)))))

  fits_step : {A : Type 0} {w : A → ℕ} {j : ℕ} (l : ℕ) {m : Reader A} {f : Span → Reader A} → Fits w j j m
      → ((s : Span) → 100000 ≤ j → Fits w (j - 100000) j (f s))
      → Fits w j j (next_below l >>= parts m f)
  fits_step {A} {w} {j} l {m} {f} x g = record { within = go }
    where
      go : (s : List Span) → 100000 * length s ≤ j → Within w j (and_then (next_below l s) (parts m f))
      go [] h = x.within [] h
      go (y ∷ s) h = pick (ltb y.end l)
        where
          pick : (t : Bool) → Within w j (and_then (if t (done (some y) s) (done none (y ∷ s))) (parts m f))
          pick true = (g y (omega arith)).within s (omega arith)
          pick false = x.within (y ∷ s) h

  mutual
    unfolding read_name_by parts_bytes

    fits_name : (i d j : ℕ) → Fits param_bytes j j (read_name_by false text i d)
    fits_name zero d j = fits_fail {e = exhausted}
    fits_name (suc i) d j =
        fits_then fits_next (λ s h.
        fits_if (is_name s) (fits_pure {a = name (own text s)} (omega (arith, name_is (own text s), own_short s)))
        (fits_if (is_tag 26 s) (fits_path s (omega arith))
        (fits_if (is_tag 27 s) (fits_more (omega arith) (fits_subexpression i d s.end (j - 100000)))
        (fits_fail {e = not_allowed}))))

    fits_subexpression : (i d l j : ℕ) → Fits param_bytes j (j + 7) (read_subexpression_by false text i d l)
    fits_subexpression zero d l j = fits_fail {e = exhausted}
    fits_subexpression (suc i) zero l j = fits_fail {e = over_limit}
    fits_subexpression (suc i) (suc d) l j = fits_then (fits_expression i d l j) (λ x h. fits_pure {a = subexpression x.call_of} (omega (arith, sub_is x.call_of)))

    fits_param : (i d j : ℕ) → Fits param_bytes j j (read_param_by false text i d)
    fits_param zero d j = fits_fail {e = exhausted}
    fits_param (suc i) d j =
        fits_then fits_own (λ s h.
        fits_then
        (fits_value {k = j} (λ l. read_subexpression_by false text i d l) s (omega arith) (fits_more (omega arith) (fits_subexpression i d s.end (j - 100000))))
        (λ v g. fits_skipping s.end v (omega arith)))

    fits_expression : (i d l j : ℕ) → Fits expression_bytes j j (read_expression_by false text i d l)
    fits_expression zero d l j = fits_fail {e = exhausted}
    fits_expression (suc i) d l j =
        fits_then fits_tilde (λ t h.
        fits_then (fits_name i d (j - 0)) (λ n g.
        fits_then (fits_parts i d l (j - 0 - param_bytes n)) (λ xs f.
        fits_pure {a = expression_of t n xs} (omega (arith, expression_is t n xs)))))

    fits_parts : (i d l j : ℕ) → Fits parts_bytes j j (read_parts_by false text i d l)
    fits_parts zero d l j = fits_fail {e = exhausted}
    fits_parts (suc i) d l j =
        fits_step l (fits_pure (omega arith)) (λ s h.
        fits_then (fits_part (read_param_by false text i d) s (λ k. fits_param i d k)) (λ x g.
        fits_then (fits_parts i d l (j - 100000 - part_bytes x)) (λ xs f. fits_pure {a = x ∷ xs} (omega arith))))

  -- what is read again at a link
  read_short : (d l : ℕ) (s : List Span) → Within expression_bytes (100000 * length s) (read_expression false text d l s)
  read_short d l s = (fits_expression (enough s) d l (100000 * length s)).within s (omega arith)

  empty_short : call_bytes (call (name []) no_params no_keys) ≡ 10
  unfolding param_form write_form write_head write_fields write_field quoted escaped
  empty_short = refl

  children_short : (words : List ℕ) (x : Subexpression)
      → call_bytes (call_or (expression_at text words x)) + block_bytes (block_or (expression_at text words x)) ≤ 100000 * span_count words + 10
  children_short words x = go (expression_at text words x) (read_short x.depth x.limit (spans_from words x.from))
    where
      go : (o : Read Expression) → Within expression_bytes (100000 * length (spans_from words x.from)) o → call_bytes (call_or o) + block_bytes (block_or o) ≤ 100000 * span_count words + 10
      go (done y r) h = omega (arith, spans_short words x.from)
      go (failed e) h = omega (arith, empty_short, no_block)

  pub decorator_short : (words : List ℕ) (x : Subexpression) → length (write_forms (decorator_children text words x)) ≤ 100000 * span_count words + 10
  unfolding decorator_children
  decorator_short words x = omega (arith, children_short words x)

  pub helper_short : (words : List ℕ) (x : Subexpression) → length (write_forms (helper_children text words x)) ≤ 100000 * span_count words + 10
  unfolding helper_children
  helper_short words x =
      let o = expression_at text words x in
      let e = ap length (call_join (call_or o) (block_param_forms (block_or o) nil)) in
      omega (arith, children_short words x, length-append (write_forms (call_forms (call_or o) nil)) (write_forms (block_param_forms (block_or o) nil)))
