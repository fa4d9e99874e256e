-- Writing one after the other: the bytes of two writers in turn are the bytes of both joined. Assumes nothing.
use Prim.Native.Nat.{ℕ, zero, suc, ◌+◌, ◌-◌, ◌/◌, ◌%◌, ◌≤◌, ◌<◌}
use native.Mathlib.Omega.{arith}
use native.Mathlib.Nat.{add-zero, add-suc, suc-add}
use native.Mathlib.Numerals.{add-one}
use mathlib.Core.Path.{◌≡◌, refl, sym, ap, subst, ◌∙◌}
use mathlib.Core.List.{[], ◌∷◌, ◌++◌, append-nil, append_assoc}
use mathlib.Core.Bool.{Bool, true, false}
use mir.Val.{bool_byte}
use Rattle.std.specs.Bool.{MatchBool}
use lib.Dec.{leb, ltb, eqb}
use lib.ListN.{length, get_or, take, drop, set, length-append, length-take, length-drop, take-append-drop}
use lib.Seq.{drop-append-add, sets, set_out, length-sets, take-suc, take_all}
use Rattle.std.proofs.lemmas.List.{nil_from_length}
use borrow.Author.Tests.{leb-true, leb-false, ltb-false, lt-ltb, le-ltb, ne_eqb, eqb-true, eqb-false}
use Rattle.support.specs.Bytes.{Bytes, ascii, if}
use Rattle.listing.specs.Quoted.{escape, escaped, digits, decimal}
use Rattle.listing.specs.Written.{largest, onward, Written}
use Rattle.listing.proofs.Lex.{digits_append}

sets_append : (l : Bytes) (i : ℕ) (x y : Bytes) → sets (sets l i x) (i + length x) y ≡ sets l i (x ++ y)
sets_append l i [] y = rw (add-zero i)
sets_append l i (b ∷ x) y = ap (λ n. sets (sets (set l i b) (suc i) x) n y) (add-suc i (length x) ∙ sym (suc-add i (length x))) ∙ sets_append (set l i b) (suc i) x y

-- at the end or behind it nothing is stored
pub sets_out : (l : Bytes) (i : ℕ) (x : Bytes) → length l ≤ i → sets l i x ≡ l
sets_out l i [] h = refl
sets_out l i (b ∷ x) h = ap (λ k. sets k (suc i) x) (set_out l i b h) ∙ sets_out l (suc i) x (omega arith)

onward_onward : (at m n : ℕ) → onward (onward at m) n ≡ onward at (m + n)
onward_onward at m n = omega arith

-- there a writer only answers the position behind its bytes
pub written_out : (w l : Bytes) (at r : ℕ) → length l ≤ at → r ≡ onward at (length w) → Written w l at l r
written_out w l at r h e = record { stored = sym (sets_out l at w h); next = e }

pub written_none : (l : Bytes) (at : ℕ) → at ≤ largest → Written [] l at l at
written_none l at h = record { stored = refl; next = omega arith }

pub written_then : {x y l m n : Bytes} {at p r : ℕ} → length l ≤ largest → Written x l at m p → Written y m p n r → Written (x ++ y) l at n r
written_then {x} {y} {l} {m} {n} {at} {p} {r} h a b =
    record {
      stored = b.stored ∙ ap (λ k. sets k p y) a.stored ∙ go (leb (at + length x) largest) refl ∙ sets_append l at x y;
      next = b.next ∙ ap (λ k. onward k (length y)) a.next ∙ onward_onward at (length x) (length y) ∙ ap (onward at) (sym (length-append x y));
    }
  where
    go : (u : Bool) → leb (at + length x) largest ≡ u → sets (sets l at x) p y ≡ sets (sets l at x) (at + length x) y
    go true e = let q : p ≡ at + length x = omega (arith, a.next, leb-true (at + length x) largest e) in rw q
    go false e =
        let k : length (sets l at x) ≤ p = omega (arith, a.next, leb-false (at + length x) largest e, length-sets l at x) in
        let j : length (sets l at x) ≤ at + length x = omega (arith, leb-false (at + length x) largest e, length-sets l at x) in
        sets_out (sets l at x) p y k ∙ sym (sets_out (sets l at x) (at + length x) y j)

pub written_length : {w l m : Bytes} {at r : ℕ} → Written w l at m r → length m ≡ length l
written_length {w} {l} {m} {at} a = ap length a.stored ∙ length-sets l at w

-- one more byte is copied, where there is room for all
pub copied_more : {l m : Bytes} {at : ℕ} (s : Bytes) (i : ℕ) → at + length s ≤ length l → length l ≤ largest → i < length s → Written (take i s) l at m (at + i)
    → Written (take (i + 1) s) l at (set m (at + i) (get_or s i 0)) (at + (i + 1))
copied_more s i h g k a = rw (add-one i, take-suc s i 0 k) (written_then g a (record { stored = refl; next = omega arith }))

-- what is copied of a text up to the end of the output is what is stored of the whole text
pub copied_end : {l m : Bytes} {at r : ℕ} (s : Bytes) (n : ℕ) → n ≤ length s → length l ≤ at + n → Written (take n s) l at m r → m ≡ sets l at s
copied_end {l} {m} {at} s n h k a =
    let o : length l ≤ at + length (take n s) = omega (arith, length-take n s) in
    let q = length-sets l at (take n s) in
    a.stored ∙ sym (sets_out (sets l at (take n s)) (at + length (take n s)) (drop n s) (omega arith)) ∙ sets_append l at (take n s) (drop n s) ∙ ap (sets l at) (take-append-drop n s)

-- a walk over a text has passed the bytes before `rest`, and those have the property
pub record Passed (P : Bytes → Type 0) (s rest : Bytes) : Type 0 where
  pub front : Bytes
  pub joined : s ≡ front ++ rest
  pub holds : P front

pub passed_none : (P : Bytes → Type 0) {s rest : Bytes} → rest ≡ s → P [] → Passed P s rest
passed_none P e h = record { front = []; joined = sym e; holds = h }

pub passed_more : {P : Bytes → Type 0} {s rest : Bytes} (Q : Bytes → Type 0) (x left : Bytes) → rest ≡ x ++ left → ((a : Bytes) → P a → Q (a ++ x)) → Passed P s rest → Passed Q s left
passed_more Q x left e f p = record { front = p.front ++ x; joined = p.joined ∙ ap (p.front ++◌) e ∙ sym (append_assoc p.front x left); holds = f p.front p.holds }

pub passed_all : {P : Bytes → Type 0} {s rest : Bytes} → length rest ≡ 0 → Passed P s rest → P s
passed_all {P} {s} {rest} e p = subst P (sym (p.joined ∙ ap (p.front ++◌) (nil_from_length rest e) ∙ append-nil p.front)) p.holds

-- the same of its bytes as quoted text writes them
pub escaped_append : (s t : Bytes) → escaped (s ++ t) ≡ escaped s ++ escaped t
unfolding escaped
escaped_append [] t = refl
escaped_append (c ∷ s) t = ap (escape c ++◌) (escaped_append s t) ∙ sym (append_assoc (escape c) (escaped s) (escaped t))

pub escaped_more : {l m n : Bytes} {at p r : ℕ} (s : Bytes) (i : ℕ) → length l ≤ largest → i < length s → Written (escaped (take i s)) l at m p
    → Written (escape (get_or s i 0)) m p n r
    → Written (escaped (take (i + 1) s)) l at n r
unfolding escaped
escaped_more s i h k a b =
    let b' = get_or s i 0 in
    rw (add-one i, take-suc s i 0 k, escaped_append (take i s) (b' ∷ []), append-nil (escape b')) (written_then h a b)

pub escaped_all : {l m : Bytes} {at p : ℕ} (s : Bytes) (i : ℕ) → length s ≤ i → Written (escaped (take i s)) l at m p → Written (escaped s) l at m p
escaped_all s i h a = rw (take_all i s h) at a

-- bytes that have no escape
pub plain_escaped : (s : Bytes) (r : ℕ) → r ≤ length s → ((k : ℕ) → k < r → escape (get_or s k 0) ≡ get_or s k 0 ∷ []) → escaped (take r s) ≡ take r s
unfolding escaped
plain_escaped s zero h f = refl
plain_escaped [] (suc r) h f = absurd (omega arith)
plain_escaped (c ∷ s) (suc r) h f = ap (λ e. e ++ escaped (take r s)) (f 0 (omega arith)) ∙ ap (c ∷◌) (plain_escaped s r (omega arith) (λ k j. f (suc k) (omega arith)))

-- one more byte looked at: those before the stop b have none
pub plain_more : (s : Bytes) (i a b : ℕ) → b ≤ a → ((k : ℕ) → k < i → k < a → escape (get_or s k 0) ≡ get_or s k 0 ∷ []) → (i < b → escape (get_or s i 0) ≡ get_or s i 0 ∷ [])
    → (k : ℕ) → k < i + 1 → k < b → escape (get_or s k 0) ≡ get_or s k 0 ∷ []
plain_more s i a b h f g k l m = go (eqb k i) refl
  where
    go : (u : Bool) → eqb k i ≡ u → escape (get_or s k 0) ≡ get_or s k 0 ∷ []
    go true e = let q = eqb-true k i e in subst (λ n. escape (get_or s n 0) ≡ get_or s n 0 ∷ []) (sym q) (g (omega arith))
    go false e = let q = eqb-false k i e in f k (omega arith) (omega arith)

escape_some : (c : ℕ) → 1 ≤ length (escape c)
unfolding escape
escape_some c = go (eqb c 92) (eqb c 34) (eqb c 10)
  where
    go : (x y z : Bool) → 1 ≤ length (if x (ascii "\\\\") (if y (ascii "\\\"") (if z (ascii "\\n") (c ∷ []))))
    go true y z = omega arith
    go false true z = omega arith
    go false false true = omega arith
    go false false false = omega arith

escape_one : (c : ℕ) → length (escape c) ≡ 1 → escape c ≡ c ∷ []
unfolding escape
escape_one c = go (eqb c 92) (eqb c 34) (eqb c 10)
  where
    go : (x y z : Bool) → length (if x (ascii "\\\\") (if y (ascii "\\\"") (if z (ascii "\\n") (c ∷ [])))) ≡ 1
        → if x (ascii "\\\\") (if y (ascii "\\\"") (if z (ascii "\\n") (c ∷ []))) ≡ c ∷ []
    go true y z e = absurd (omega arith)
    go false true z e = absurd (omega arith)
    go false false true e = absurd (omega arith)
    go false false false e = refl

escaped_long : (s : Bytes) → length s ≤ length (escaped s)
unfolding escaped
escaped_long [] = omega arith
escaped_long (c ∷ s) = omega (arith, escape_some c, escaped_long s, length-append (escape c) (escaped s))

pub none_escaped : (s : Bytes) → length (escaped s) ≡ length s → escaped s ≡ s
unfolding escaped
none_escaped [] e = refl
none_escaped (c ∷ s) e =
    let a = length-append (escape c) (escaped s) in
    let o : length (escape c) ≡ 1 = omega (arith, escape_some c, escaped_long s) in
    let r : length (escaped s) ≡ length s = omega (arith, escaped_long s) in
    ap (λ z. z ++ escaped s) (escape_one c o) ∙ ap (c ∷◌) (none_escaped s r)

-- n bytes of the text have an escape
abbrev pub Escapes : Bytes → ℕ → Type 0
Escapes s n = (n ≤ length s) × (length (escaped s) ≡ length s + n)

pub escapes_join : {m n : ℕ} (x y : Bytes) → Escapes x m → Escapes y n → Escapes (x ++ y) (m + n)
escapes_join x y a b = rw escaped_append (omega (arith, length-append x y, length-append (escaped x) (escaped y)))

pub escapes_byte : {n k : ℕ} (s : Bytes) (i : ℕ) → i < length s → Escapes (take i s) n → (k ≤ 1) × (length (escape (get_or s i 0)) ≡ 1 + k)
    → Escapes (take (i + 1) s) (n + k)
unfolding escaped
escapes_byte {k = k} s i h a b =
    let b' = get_or s i 0 in
    let e : Escapes (b' ∷ []) k = (b.0, ap length (append-nil (escape b')) ∙ b.1) in
    rw (add-one i, take-suc s i 0 h) (escapes_join (take i s) (b' ∷ []) a e)

-- a walk by blocks of 128 bytes: n bytes have an escape of those before `rest` and those behind the last whole block
pub record Counted (s rest end : Bytes) (n : ℕ) : Type 0 where
  pub front : Bytes
  pub joined : s ≡ front ++ rest
  pub last : end ≡ drop (length rest - length rest % 128) rest
  pub count : Escapes (front ++ end) n

pub counted_none : {s rest end x : Bytes} {n : ℕ} → rest ≡ s → end ≡ drop (length s - length s % 128) s → x ≡ end → Escapes x n → Counted s rest end n
counted_none {s} {rest} {end} {x} {n} e f g h = record { front = []; joined = sym e; last = f ∙ ap (λ z. drop (length z - length z % 128) z) (sym e); count = subst (λ z. Escapes z n) g h }

module _ {s rest end : Bytes} {n : ℕ} (g : Counted s rest end n) where
  module _ (x left : Bytes) (h : length x ≡ 128) (e : rest ≡ x ++ left) {k : ℕ} (a : Escapes x k) where
    tail : end ≡ drop (length left - length left % 128) left
    tail =
        let d = ap length e ∙ length-append x left in
        let q : length rest - length rest % 128 ≡ length x + (length left - length left % 128) = omega arith in
        g.last ∙ ap (λ m. drop m rest) q ∙ ap (drop (length x + (length left - length left % 128))) e ∙ drop-append-add x left (length left - length left % 128)

    -- their number does not pass the text's length
    pub counted_room : n + k ≤ length s
    counted_room =
        omega (arith, g.count.0, a.0, h, ap length g.joined, length-append g.front rest, length-append g.front end, ap length e, length-append x left, ap length tail, length-drop (length left - length left % 128) left)

    pub counted_more : Counted s left end (n + k)
    counted_more = record {
      front = g.front ++ x;
      joined = g.joined ∙ ap (g.front ++◌) e ∙ sym (append_assoc g.front x left);
      last = tail;
      count = (
        omega (arith, g.count.0, a.0, length-append g.front end, length-append (g.front ++ x) end, length-append g.front x),
        ap length (escaped_append (g.front ++ x) end ∙ ap (λ z. z ++ escaped end) (escaped_append g.front x)) ∙ omega (arith, a.1, g.count.1, ap length (escaped_append g.front end), length-append g.front end, length-append (escaped g.front) (escaped end), length-append (g.front ++ x) end, length-append g.front x, length-append (escaped g.front ++ escaped x) (escaped end), length-append (escaped g.front) (escaped x)),
      );
    }

  pub counted_all : length rest < 128 → length (escaped s) ≡ length s + n
  counted_all h =
      let q : length rest - length rest % 128 ≡ 0 = omega arith in
      let e : end ≡ rest = g.last ∙ ap (λ m. drop m rest) q in
      ap (λ z. length (escaped z)) (g.joined ∙ ap (g.front ++◌) (sym e)) ∙ g.count.1 ∙ ap (λ z. length z + n) (ap (g.front ++◌) e ∙ sym g.joined)

-- one byte, by its escape
module _ (b : ℕ) where
  pub escape_backslash : b ≡ 92 → escape b ≡ ascii "\\\\"
  unfolding escape
  escape_backslash e = rw e

  pub escape_quote : b ≡ 34 → escape b ≡ ascii "\\\""
  unfolding escape
  escape_quote e = rw e

  pub escape_feed : b ≡ 10 → escape b ≡ ascii "\\n"
  unfolding escape
  escape_feed e = rw e

  pub escape_other : (b ≡ 92 → ⊥) → (b ≡ 34 → ⊥) → (b ≡ 10 → ⊥) → escape b ≡ b ∷ []
  unfolding escape
  escape_other x y z = rw (ne_eqb b 92 x, ne_eqb b 34 y, ne_eqb b 10 z)

-- what a byte's escape adds to its length
pub escape_adds : (b : ℕ) (x : Bool) {k : ℕ} → MatchBool x (length (escape b) ≡ 2) (escape b ≡ b ∷ []) → k ≡ bool_byte x → (k ≤ 1) × (length (escape b) ≡ 1 + k)
escape_adds b true h e = (omega arith, h ∙ omega arith)
escape_adds b false h e = (omega arith, ap length h ∙ omega arith)

-- ---- a number's digits

more_steps : (k j n : ℕ) (rest : Bytes) → n < k → n < j → digits k n rest ≡ digits j n rest
unfolding digits
more_steps zero j n rest h g = absurd (omega arith)
more_steps (suc k) zero n rest h g = absurd (omega arith)
more_steps (suc k) (suc j) n rest h g = go (ltb n 10) refl (λ a b. more_steps k j (n / 10) ((48 + n % 10) ∷ rest) a b)
  where
    go : (u : Bool) → ltb n 10 ≡ u → (n / 10 < k → n / 10 < j → digits k (n / 10) ((48 + n % 10) ∷ rest) ≡ digits j (n / 10) ((48 + n % 10) ∷ rest))
        → digits (suc k) n rest ≡ digits (suc j) n rest
    go true e f = rw (e, digits)
    go false e f = rw (e, digits) (f (omega (arith, ltb-false n 10 e)) (omega (arith, ltb-false n 10 e)))

pub decimal_one : (n : ℕ) → n < 10 → decimal n ≡ (48 + n) ∷ []
unfolding decimal digits
decimal_one n h = rw (lt-ltb n 10 h, digits)

pub decimal_more : (n : ℕ) → 10 ≤ n → decimal n ≡ decimal (n / 10) ++ ((48 + n % 10) ∷ [])
unfolding decimal digits
decimal_more n h = rw (le-ltb n 10 h, digits) (more_steps n (suc (n / 10)) (n / 10) ((48 + n % 10) ∷ []) (omega arith) (omega arith) ∙ sym (digits_append (suc (n / 10)) (n / 10) [] ((48 + n % 10) ∷ [])))
