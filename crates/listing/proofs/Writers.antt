-- Writing with a writer, one after the other; and a walk that writes: what writes the bytes that are left writes the whole. Assumes nothing.
use Prim.Native.Nat.{ℕ, ◌+◌, ◌/◌, ◌%◌, ◌≤◌, ◌<◌}
use native.Mathlib.Omega.{arith}
use mathlib.Core.Path.{◌≡◌, refl, subst, ◌∙◌}
use mathlib.Core.List.{[], ◌∷◌, ◌++◌, append-nil}
use Rattle.support.specs.Bytes.{Bytes}
use Rattle.listing.specs.Quoted.{escape, escaped, quoted, decimal}
use Rattle.listing.specs.Wrote.{Wrote}
use Rattle.listing.specs.declared.writer.Writer.{Writer}
use Rattle.listing.proofs.Writes.{written_none, written_then, Passed, passed_more, escaped_append, decimal_one, decimal_more}

pub wrote_none : (a : Writer) → Wrote [] a a
wrote_none a = record { same = refl; bytes = written_none a.out.now a.at a.counted.1 }

pub wrote_then : {x y : Bytes} {a b c : Writer} → Wrote x a b → Wrote y b c → Wrote (x ++ y) a c
wrote_then {a = a} f g = record { same = g.same ∙ f.same; bytes = written_then a.counted.0 f.bytes g.bytes }

pub quoted_done : {a b c d : Writer} (s : Bytes) → Wrote (34 ∷ []) a b → Wrote (escaped s) b c → Wrote (34 ∷ []) c d → Wrote (quoted s) a d
unfolding quoted
quoted_done s f g h = wrote_then f (wrote_then g h)

-- what writes the bytes that are left, from b on, writes the whole, from a on
abbrev pub Onward : Bytes → Bytes → Writer → Writer → Type 0
Onward whole left a b = (c : Writer) → Wrote left b c → Wrote whole a c

pub onward_start : (w : Bytes) (a : Writer) → Onward w w a a
onward_start w a c v = v

pub onward_as : {w x y : Bytes} {a b : Writer} → x ≡ y → Onward w x a b → Onward w y a b
onward_as {w} {a = a} {b = b} e o = subst (λ z. Onward w z a b) e o

pub onward_next : {w x y : Bytes} {a b c : Writer} → Onward w (x ++ y) a b → Wrote x b c → Onward w y a c
onward_next o v d u = o d (wrote_then v u)

pub onward_end : {w : Bytes} {a b : Writer} → Onward w [] a b → Wrote w a b
onward_end {b = b} o = o b (wrote_none b)

-- ---- quoted text

-- the next bytes of a text, written as quoted text has them; so a run that has no escape, and one byte
module _ {a b c : Writer} {s rest : Bytes} (p : Passed (λ x. Wrote (escaped x) a b) s rest) where
  pub escaped_block : (x left : Bytes) → rest ≡ x ++ left → Wrote (escaped x) b c → Passed (λ y. Wrote (escaped y) a c) s left
  escaped_block x left e f = passed_more (λ y. Wrote (escaped y) a c) x left e (λ y w. rw (escaped_append y x) (wrote_then w f)) p

  pub escaped_run : (x left : Bytes) → rest ≡ x ++ left → escaped x ≡ x → Wrote x b c → Passed (λ y. Wrote (escaped y) a c) s left
  escaped_run x left e q f = escaped_block x left e (rw q f)

  pub escaped_byte : (left : Bytes) (d : ℕ) → rest ≡ d ∷ left → Wrote (escape d) b c → Passed (λ y. Wrote (escaped y) a c) s left
  unfolding escaped
  escaped_byte left d e f = escaped_block (d ∷ []) left e (rw (append-nil (escape d)) f)

-- ---- a number's digits

pub decimal_one_wrote : {a b : Writer} (n : ℕ) → n < 10 → Wrote ((n + 48) ∷ []) a b → Wrote (decimal n) a b
decimal_one_wrote n h w = let q : 48 + n ≡ n + 48 = omega arith in rw (decimal_one n h, q) w

pub decimal_more_wrote : {a b c : Writer} (n : ℕ) → 10 ≤ n → Wrote (decimal (n / 10)) a b → Wrote ((n % 10 + 48) ∷ []) b c → Wrote (decimal n) a c
decimal_more_wrote n h f i = let q : 48 + n % 10 ≡ n % 10 + 48 = omega arith in rw (decimal_more n h, q) (wrote_then f i)
