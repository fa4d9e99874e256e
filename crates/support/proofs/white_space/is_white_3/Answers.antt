-- `support::white_space::is_white_3` meets its contract: by the list of encodings, for each first byte and each second. Assumes nothing.
use native.Mathlib.Omega.{arith}
use Prim.Native.Nat.{ℕ}
use mathlib.Core.Path.{◌≡◌}
use mathlib.Core.List.{[], ◌∷◌}
use mathlib.Core.Bool.{Bool}
use lib.Dec.{eqb}
use borrow.Author.Tests.{ne_eqb}
use Rattle.support.specs.Bytes.{same_bytes}
use Rattle.support.specs.Utf8.{encode}
use Rattle.support.specs.WhiteSpace.{code_points, encodings, member_of, is_white}
use Rattle.support.proofs.WhiteLaws.{white_space, white_separator, other_space, other_3, last}
use Rattle.support.proofs.white_space.is_white_3.Goals as goal

pub returns-then-b-eq154 : goal.returns-then-b-eq154
unfolding is_white member_of encodings code_points encode same_bytes
returns-then-b-eq154 c = rw (c.if-a-eq225.true, c.if-b-eq154.true) (last (eqb c.args.c 0x80))

pub returns-else-b-eq154 : goal.returns-else-b-eq154
unfolding is_white member_of encodings code_points encode same_bytes
returns-else-b-eq154 c = rw (c.if-a-eq225.true, ne_eqb c.args.b 0x9A c.if-b-eq154.false)

pub returns-then-b-eq128 : goal.returns-then-b-eq128
unfolding is_white member_of encodings code_points encode same_bytes
returns-then-b-eq128 c = rw (c.if-a-eq227.true, c.if-b-eq128.true) (last (eqb c.args.c 0x80))

pub returns-else-b-eq128 : goal.returns-else-b-eq128
unfolding is_white member_of encodings code_points encode same_bytes
returns-else-b-eq128 c = rw (c.if-a-eq227.true, ne_eqb c.args.b 0x80 c.if-b-eq128.false)

pub returns-then-a-ne226 : goal.returns-then-a-ne226
returns-then-a-ne226 c =
    let x = c.args in
    other_3 x.a x.b x.c c.if-a-eq225.false c.if-a-ne226.true c.if-a-eq227.false

pub returns-then-b-eq129 : goal.returns-then-b-eq129
unfolding is_white member_of encodings code_points encode same_bytes
returns-then-b-eq129 c =
    let a = c.args in
    rw (c.if-a-ne226.false, c.if-b-eq129.true) (last (eqb a.c 0x9F))

pub returns-then-b-ne128 : goal.returns-then-b-ne128
unfolding is_white member_of encodings code_points encode same_bytes
returns-then-b-ne128 c =
    let b = c.args.b in
    rw (c.if-a-ne226.false, ne_eqb b 0x80 c.if-b-ne128.true, ne_eqb b 0x81 c.if-b-eq129.false)

-- after E2 80
spaces : (a b x : ℕ) (r : Bool) → a ≡ 0xE2 → b ≡ 0x80 → r ≡ is_white (0xE2 ∷ 0x80 ∷ x ∷ []) → r ≡ is_white (a ∷ b ∷ x ∷ [])
spaces a b x r p q e = rw (p, q) e

pub returns-in-175 : goal.returns-in-175
unfolding is_white member_of encodings code_points encode same_bytes
returns-in-175 c = spaces c.args.a c.args.b c.args.c _ c.if-a-ne226.false c.if-b-ne128.false (rw c.in-175.is)

pub returns-in-128-to-138 : goal.returns-in-128-to-138
returns-in-128-to-138 c = spaces c.args.a c.args.b c.args.c _ c.if-a-ne226.false c.if-b-ne128.false (white_space _ (omega arith) (omega arith))

pub returns-in-168-to-169 : goal.returns-in-168-to-169
returns-in-168-to-169 c = spaces c.args.a c.args.b c.args.c _ c.if-a-ne226.false c.if-b-ne128.false (white_separator _ (omega arith) (omega arith))

pub returns-in_default : goal.returns-in_default
returns-in_default c =
    spaces c.args.a c.args.b c.args.c _ c.if-a-ne226.false c.if-b-ne128.false
    (other_space _ (λ h k. omega arith) (λ h k. omega arith) (λ h. omega arith))

pub returns-in_default-2 : goal.returns-in_default-2
returns-in_default-2 c =
    spaces c.args.a c.args.b c.args.c _ c.if-a-ne226.false c.if-b-ne128.false
    (other_space _ (λ h k. omega arith) (λ h k. omega arith) (λ h. omega arith))

pub returns-in_default-3 : goal.returns-in_default-3
returns-in_default-3 c =
    spaces c.args.a c.args.b c.args.c _ c.if-a-ne226.false c.if-b-ne128.false
    (other_space _ (λ h k. omega arith) (λ h k. omega arith) (λ h. omega arith))
