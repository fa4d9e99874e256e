-- `support::white_space::is_white_1` meets its contract: by the list of encodings, 9 to 13 and 32 are its bytes. Assumes nothing.
use native.Mathlib.Omega.{arith}
use Rattle.support.specs.Bytes.{same_bytes}
use Rattle.support.specs.Utf8.{encode}
use Rattle.support.specs.WhiteSpace.{code_points, encodings, member_of, is_white}
use Rattle.support.proofs.WhiteLaws.{white_1, other_1}
use Rattle.support.proofs.white_space.is_white_1.Goals as goal

pub returns-in-32 : goal.returns-in-32
unfolding is_white member_of encodings code_points encode same_bytes
returns-in-32 c = rw c.in-32.is

pub returns-in-9-to-13 : goal.returns-in-9-to-13
returns-in-9-to-13 c = white_1 c.args.a (omega arith) (omega arith)

pub returns-in_default : goal.returns-in_default
returns-in_default c = other_1 c.args.a (λ h k. omega arith) (λ h. omega arith)

pub returns-in_default-2 : goal.returns-in_default-2
returns-in_default-2 c =
    let a = c.args in
    other_1 a.a (λ h k. omega arith) (λ h. omega arith)
