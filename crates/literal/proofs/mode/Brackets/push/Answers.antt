-- The bits are doubled, and the new bracket is the lowest.
use Prim.Native.Nat.{◌*◌, ◌+◌}
use native.Mathlib.Omega.{arith}
use Rattle.literal.proofs.StackLaws as stack
use Rattle.literal.proofs.mode.Brackets.push.Goals as goal
use Rattle.literal.proofs.mode.Brackets.push.Goals.{in-Array, in-Object}

pub overflow_mul-result : goal.overflow_mul-result
overflow_mul-result c = let k = stack.power_small _ _ c.requires c.args.self.bounded in omega arith

pub overflow_mul-result-in-Object : goal.overflow_mul-result-in-Object
overflow_mul-result-in-Object c = let k = stack.power_small _ _ c.requires c.args.self.bounded in omega arith

pub overflow_add-result-in-Object-2 : goal.overflow_add-result-in-Object-2
overflow_add-result-in-Object-2 c = let k = stack.power_small _ _ c.requires c.args.self.bounded in omega arith

pub invariant_of-result : goal.invariant_of-result
invariant_of-result c =
    let s = c.args.self in
    elim c.match-bracket.branch [
      | in-Array w ↦ rw w.result-is (record { bounded = stack.power_push s.depth s.bits (s.bits * 2) s.bounded (omega arith) })
      | in-Object w ↦ rw w.result-is (record { bounded = stack.power_push s.depth s.bits (s.bits * 2 + 1) s.bounded (omega arith) })
    ]

pub returns : goal.returns
returns c =
    let s = c.args.self in
    elim c.match-bracket.branch [
      | in-Array w ↦ rw (w.result-is, w.in-Array.is) (stack.pushed_array s.depth s.bits)
      | in-Object w ↦ rw (w.result-is, w.in-Object.is) (stack.pushed_object s.depth s.bits)
    ]
