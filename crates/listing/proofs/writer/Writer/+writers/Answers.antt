-- The writers of parameters, keys and calls meet their contracts: what is written falls in size from call to call, and the loops write what is left. Assumes nothing.
use native.Mathlib.Omega.{arith}
use Rattle.std.proofs.Common.{rules}
use Rattle.listing.specs.Listing.{param_form}
use Rattle.expression.specs.Answers.{param_means}
use Rattle.expression.proofs.Cases as cases
use Rattle.listing.proofs.ParamWrites as params
use Rattle.listing.proofs.HeldWrites as held_writes
use Rattle.listing.proofs.Writers as writers
use Rattle.listing.proofs.writer.Writer.+writers.Goals as goal

pub write_call-write_keys-requires : goal.write_call-write_keys-requires
write_call-write_keys-requires t c =
    let a = c.args in
    let e = params.call_size_lem a.text.now a.words.now a.name a.parts c.requires in (omega (arith, c.decreases), c.requires)

pub write_call-returns : goal.write_call-returns
write_call-returns t c =
    rw (params.call_bytes_lem _ _ _) (writers.wrote_then c.write_param.ensures (writers.wrote_then c.write_params.ensures c.write_keys.ensures))

pub write_hash-returns : goal.write_hash-returns
write_hash-returns t c = rw (params.hash_bytes _ _) (writers.wrote_then c.write_key.ensures (writers.wrote_then c.write_param.ensures c.put_bytes.ensures))

pub write_held-write_hash-requires : goal.write_held-write_hash-requires
write_held-write_hash-requires t c =
    let l = c.loop-e in
    let s = held_writes.held_less l.invariant c.loop-e-test.true c.in-Ok.is c.parse_hash.ensures in
    (omega (arith, c.decreases), tt)

pub write_held-loop-e-preserved : goal.write_held-loop-e-preserved
write_held-loop-e-preserved t c =
    let l = c.loop-e in
    held_writes.held_on l.invariant c.loop-e-test.true c.in-Ok.is c.parse_hash.ensures c.write_hash.ensures

pub write_held-returns : goal.write_held-returns
write_held-returns t c = held_writes.held_done c.loop-e.invariant c.loop-e-test.false

pub write_keys-write_held-requires : goal.write_keys-write_held-requires
write_keys-write_held-requires t c =
    let k = c.in-Some.ensures.means in
    (omega (arith, c.decreases, held_writes.held_size k), held_writes.all_read k)

pub write_least_keys-loop-h-init : goal.write_least_keys-loop-h-init
write_least_keys-loop-h-init t c =
    let a = c.args in
    params.keys_begin a.text.now a.words.now a.parts _ c.requires

pub write_least_keys-loop-h-preserved : goal.write_least_keys-loop-h-preserved
write_least_keys-loop-h-preserved t c =
    params.keys_on c.loop-h.invariant (rw c.in-Ok-Some.field-0-is at c.in-Ok-Some.ensures) c.write_hash.ensures

pub write_least_keys-returns-in_default : goal.write_least_keys-returns-in_default
write_least_keys-returns-in_default t c = params.keys_done c.loop-h.invariant (search rules)

pub write_many_keys-write_held-requires : goal.write_many_keys-write_held-requires
write_many_keys-write_held-requires t c =
    let k = c.in-Some.ensures.means in
    (omega (arith, c.decreases, held_writes.held_size k), held_writes.all_read k)

pub write_param-returns-in-Name : goal.write_param-returns-in-Name
unfolding param_means
write_param-returns-in-Name t c =
    let a = c.args in
    params.param_is a.text.now a.words.now c.in-Name.is c.write_name.ensures

pub write_param-returns-in-Path : goal.write_param-returns-in-Path
unfolding param_means param_form
write_param-returns-in-Path t c =
    let a = c.args in
    params.param_is a.text.now a.words.now c.in-Path.is c.write_path.ensures

pub write_param-returns-in-Literal : goal.write_param-returns-in-Literal
unfolding param_means
write_param-returns-in-Literal t c =
    let a = c.args in
    params.param_is a.text.now a.words.now c.in-Literal.is c.write_literal.ensures

pub write_params-loop-v-preserved : goal.write_params-loop-v-preserved
write_params-loop-v-preserved t c =
    let l = c.loop-v in
    params.params_on l.invariant (rw c.in-Ok-Some.field-0-is at c.in-Ok-Some.ensures)
    c.write_param.ensures

pub write_params-returns-in_default : goal.write_params-returns-in_default
write_params-returns-in_default t c = params.params_done c.loop-v.invariant (search rules)

pub write_subexpression-returns-in_default : goal.write_subexpression-returns-in_default
write_subexpression-returns-in_default t c =
    let a = c.args in
    params.sub_empty a.text.now a.words.now a.s (cases.not_entered c.in_default.is c.enter.ensures) c.put_bytes.ensures

pub write_subexpression-returns : goal.write_subexpression-returns
write_subexpression-returns t c =
    params.sub_written (cases.entered c.in-Ok.is c.enter.ensures) c.put_bytes-2.ensures c.write_call.ensures c.put_bytes-3.ensures
