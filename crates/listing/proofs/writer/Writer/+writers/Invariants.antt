-- The writers of parameters, keys and calls meet their contracts: what is written falls in size from call to call, and the loops write what is left. Assumes nothing.
use Prim.Native.Nat.{◌+◌, ◌-◌, ◌*◌}
use lib.ListN.{length}
use Rattle.listing.specs.Held.{held_keys}
use Rattle.expression.specs.declared.parameter.Parameter.TheVariants as Parameter
use Rattle.std.specs.Prelude.{None}
use Rattle.expression.specs.Answers.{param_means, call_means}
use Rattle.listing.proofs.Size.{param_size, call_size, keys_size}
use Rattle.listing.proofs.ParamWrites as params
use Rattle.listing.proofs.HeldWrites as held_writes
use Rattle.listing.proofs.writer.Writer.+writers.Given as goal

abbrev pub decreases-write_call : goal.decreases-write_call
decreases-write_call l = 4 * call_size (call_means l.text.now l.words.now l.name l.parts) + 3

abbrev pub decreases-write_hash : goal.decreases-write_hash
decreases-write_hash l = 4 * param_size (param_means l.text.now l.words.now l.h.value) + 2

abbrev pub decreases-write_held : goal.decreases-write_held
decreases-write_held l = 4 * keys_size (held_keys l.text.now l.words.now l.depth l.held.now)

abbrev pub decreases-write_keys : goal.decreases-write_keys
decreases-write_keys l = 4 * params.keys_all l.text.now l.words.now l.parts None + 2

abbrev pub decreases-write_least_keys : goal.decreases-write_least_keys
decreases-write_least_keys l = 4 * params.keys_all l.text.now l.words.now l.parts None

abbrev pub decreases-write_many_keys : goal.decreases-write_many_keys
decreases-write_many_keys l = 4 * params.keys_all l.text.now l.words.now l.parts None + 1

abbrev pub decreases-write_param : goal.decreases-write_param
decreases-write_param l = 4 * param_size (param_means l.text.now l.words.now l.v) + 1

abbrev pub decreases-write_params : goal.decreases-write_params
decreases-write_params l = 4 * params.params_all l.text.now l.words.now l.parts + 1

abbrev pub decreases-write_subexpression : goal.decreases-write_subexpression
decreases-write_subexpression l = 4 * param_size (param_means l.text.now l.words.now (Parameter.Subexpression l.s))

abbrev pub invariant-write_held-loop-e : goal.invariant-write_held-loop-e
invariant-write_held-loop-e l = held_writes.HeldLeft l.text l.words l.depth l.held l.initial.self l.e-index l.self

abbrev pub invariant-write_least_keys-loop-h : goal.invariant-write_least_keys-loop-h
invariant-write_least_keys-loop-h l = params.KeysLeft l.text l.words l.parts l.initial.self l.bound l.self

abbrev pub decreases-write_least_keys-loop-h : goal.decreases-write_least_keys-loop-h
decreases-write_least_keys-loop-h l = params.keys_all l.text l.words l.parts l.bound

abbrev pub invariant-write_params-loop-v : goal.invariant-write_params-loop-v
invariant-write_params-loop-v l = params.ParamsLeft l.text l.words l.initial.rest l.initial.self l.rest l.self

abbrev pub decreases-write_params-loop-v : goal.decreases-write_params-loop-v
decreases-write_params-loop-v l = length l.words - l.rest.from
