-- In a string between characters the place behind the plain bytes. The string's role and part are looked for among the facts, since a step is
-- named after its pattern: code with another part in the pattern is then refused for that part, and not for the name.
use mathlib.Core.Path.{◌≡◌}
use Rattle.std.proofs.Common.{rules}
use Rattle.literal.specs.declared.mode.Mode.TheVariants.{InString}
use Rattle.literal.specs.declared.mode.Role.{Role}
use Rattle.literal.specs.declared.mode.Str.{Str}
use Rattle.literal.proofs.PlainLaws as plain
use Rattle.literal.proofs.plain.past_plain.Goals as goal

pub returns : goal.returns
returns c =
    let m : (k : Role) × ((p : Str) × (c.args.mode ≡ InString k p)) = search rules in
    plain.goes c.args.text.now _ c.in-Inner.is m.1.1 (cc) c.in-Some.ensures.lookup.0.2 c.plain_len.ensures
