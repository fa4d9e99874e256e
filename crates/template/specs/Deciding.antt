-- What is decided in a visit of a walked span, once 6 and 7 are asked.
use Rattle.std.specs.Prelude.{Result}
use Rattle.template.specs.Visiting.{KindIs}
use Rattle.template.specs.declared.input.Visit.{Visit}
use Rattle.template.specs.declared.visit.Step.{Step}
use Rattle.template.specs.declared.refusal.Refusal.{Refusal}

abbrev pub Decides : Visit → Result Step Refusal → Type 0
Decides x r = KindIs x.input.now.text.now x.input.now.words.now x.input.now.options x.view x.span x.gap x.here r
