-- What the function of the tag's kind decides. Assumes nothing.
use native.Mathlib.Omega.{arith}
use Rattle.template.proofs.TagKinds as kinds
use Rattle.template.proofs.StepParts as parts
use Rattle.template.proofs.input.Visit.visit_kind.Goals as goal
use Rattle.template.proofs.input.Visit.visit_kind.Goals.{in_default-via-then-self-lt1, in_default-via-else-self-lt1+else-self-lt4+then-self-lt5, in_default-via-else-self-lt1+else-self-lt4+else-self-lt5+else-self-lt19+else-self-lt21}

pub skipped-requires : goal.skipped-requires
skipped-requires c =
    let x = c.args.self.now in
    elim c.in_default.branch [
      | in_default-via-then-self-lt1 w ↦ parts.skipped_low x.span.tag (omega arith) (λ h. omega arith) (λ h. omega arith) (λ h. omega arith) x.walked.no_escape
      | in_default-via-else-self-lt1+else-self-lt4+then-self-lt5 w ↦ parts.skipped_low x.span.tag (omega arith) (λ h. omega arith) (λ h. omega arith) (λ h. omega arith) x.walked.no_escape
      | in_default-via-else-self-lt1+else-self-lt4+else-self-lt5+else-self-lt19+else-self-lt21 w ↦ kinds.kind_skipped x.span.tag (omega arith)
    ]
