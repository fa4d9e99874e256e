-- What `?` hands on is the refusal that it met. Assumes nothing.
use mathlib.Core.Path.{◌≡◌, ap, ◌∙◌}
use Rattle.std.specs.Prelude.{Result, Err, IsErrAnd}
use Rattle.std.proofs.lemmas.Result.{err_from_is_err_and}

pub handed_on : {A E : Type 0} {r : Result A E} {e : E} → IsErrAnd r (λ f. f ≡ e) → r ≡ Err e
handed_on {A} {E} {r} {e} h =
    let p = err_from_is_err_and r h in
    p.1 ∙ ap Err p.2
