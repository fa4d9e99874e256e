-- The answer to an input, by 1 to 5: refused by them, or what the walk answers. Assumes nothing.
use Prim.Native.Nat.{ℕ}
use mathlib.Core.Path.{◌≡◌, refl, sym, subst, ap}
use mathlib.Core.List.{List}
use mathlib.Core.Bool.{Bool, true, false}
use native.Mathlib.Omega.{arith}
use lib.ListN.{length}
use Rattle.std.specs.Prelude.{Result, Ok, Err}
use Rattle.support.specs.Bytes.{Bytes}
use Rattle.listing.specs.Listing.{listing}
use Rattle.template.specs.Result.{and_then}
use Rattle.template.specs.Checks.{options_over}
use Rattle.template.specs.Walk.{read_spans}
use Rattle.template.specs.Compile.{prevent_indent, is_partial, branch_reading, fit, answer}
use Rattle.template.specs.Checked.{options_read, CheckedIs}
use Rattle.template.specs.Finish.{walk_answer}
use Rattle.template.specs.Answers.{AnswerIs}
use Rattle.template.specs.declared.refusal.Refusal.{Refusal}
use Rattle.template.specs.declared.visit.Options.{Options}
use Rattle.template.proofs.CheckLaws.{by_over}

-- the options that were read are those of the number
read_as : (options : ℕ) {o : Options} → options_read options ≡ Ok o → record { prevent_indent = prevent_indent options; is_partial = is_partial options } ≡ o
read_as options {o} e = go (options_over options) e
  where
    go : (b : Bool) → by_over options b ≡ Ok o → record { prevent_indent = prevent_indent options; is_partial = is_partial options } ≡ o
    go true e = let z : ◌≡◌ {A = ℕ} 0 1 = cc in absurd (omega (arith, z))
    go false e = cc

module _ {text : Bytes} {words : List ℕ} {options : ℕ} where
  pub turned_away : (l : Bytes) {f : Refusal} → CheckedIs text words options (Err f) → AnswerIs (answer text words options (length l)) l l (Err f)
  unfolding answer branch_reading
  turned_away l h =
      record {
        means = (
          ap (λ z. and_then (and_then z (λ _. read_spans text words (prevent_indent options) (is_partial options))) (λ b. fit (length l) (listing b))) h.means,
          refl,
        );
      }

  pub walked : {l m : Bytes} {o : Options} {r : Result ℕ Refusal} → CheckedIs text words options (Ok o) → AnswerIs (walk_answer text words o (length l)) l m r
      → AnswerIs (answer text words options (length l)) l m r
  unfolding answer branch_reading
  walked {l} {m} {o} {r} h w =
      rw h.means.answer (subst (λ i. AnswerIs (walk_answer text words i (length l)) l m r) (sym (read_as options h.means.read)) w)
