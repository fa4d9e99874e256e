-- What the answers about the whole input mean: 1 to 5.
use Rattle.std.specs.Prelude.{ℕ, ◌≡◌, List, Some, None, Result, Ok, Err}
use Rattle.std.specs.declared.option.Option as rattle
use Rattle.std.proofs.Math.Option.{none, some}
use Rattle.support.specs.Bytes.{Bytes, if}
use Rattle.template.specs.Result.{accepted, refused}
use Rattle.template.specs.Checks.{options_over, checks, bad_span_of}
use Rattle.template.specs.Compile.{prevent_indent, is_partial}
use Rattle.template.specs.Element.{Good}
use Rattle.template.specs.Numbers.{reason_number}
use Rattle.template.specs.declared.refusal.Reason.TheVariants as R
use Rattle.template.specs.declared.refusal.Refusal.{Refusal}
use Rattle.template.specs.declared.visit.Options.{Options}

-- the options that a number from 0 to 3 stands for; reason 1 for another
abbrev pub options_read : ℕ → Result Options Refusal
options_read n = if (options_over n) (Err (record { reason = R.Options; place = 0 })) (Ok (record { prevent_indent = prevent_indent n; is_partial = is_partial n }))

-- the number of the first bad span, or there is none
abbrev pub FirstBadMeans : Bytes → List ℕ → rattle.Option ℕ → Type 0
FirstBadMeans text words (Some k) = bad_span_of text words ≡ some k
FirstBadMeans text words None = bad_span_of text words ≡ none

pub record FirstBadIs (text : Bytes) (words : List ℕ) (r : rattle.Option ℕ) : Type 0 where
  pub means : FirstBadMeans text words r

-- what passes 1 to 5, with the options o
pub record Passes (text : Bytes) (words : List ℕ) (options : ℕ) (o : Options) : Type 0 where
  pub read : options_read options ≡ Ok o
  pub answer : checks text words options ≡ accepted tt
  pub good : Good text words

-- the number and the place of the first reason, or there is none
abbrev pub CheckedMeans : Bytes → List ℕ → ℕ → Result Options Refusal → Type 0
CheckedMeans text words options (Ok o) = Passes text words options o
CheckedMeans text words options (Err f) = checks text words options ≡ refused (reason_number f.reason) f.place

pub record CheckedIs (text : Bytes) (words : List ℕ) (options : ℕ) (r : Result Options Refusal) : Type 0 where
  pub means : CheckedMeans text words options r
