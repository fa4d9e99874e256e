-- By the questions 1 to 5 in turn. Assumes nothing.
use native.Mathlib.Omega.{arith}
use mathlib.Core.Path.{sym}
use Rattle.template.proofs.Exits.{handed_on}
use Rattle.template.proofs.CheckLaws as laws
use Rattle.template.proofs.reason.checks.Goals as goal
use Rattle.template.proofs.reason.checks.Goals.{then-words-ne0-via-then-words-ne0, then-words-ne0-via-else-words-ne0+then-span_count-gt-LIMIT}

pub returns-in_err-o : goal.returns-in_err-o
returns-in_err-o c = rw (handed_on c.from_residual.ensures.1) (record { means = laws.check_1 _ _ _ c.in_err-o.ensures })

pub returns-then-text-gt-TEXT : goal.returns-then-text-gt-TEXT
returns-then-text-gt-TEXT c = record { means = laws.check_2 _ _ _ (laws.options_few c.in_ok-o.ensures) c.if-text-gt-TEXT.true }

pub returns-then-words-ne0 : goal.returns-then-words-ne0
returns-then-words-ne0 c =
    let few = laws.options_few c.in_ok-o.ensures in
    record {
      means = elim c.then-words-ne0.branch [
        | then-words-ne0-via-then-words-ne0 w ↦ laws.check_threes _ _ _ few (omega arith) w.if-words-ne0.true
        | then-words-ne0-via-else-words-ne0+then-span_count-gt-LIMIT w ↦ laws.check_spans _ _ _ few (omega arith) w.if-words-ne0.false (omega (arith, w.span_count.ensures, w.if-span_count-gt-LIMIT.true))
      ];
    }

pub returns-then-valid-text : goal.returns-then-valid-text
returns-then-valid-text c =
    rw c.valid_up_to-valid.ensures
    (record { means = laws.check_4 _ _ _ (laws.options_few c.in_ok-o.ensures) (omega arith) c.if-words-ne0.false (omega (arith, c.span_count.ensures)) (omega (arith, c.valid_up_to-valid.ensures)) })

pub returns-in-Some : goal.returns-in-Some
returns-in-Some c =
    record {
      means = laws.check_5 _ _ _ (laws.options_few c.in_ok-o.ensures) (omega arith) c.if-words-ne0.false (omega (arith, c.span_count.ensures)) (omega (arith, c.valid_up_to-valid.ensures))
          c.in-Some.ensures.means;
    }

pub returns : goal.returns
returns c =
    record {
      means = laws.check_good _ _ _ (laws.options_few c.in_ok-o.ensures) (omega arith) c.if-words-ne0.false (omega (arith, c.span_count.ensures)) (omega (arith, c.valid_up_to-valid.ensures))
          (sym c.in_ok-o.ensures) c.in_default.ensures.means;
    }
