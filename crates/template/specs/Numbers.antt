-- Document 01's number of each reason that the code names.
use Rattle.std.specs.Prelude.{ℕ}
use Rattle.template.specs.declared.refusal.Reason.{Reason}
use Rattle.template.specs.declared.refusal.Reason.TheVariants as R

-- by the table "Why a card was turned away"
abbrev pub reason_number : Reason → ℕ
reason_number R.Options = 1
reason_number R.TextTooLong = 2
reason_number R.SpanList = 3
reason_number R.NotUtf8 = 4
reason_number R.BadSpan = 5
reason_number R.OutOfOrder = 6
reason_number R.BadNesting = 7
reason_number R.BadExpression = 8
reason_number R.InvalidLiteral = 9
reason_number R.HelperName = 10
reason_number R.DecoratorName = 11
reason_number R.OverLimit = 12
reason_number R.BadEscape = 13
reason_number R.ListingTooLong = 14
