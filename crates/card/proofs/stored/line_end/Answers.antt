-- `card::stored::line_end` meets its contract: the place of the first LF is the line's length. Assumes nothing.
use Rattle.std.proofs.Common.{◌≡◌, ◌+◌, ◌==◌, ap, ◌∙◌, rules, tests}
use Rattle.std.proofs.lemmas.Iterator.{YieldsList-from_slice}
use Rattle.std.proofs.lemmas.Iterator.Search.{position_from_yields_List}
use Rattle.std.specs.List.{position}
use Rattle.card.proofs.StoredLaws as laws
use Rattle.card.proofs.stored.line_end.Goals as goal

pub returns : goal.returns
returns c =
    let r = c.part-rest.result.now in
    let place : c.position.result ≡ position (λ b. b == 10) r =
    position_from_yields_List (λ b. b == 10) _ _ c.position.result c.position.ensures.ran (YieldsList-from_slice r cc) (λ x b q k. search (rules, tests)) in
    ap (c.args.at +◌) (c.unwrap_or.ensures ∙ laws.line_ends c.args.s.now c.args.at r c.position.result c.part-rest.ensures place)
