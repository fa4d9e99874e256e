-- A block's own, or no LF, or what `last_line` found. Assumes nothing.
use borrow.Author.Tests.{ne_eqb}
use Rattle.support.specs.Code.Blocks.{is_feed}
use Rattle.support.proofs.Counts as counts
use Rattle.support.proofs.position.stretch_of.Goals as goal

pub returns : goal.returns
returns c =
    let e = c.last_line-start.ensures in
    record {
      counts = c.count_all-counts.ensures;
      inside = e.inside;
      after = e.at;
      none = counts.none_from is_feed c.args.bytes.now c.last_line-start.result (λ k a l. ne_eqb _ 10 (e.none k a l));
    }
