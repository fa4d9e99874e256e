-- A few bytes are passed one by one; of others the LFs and the characters are counted. Assumes nothing.
use native.Mathlib.Omega.{arith}
use mathlib.Core.Path.{sym, ap, ◌∙◌}
use lib.ListN.{drop}
use Rattle.support.specs.Position.{at}
use Rattle.support.specs.Code.Blocks.{count, more, is_feed, is_first}
use Rattle.support.proofs.Counts as counts
use Rattle.support.proofs.Pieces as pieces
use Rattle.support.proofs.Places as places
use Rattle.support.proofs.position.line_col.Goals as goal

pub returns-then-n-eq0 : goal.returns-then-n-eq0
returns-then-n-eq0 c =
    let a = c.args in
    let n = c.stretch_of-stretch.ensures.counts in
    let s = a.bytes.now in
    let from = a.from in
    sym
    (places.no_feed from.line from.column s (omega arith) (sym n.feeds ∙ c.if-n-eq0.true)
    ∙ ap (λ k. at from.line (more from.column k)) (sym n.firsts)
    ∙ ap (at from.line) (sym c.more.ensures))

pub returns : goal.returns
returns c =
    let s = c.args.bytes.now in
    let from = c.args.from in
    let e = c.stretch_of-stretch.ensures in
    let start = c.stretch_of-stretch.result.start in
    let last = c.count_all-last in
    let firsts = last.ensures.firsts ∙ ap (count is_first) (pieces.from_here s start) in
    let some = counts.some_left is_feed s start e.none (omega (arith, e.counts.feeds, c.if-n-eq0.false)) in
    sym
    (places.last_feed from.line from.column start s (omega arith) some e.inside (e.after some) e.none
    ∙ ap (λ k. at (more from.line k) (more 1 (count is_first (drop start s)))) (sym e.counts.feeds)
    ∙ ap (λ k. at (more from.line c.stretch_of-stretch.result.counts.feeds) (more 1 k)) (sym firsts)
    ∙ ap (λ k. at k (more 1 last.result.firsts)) (sym c.more-2.ensures)
    ∙ ap (at c.more-2.result) (sym c.more-3.ensures))
