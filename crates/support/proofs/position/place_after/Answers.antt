-- The place so far and the bytes left give the place asked for. Assumes nothing.
use Prim.Native.Nat.{◌+◌}
use native.Mathlib.Omega.{arith}
use mathlib.Core.Path.{sym, ap, ◌∙◌}
use lib.ListN.{drop}
use Rattle.support.specs.Position.{place_of, line_col}
use Rattle.support.proofs.Places as places
use Rattle.support.proofs.position.place_after.Goals as goal

pub loop-b-preserved : goal.loop-b-preserved
loop-b-preserved c =
    let l = c.loop-b in
    let s = c.args.bytes.now in
    l.invariant ∙ places.line_col_on (place_of l.p) s l.b-index (omega arith) ∙ ap (λ q. line_col q (drop (l.b-index + 1) s)) (sym c.next_place-p.ensures)

pub returns : goal.returns
returns c =
    let l = c.loop-b in
    sym (l.invariant ∙ places.line_col_end (place_of l.p) c.args.bytes.now l.b-index (omega arith))
