-- The loop keeps what proofs/Pass says. Assumes nothing.
use native.Mathlib.Omega.{arith}
use mathlib.Core.Path.{refl, sym, ap, ◌∙◌}
use Rattle.std.proofs.Common.{rules}
use Rattle.template.specs.Opening.{body_end}
use Rattle.template.proofs.Pass as pass
use Rattle.template.proofs.ElementWrites.{bytes_are}
use Rattle.template.proofs.tree.write_tree.Goals as goal

pub loop-link-init : goal.loop-link-init
loop-link-init g c =
    pass.starts _ _ _ _ g.row.N (omega arith) c.requires.size c.requires.stored (omega (arith, c.put_bytes.ensures.bytes.next))

pub offset_bounds-elements-link : goal.offset_bounds-elements-link
offset_bounds-elements-link g c = omega (arith, pass.element_in c.loop-link.invariant c.if-link-gt0.true)

pub bounds-elements-link : goal.bounds-elements-link
bounds-elements-link g c = pass.element_in c.loop-link.invariant c.if-link-gt0.true

pub write_element-requires : goal.write_element-requires
write_element-requires g c = pass.element_good c.loop-link.invariant c.if-link-gt0.true

pub push-requires : goal.push-requires
push-requires g c = pass.depth_in c.loop-link.invariant c.if-link-gt0.true

pub loop-link-smaller-then-has_body : goal.loop-link-smaller-then-has_body
loop-link-smaller-then-has_body g c =
    rw (c.push.ensures.blocks, c.push.ensures.count, c.new.ensures)
    (pass.block_turned c.loop-link.invariant c.if-link-gt0.true c.write_element.ensures.1 c.write_element.ensures.0 (sym c.has_body.ensures ∙ c.if-has_body.true)).less

pub loop-link-preserved-then-has_body : goal.loop-link-preserved-then-has_body
loop-link-preserved-then-has_body g c =
    rw (c.push.ensures.blocks, c.push.ensures.count, c.new.ensures)
    (pass.block_turned c.loop-link.invariant c.if-link-gt0.true c.write_element.ensures.1 c.write_element.ensures.0 (sym c.has_body.ensures ∙ c.if-has_body.true)).pass

pub loop-link-smaller-else-has_body : goal.loop-link-smaller-else-has_body
loop-link-smaller-else-has_body g c =
    (pass.leaf_turned c.loop-link.invariant c.if-link-gt0.true c.write_element.ensures.1 c.write_element.ensures.0 (sym c.has_body.ensures ∙ c.if-has_body.false)).less

pub loop-link-preserved-else-has_body : goal.loop-link-preserved-else-has_body
loop-link-preserved-else-has_body g c =
    (pass.leaf_turned c.loop-link.invariant c.if-link-gt0.true c.write_element.ensures.1 c.write_element.ensures.0 (sym c.has_body.ensures ∙ c.if-has_body.false)).pass

pub offset_bounds-elements-x : goal.offset_bounds-elements-x
offset_bounds-elements-x g c = omega (arith, pass.block_in c.loop-link.invariant c.if-link-gt0.false (sym c.pop.ensures.top ∙ c.in-Some.is))

pub bounds-elements-x : goal.bounds-elements-x
bounds-elements-x g c = pass.block_in c.loop-link.invariant c.if-link-gt0.false (sym c.pop.ensures.top ∙ c.in-Some.is)

pub loop-link-smaller-then-more : goal.loop-link-smaller-then-more
loop-link-smaller-then-more g c =
    let more = sym c.has_else-more.ensures ∙ c.if-more.true in
    rw (c.push-then-more.ensures.blocks, c.push-then-more.ensures.count, c.pop.ensures.blocks, c.pop.ensures.count, c.new-then-more.ensures)
    (pass.else_turned c.loop-link.invariant c.if-link-gt0.false (sym c.pop.ensures.top ∙ c.in-Some.is) more (bytes_are (ap body_end (sym c.if-more.true)) c.write_end.ensures)).less

pub loop-link-preserved-then-more : goal.loop-link-preserved-then-more
loop-link-preserved-then-more g c =
    let more = sym c.has_else-more.ensures ∙ c.if-more.true in
    rw (c.push-then-more.ensures.blocks, c.push-then-more.ensures.count, c.pop.ensures.blocks, c.pop.ensures.count, c.new-then-more.ensures)
    (pass.else_turned c.loop-link.invariant c.if-link-gt0.false (sym c.pop.ensures.top ∙ c.in-Some.is) more (bytes_are (ap body_end (sym c.if-more.true)) c.write_end.ensures)).pass

pub loop-link-smaller : goal.loop-link-smaller
loop-link-smaller g c =
    let more = sym c.has_else-more.ensures ∙ c.if-more.false in
    rw (c.pop.ensures.blocks, c.pop.ensures.count)
    (pass.close_turned c.loop-link.invariant c.if-link-gt0.false (sym c.pop.ensures.top ∙ c.in-Some.is) more (bytes_are (ap body_end (sym c.if-more.false)) c.write_end.ensures)).less

pub loop-link-preserved : goal.loop-link-preserved
loop-link-preserved g c =
    let more = sym c.has_else-more.ensures ∙ c.if-more.false in
    rw (c.pop.ensures.blocks, c.pop.ensures.count)
    (pass.close_turned c.loop-link.invariant c.if-link-gt0.false (sym c.pop.ensures.top ∙ c.in-Some.is) more (bytes_are (ap body_end (sym c.if-more.false)) c.write_end.ensures)).pass

pub returns-in_default : goal.returns-in_default
returns-in_default g c =
    let line = bytes_are refl c.put_bytes.ensures in
    let end = c.put_bytes-in_default.ensures in
    let lists = pass.lists c.loop-link.invariant line c.if-link-gt0.false (pass.none_left _ _ (sym c.pop.ensures.top ∙ c.in_default.is)) refl end in
    let same = sym (lists c.requires.stored.body c.requires.stored.holds).same in
    record {
      lists = λ b h. let w = (lists b h).bytes in (search rules);
      short = pass.below c.loop-link.invariant line c.if-link-gt0.false (pass.none_left _ _ (sym c.pop.ensures.top ∙ c.in_default.is)) refl end;
    }
