-- A form for each case of the segment. Assumes nothing.
use Rattle.listing.specs.Form.{write_form, write_head, write_fields}
use Rattle.listing.proofs.PathWrites as paths
use Rattle.listing.proofs.writer.Writer.write_segment.Goals as goal

pub returns-in-Root : goal.returns-in-Root
unfolding write_form write_head write_fields
returns-in-Root c =
    let a = c.args in
    paths.segment_is a.text.now a.segment _ c.in-Root.is c.put_bytes.ensures

pub returns-in-Here : goal.returns-in-Here
unfolding write_form write_head write_fields
returns-in-Here c =
    let a = c.args in
    paths.segment_is a.text.now a.segment _ c.in-Here.is c.put_bytes-in-Here.ensures

pub returns-in-Up : goal.returns-in-Up
unfolding write_form write_head write_fields
returns-in-Up c =
    let a = c.args in
    paths.segment_is a.text.now a.segment _ c.in-Up.is c.put_bytes-in-Up.ensures

pub returns-in-Named : goal.returns-in-Named
returns-in-Named c =
    let a = c.args in
    paths.segment_is a.text.now a.segment _ c.in-Named.is (rw (paths.seg_bytes _) c.write_line.ensures)
