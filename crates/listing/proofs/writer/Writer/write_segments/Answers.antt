-- What writes the rest writes the whole. Assumes nothing.
use Rattle.json_path.proofs.Cases as cases
use Rattle.listing.proofs.PathWrites as paths
use Rattle.listing.proofs.writer.Writer.write_segments.Goals as goal

pub returns : goal.returns
returns c = paths.segments_end c.args.text.now c.args.words.now c.loop-segment.rest c.loop-segment.invariant (cases.segment_none c.in_default.is c.next_segment.ensures)

pub loop-segment-preserved : goal.loop-segment-preserved
loop-segment-preserved c =
    paths.segments_next c.args.text.now c.args.words.now c.loop-segment.rest c.loop-segment.invariant (cases.segment_found c.in-Some.is c.next_segment.ensures) c.write_segment.ensures
