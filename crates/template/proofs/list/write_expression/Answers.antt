-- The pieces of the form, one after the other. Assumes nothing.
use mathlib.Core.Path.{sym, ap}
use Rattle.listing.specs.Children.{helper_children}
use Rattle.listing.specs.Form.{write_forms}
use Rattle.listing.proofs.Writers.{wrote_then}
use Rattle.template.proofs.ElementWrites as elements
use Rattle.template.proofs.list.write_expression.Goals as goal

pub returns : goal.returns
returns c =
    let w = ap (λ z. write_forms (helper_children c.args.input.now.text.now c.args.input.now.words.now z)) (sym c.link_of.ensures) in
    wrote_then c.put_bytes.ensures (wrote_then c.write_place.ensures (wrote_then c.put_bytes-2.ensures (wrote_then (elements.bytes_are w c.write_helper.ensures) c.put_bytes-3.ensures)))
