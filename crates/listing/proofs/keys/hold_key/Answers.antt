-- The key is in its place already, or there is no cell left, or it is put in there. Assumes nothing.
use native.Mathlib.Omega.{arith}
use Rattle.support.specs.Bytes.{same_bytes}
use Rattle.listing.specs.Held.{entry_key}
use Rattle.listing.proofs.Entries.{told}
use Rattle.listing.proofs.Cells as cells
use Rattle.listing.proofs.keys.hold_key.Goals as goal
use Rattle.listing.proofs.keys.hold_key.Goals.{then-place-count+else-same_bytes, else-place-count}

pub returns-then-same_bytes : goal.returns-then-same_bytes
returns-then-same_bytes c =
    let a = c.args in
    let f = entry_key a.text.now a.words.now in
    let p = cells.place_whole f a.held.now a.count a.e c.key_at-key.ensures c.place_of-place.ensures in
    cells.held_same f a.e a.held.now a.count c.requires.0 p c.if-place-count.true
    (told same_bytes c.key_at-other.ensures c.key_at-key.ensures c.same_bytes.ensures c.if-same_bytes.true)

pub returns-then-held-count : goal.returns-then-held-count
returns-then-held-count c =
    let a = c.args in
    let f = entry_key a.text.now a.words.now in
    let p = cells.place_whole f a.held.now a.count a.e c.key_at-key.ensures c.place_of-place.ensures in
    cells.held_full f a.e a.held.now a.count c.requires.0 p
    (λ l. elim c.if-place-count.branch [ then-place-count+else-same_bytes w ↦ told same_bytes w.key_at-other.ensures c.key_at-key.ensures w.same_bytes.ensures w.if-same_bytes.false | else-place-count w ↦ absurd (omega (arith, w.if-place-count.false)) ])
    c.if-held-count.true

pub returns : goal.returns
returns c =
    let a = c.args in
    let f = entry_key a.text.now a.words.now in
    let p = cells.place_whole f a.held.now a.count a.e c.key_at-key.ensures c.place_of-place.ensures in
    rw c.insert_at.ensures
    (cells.held_new f a.e a.held.now a.count c.requires.0 p
    (λ l. elim c.if-place-count.branch [ then-place-count+else-same_bytes w ↦ told same_bytes w.key_at-other.ensures c.key_at-key.ensures w.same_bytes.ensures w.if-same_bytes.false | else-place-count w ↦ absurd (omega (arith, w.if-place-count.false)) ])
    c.if-held-count.false)
