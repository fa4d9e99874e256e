-- The keys before the place are those that stand before the key. Assumes nothing.
use native.Mathlib.Omega.{arith}
use Rattle.std.proofs.Common.{rules}
use Rattle.std.proofs.lemmas.List.Sorted.{IsPartitionPoint-from_clause}
use Rattle.support.specs.Bytes.{precedes}
use Rattle.listing.specs.Held.{entry_key}
use Rattle.listing.proofs.Entries as laws
use Rattle.listing.proofs.keys.place_of.Goals as goal

pub returns : goal.returns
returns c =
    let a = c.args in
    let f = entry_key a.text.now a.words.now in
    let parted = laws.parted f a.key.now a.held.now c.requires in
    let point = IsPartitionPoint-from_clause (λ e. precedes (f e) a.key.now) _ _ c.partition_point.ensures.partitioned parted (λ x r q k. search rules) in
    record { inside = c.partition_point.ensures.bound; before = λ j l. point.0 j 0 (omega arith) l; after = λ j l m. point.1 j 0 l m }
