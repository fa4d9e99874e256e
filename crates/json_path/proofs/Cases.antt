-- What an answer of the code says once its case is known, as `let .. else` and `match` tell it. Assumes nothing.
use Prim.Native.Nat.{ℕ}
use mathlib.Core.Path.{◌≡◌, subst}
use mathlib.Core.List.{List, []}
use Rattle.std.specs.Prelude.{Option, Some, None}
use Rattle.support.specs.Bytes.{Bytes}
use Rattle.json_path.specs.Span.{Span, spans_from, escapes_from}
use Rattle.json_path.specs.Answers.{Walked, NextIs, Escapes, EscapeIs, segments_mean, Segments, SegmentIs}
use Rattle.json_path.specs.declared.path.PathSeg.{PathSeg}
use Rattle.json_path.specs.declared.path.Relative.{Relative}

pub next_found : {words : List ℕ} {k : ℕ} {n : Option Span} {s : Span} → n ≡ Some s → NextIs words k n → Walked words k s
next_found {words} {k} e h = (subst (λ z. NextIs words k z) e h).means

pub next_none : {words : List ℕ} {k : ℕ} {n : Option Span} → n ≡ None → NextIs words k n → spans_from words k ≡ []
next_none {words} {k} e h = (subst (λ z. NextIs words k z) e h).means

pub escape_found : {words : List ℕ} {k : ℕ} {n : Option Span} {s : Span} → n ≡ Some s → EscapeIs words k n → Escapes words k s
escape_found {words} {k} e h = (subst (λ z. EscapeIs words k z) e h).means

pub escape_none : {words : List ℕ} {k : ℕ} {n : Option Span} → n ≡ None → EscapeIs words k n → escapes_from words k ≡ []
escape_none {words} {k} e h = (subst (λ z. EscapeIs words k z) e h).means

module _ {text : Bytes} {words : List ℕ} {p : Relative} {n : Option (PathSeg × Relative)} where
  pub segment_found : {q : Relative} {g : PathSeg} → n ≡ Some (g, q) → SegmentIs text words p n → Segments text words p g q
  segment_found e h = (subst (λ z. SegmentIs text words p z) e h).means

  pub segment_none : n ≡ None → SegmentIs text words p n → segments_mean text words p ≡ []
  segment_none e h = (subst (λ z. SegmentIs text words p z) e h).means
