-- The walk comes to at most one span at fault: document 01's first faulty walked span. It takes its steps one by one (`after`), and takes none
-- behind a span at fault.
use Prim.Native.Nat.{ℕ, zero, suc, ◌≤◌, ◌<◌}
use native.Mathlib.Omega.{arith}
use native.Mathlib.Nat.{eq-or-lt_of_le}
use mathlib.Core.Path.{◌≡◌, refl, sym, ap, subst, ◌∙◌}
use mathlib.Core.Logic.{◌⊎◌, inl, inr}
use mathlib.Core.List.{List, [], ◌∷◌}
use mathlib.Core.Option.{Option, none, some}
use lib.Dec.{ltb, not_T, ltb→lt, nltb→le}
use Rattle.support.specs.Bytes.{Bytes}
use Rattle.json_path.specs.Span.{Span, spans_from}
use Rattle.template.specs.State.{State, initial}
use Rattle.template.specs.Result.{Result, accepted, refused}
use Rattle.template.specs.Walk.{walk_span}
use Rattle.template.specs.Compile.{prevent_indent, is_partial}
use Rattle.template.specs.Reason.{SpanReason, Reaches}
use Rattle.template.proofs.SpanReasons.{span_decides, span_passes}

abbrev At : Type 0
At = State × List Span

module _ (text : Bytes) (words : List ℕ) (options : ℕ) where
  abbrev span_walk : State → Span → List Span → Result At
  span_walk = walk_span text words (prevent_indent options) (is_partial options)

  abbrev taken : Result At → Option At
  taken (accepted y) = some y
  taken (refused n p) = none

  -- one step, if there is a span and none is against it
  abbrev onward : State → List Span → Option At
  onward st [] = none
  onward st (s ∷ r) = taken (span_walk st s r)

  abbrev next : Option At → Option At
  next none = none
  next (some y) = onward y.0 y.1

  unfoldable after : ℕ → Option At
  after zero = some (initial, spans_from words 0)
  after (suc k) = next (after k)

  after_next : (k : ℕ) (o : Option At) → after k ≡ o → after (suc k) ≡ next o
  unfolding after
  after_next k o e = ap next e

  reached_after : {st : State} {r : List Span} → Reaches text words options st r → (k : ℕ) × (after k ≡ some (st, r))
  unfolding after
  reached_after Reaches.start = (0, refl)
  reached_after (Reaches.pass {st = st} {st' = st'} {s = s} {r = r} {r' = r'} h free m) =
      let q = reached_after h in
      let e = span_passes text words (prevent_indent options) (is_partial options) st s r (st', r') free m in
      (suc q.0, after_next q.0 (some (st, s ∷ r)) q.1 ∙ ap taken e)

  -- behind the last step there is none
  none_after : (j k : ℕ) → k ≤ j → after k ≡ none → after j ≡ none
  none_after zero k l e = let z : k ≡ 0 = omega arith in subst (λ i. after i ≡ none) z e
  none_after (suc j) k l e = go (eq-or-lt_of_le l) (λ h. none_after j k h e)
    where
      go : (k ≡ suc j) ⊎ (k < suc j) → (k ≤ j → after j ≡ none) → after (suc j) ≡ none
      go (inl z) ih = subst (λ i. after i ≡ none) z e
      go (inr h) ih = after_next j none (ih (omega arith))

  fault_stops : (st : State) (s : Span) (r : List Span) (n p : ℕ) → SpanReason text words st s r n p → onward st (s ∷ r) ≡ none
  fault_stops st s r n p t = go (span_walk st s r) refl
    where
      go : (o : Result At) → span_walk st s r ≡ o → taken (span_walk st s r) ≡ none
      go (accepted y) e = absurd ((span_decides text words st s r (prevent_indent options) (is_partial options)).when_accepted y e n p t)
      go (refused k l) e = ap taken e

  -- a span at fault after k steps is met after no more than j
  not_behind : (k j : ℕ) (st : State) (s : Span) (r : List Span) (n p : ℕ) (y : At) → after k ≡ some (st, s ∷ r) → SpanReason text words st s r n p → after j ≡ some y → j ≤ k
  not_behind k j st s r n p y e t f = nltb→le k j (not_T (ltb k j) (λ l. past (ltb→lt k j l)))
    where
      past : k < j → ⊥
      past l = let g = none_after j (suc k) (omega arith) (after_next k (some (st, s ∷ r)) e ∙ fault_stops st s r n p t) in let z : ◌≡◌ {A = ℕ} 0 1 = cc in omega arith

  -- ONE SPAN AT FAULT
  pub one_fault : {st st' : State} {s s' : Span} {r r' : List Span} (n p n' p' : ℕ)
      → Reaches text words options st (s ∷ r) → SpanReason text words st s r n p
      → Reaches text words options st' (s' ∷ r') → SpanReason text words st' s' r' n' p'
      → (st ≡ st') × (s ≡ s') × (r ≡ r')
  one_fault {st} {st'} {s} {s'} {r} {r'} n p n' p' h t h' t' =
      let a = reached_after h in
      let b = reached_after h' in
      let l = not_behind a.0 b.0 st s r n p (st', s' ∷ r') a.1 t b.1 in
      let m = not_behind b.0 a.0 st' s' r' n' p' (st, s ∷ r) b.1 t' a.1 in
      let z : a.0 ≡ b.0 = omega arith in
      let e : after a.0 ≡ some (st', s' ∷ r') = subst (λ i. after i ≡ some (st', s' ∷ r')) (sym z) b.1 in
      let f = a.1 in
      let y : ◌≡◌ {A = At} (st, s ∷ r) (st', s' ∷ r') = cc in
      let w : s ∷ r ≡ s' ∷ r' = ap (λ u. u.1) y in
      (ap (λ u. u.0) y, cc, cc)
