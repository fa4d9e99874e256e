-- The questions about a walked span, answer by answer: what the code finds of its own values is what the specification asks of every state
-- that they tell of. By cases on the kind of the open body, and on the kind of the tag by ranges (TagKinds).
use Rattle.std.specs.Prelude as std
use Rattle.std.specs.Prelude.{Some}
use Prim.Native.Nat.{ℕ, suc, ◌≤◌, ◌<◌}
use native.Mathlib.Omega.{arith}
use mathlib.Core.Path.{◌≡◌, refl, sym, ap, subst, ◌∙◌}
use mathlib.Core.List.{[], ◌∷◌}
use mathlib.Core.Bool.{Bool, true, false, ◌&&◌, ◌||◌, not}
use lib.Dec.{ltb, leb, eqb}
use borrow.Author.Tests.{lt-ltb, le-ltb, le-leb, lt-leb, eq-eqb, ne_eqb, leb-true, leb-false, ltb-true, ltb-false}
use lib.ListN.{length}
use Rattle.support.specs.Bytes.{Bytes, is_empty, same_bytes}
use Rattle.json_path.specs.Span.{Span}
use Rattle.json_path.specs.Answers.{name_means}
use Rattle.json_path.specs.declared.path.Name.{Name}
use Rattle.expression.specs.Expression.{Expression, name_of}
use Rattle.expression.specs.Answers.{as_name_means}
use Rattle.listing.specs.Tree as T
use Rattle.template.specs.Kind.{BlockKind, helper_block, raw_block, decorator_block, partial_block, skipped, block_end, Kind, plain, tagged, kinds, kind_of}
use Rattle.template.specs.State as S
use Rattle.template.specs.State.{Owner, State, owner, open_count}
use Rattle.template.specs.Nests.{kept_gap, is_filling, is_waiting, takes_else, is_of_kind, may_end, plain_nests, tag_nests, nests}
use Rattle.template.specs.Refusal.{one_too_many, too_many_open, same_name, is_empty_name, closes_name, helper_name_differs, decorator_name_differs}
use Rattle.template.specs.Visit.{prev_of, stage_means, OpenedIs}
use Rattle.template.specs.Asked.{KeptIs, RawIs, TakesIs, end_tag, OfKindIs, NestsIs, TooManyIs, NamesAre, HelperDiffersIs, DecoratorDiffersIs}
use Rattle.template.specs.declared.frame.Opened.{Opened}
use Rattle.template.specs.declared.frame.Opened.TheVariants as O
use Rattle.template.specs.declared.frame.Stage.{Stage}
use Rattle.template.specs.declared.frame.Marks.{Marks}
use Rattle.template.proofs.TagKinds.{either, kind_skipped, kind_low, kind_start, kind_else, kind_leaf, kind_comment, kind_late, kind_before, kind_behind}

-- ---- the gap

-- tags 1 to 3
abbrev own_text : Span → Bool
own_text s = leb 1 s.tag && leb s.tag 3

module _ {m : Marks} {s : Span} where
  kept_as : {r : Bool} → r ≡ ((not (eqb s.start (prev_of m)) && not (own_text s)) && not m.omit_pro_ws) → KeptIs m s r
  unfolding kept_gap
  kept_as e = record { means = λ st h. e ∙ cc (h.previous, h.omit_pro_ws) }

  pub kept_touching : s.start ≡ prev_of m → KeptIs m s false
  kept_touching e = kept_as (rw (eq-eqb _ _ e))

  pub kept_tilde : m.omit_pro_ws ≡ true → KeptIs m s false
  kept_tilde e = kept_as (rw e (go (not (eqb s.start (prev_of m)) && not (own_text s))))
    where
      go : (a : Bool) → false ≡ (a && false)
      go true = refl
      go false = refl

  module _ (n : s.start ≡ prev_of m → ⊥) (w : m.omit_pro_ws ≡ false) where
    kept_by : {a b : Bool} → leb 1 s.tag ≡ a → leb s.tag 3 ≡ b → KeptIs m s (not (a && b))
    kept_by {a} {b} e f = kept_as (rw (ne_eqb _ _ n, w, e, f) (go (not (a && b))))
      where
        go : (c : Bool) → c ≡ (c && true)
        go true = refl
        go false = refl

    pub kept_no : 1 ≤ s.tag → s.tag ≤ 3 → KeptIs m s false
    kept_no h k = kept_by (le-leb 1 s.tag h) (le-leb s.tag 3 k)

    pub kept_low : s.tag < 1 → KeptIs m s true
    kept_low h = kept_by {b = leb s.tag 3} (lt-leb 1 s.tag h) refl

    pub kept_high : 3 < s.tag → KeptIs m s true
    kept_high h = kept_by (le-leb 1 s.tag (omega arith)) (lt-leb s.tag 3 h)

-- ---- the innermost block

abbrev pub end_of : ℕ → Opened → Bool
end_of t O.Root = false
end_of t O.Helper = eqb t 15
end_of t O.Raw = eqb t 16
end_of t O.Decorator = eqb t 17
end_of t O.Partial = eqb t 18

end_means_lem : (k : BlockKind) (o : Opened) (i : Bool) (w : Owner) → OpenedIs o i w → end_of (end_tag k) o ≡ is_of_kind k w
unfolding is_of_kind
end_means_lem k O.Root i S.root h = refl
end_means_lem k O.Root i (S.helper raw p done x) h = absurd h
end_means_lem k O.Root i (S.in_else p x b done) h = absurd h
end_means_lem k O.Root i (S.wrapper p w) h = absurd h
end_means_lem k O.Helper i S.root h = absurd h
end_means_lem helper_block O.Helper i (S.helper raw p done x) h = ap not (sym h.1)
end_means_lem raw_block O.Helper i (S.helper raw p done x) h = sym h.1
end_means_lem decorator_block O.Helper i (S.helper raw p done x) h = refl
end_means_lem partial_block O.Helper i (S.helper raw p done x) h = refl
end_means_lem helper_block O.Helper i (S.in_else p x b done) h = refl
end_means_lem raw_block O.Helper i (S.in_else p x b done) h = refl
end_means_lem decorator_block O.Helper i (S.in_else p x b done) h = refl
end_means_lem partial_block O.Helper i (S.in_else p x b done) h = refl
end_means_lem k O.Helper i (S.wrapper p w) h = absurd h
end_means_lem k O.Raw i S.root h = absurd h
end_means_lem helper_block O.Raw i (S.helper raw p done x) h = ap not (sym h.1)
end_means_lem raw_block O.Raw i (S.helper raw p done x) h = sym h.1
end_means_lem decorator_block O.Raw i (S.helper raw p done x) h = refl
end_means_lem partial_block O.Raw i (S.helper raw p done x) h = refl
end_means_lem k O.Raw i (S.in_else p x b done) h = absurd h
end_means_lem k O.Raw i (S.wrapper p w) h = absurd h
end_means_lem k O.Decorator i S.root h = absurd h
end_means_lem k O.Decorator i (S.helper raw p done x) h = absurd h
end_means_lem k O.Decorator i (S.in_else p x b done) h = absurd h
end_means_lem helper_block O.Decorator i (S.wrapper p w) h = refl
end_means_lem raw_block O.Decorator i (S.wrapper p w) h = refl
end_means_lem decorator_block O.Decorator i (S.wrapper p (T.decor_block m d c)) h = refl
end_means_lem decorator_block O.Decorator i (S.wrapper p (T.partial_block m d c)) h = absurd h
end_means_lem partial_block O.Decorator i (S.wrapper p (T.decor_block m d c)) h = refl
end_means_lem partial_block O.Decorator i (S.wrapper p (T.partial_block m d c)) h = absurd h
end_means_lem k O.Partial i S.root h = absurd h
end_means_lem k O.Partial i (S.helper raw p done x) h = absurd h
end_means_lem k O.Partial i (S.in_else p x b done) h = absurd h
end_means_lem helper_block O.Partial i (S.wrapper p w) h = refl
end_means_lem raw_block O.Partial i (S.wrapper p w) h = refl
end_means_lem decorator_block O.Partial i (S.wrapper p (T.decor_block m d c)) h = absurd h
end_means_lem decorator_block O.Partial i (S.wrapper p (T.partial_block m d c)) h = refl
end_means_lem partial_block O.Partial i (S.wrapper p (T.decor_block m d c)) h = absurd h
end_means_lem partial_block O.Partial i (S.wrapper p (T.partial_block m d c)) h = refl

pub end_is : {t : ℕ} {o : Opened} {r : Bool} → end_of t o ≡ r → OfKindIs t o r
end_is {t} {o} e = record { means = λ k i w f h. sym e ∙ ap (λ n. end_of n o) (sym f) ∙ end_means_lem k o i w h }

-- ---- the nesting

module _ (g : Stage) (o : Opened) (i : Bool) (t : ℕ) (gap : Bool) where
  abbrev Nests : Bool → Type 0
  Nests r = NestsIs g o i t gap r

  -- r is what a kind asks, whatever the state is
  abbrev As : Bool → Kind → Type 0
  As r k = (st : State) → stage_means g ≡ st.stage → OpenedIs o i (owner st) → r ≡ nests k gap st

  nests_of : {r : Bool} → As r (kind_of t) → Nests r
  nests_of q = record { means = q }

  filling_stage : {f : Bool} → f ≡ is_filling (stage_means g) → (st : State) → stage_means g ≡ st.stage → f ≡ is_filling st.stage
  filling_stage e st h = e ∙ ap is_filling h

  waiting_stage : {f : Bool} → f ≡ is_waiting (stage_means g) → (st : State) → stage_means g ≡ st.stage → f ≡ is_waiting st.stage
  waiting_stage e st h = e ∙ ap is_waiting h

  module _ {w a : Bool} (e : w ≡ is_waiting (stage_means g)) (f : RawIs o a) where
    pub nests_template : {r : Bool} → t ≡ 1 → r ≡ (w && not a) → Nests r
    unfolding plain_nests kinds
    nests_template {r} h q = nests_of (subst (λ n. As r (kind_of n)) (sym h) (λ st u v. q ∙ cc (waiting_stage e st u, f.means i (owner st) v)))

    pub nests_raw_text : {r : Bool} → t ≡ 3 → r ≡ (w && a) → Nests r
    unfolding plain_nests kinds
    nests_raw_text {r} h q = nests_of (subst (λ n. As r (kind_of n)) (sym h) (λ st u v. q ∙ cc (waiting_stage e st u, f.means i (owner st) v)))

  module _ {f : Bool} (e : f ≡ is_filling (stage_means g)) where
    pub nests_text : t ≡ 2 → Nests f
    unfolding plain_nests kinds
    nests_text h = nests_of (subst (λ n. As f (kind_of n)) (sym h) (λ st u v. filling_stage e st u))

    pub nests_start : 5 ≤ t → t ≤ 8 → Nests f
    unfolding tag_nests
    nests_start h k = nests_of (kind_start (As f) t h k (λ j st u v. filling_stage e st u))

    pub nests_leaf : 11 ≤ t → t ≤ 14 → Nests f
    unfolding tag_nests
    nests_leaf h k = let q = filling_stage e in nests_of (kind_leaf (As f) t h k (λ st u v. q st u) (λ st u v. q st u) (λ st u v. q st u) (λ st u v. q st u))

    pub nests_comment : 19 ≤ t → t ≤ 20 → Nests f
    unfolding plain_nests
    nests_comment h k = nests_of (kind_comment (As f) t h k (λ st u v. filling_stage e st u) (λ st u v. filling_stage e st u))

    pub nests_else : {a r : Bool} → TakesIs o i a → 9 ≤ t → t ≤ 10 → r ≡ (f && a) → Nests r
    unfolding tag_nests
    nests_else {a} {r} x h k q =
        let y : (st : State) → stage_means g ≡ st.stage → OpenedIs o i (owner st) → r ≡ (is_filling st.stage && takes_else (owner st)) = λ st u v. q ∙ cc (filling_stage e st u, x.means (owner st) v) in
        nests_of (kind_else (As r) t h k y y)

    pub nests_else_no : f ≡ false → 9 ≤ t → t ≤ 10 → Nests f
    unfolding tag_nests
    nests_else_no n h k =
        let y : (st : State) → stage_means g ≡ st.stage → OpenedIs o i (owner st) → f ≡ (is_filling st.stage && takes_else (owner st)) = λ st u v. rw (← filling_stage e st u, n) in
        nests_of (kind_else (As f) t h k y y)

    skipped_as : {r : Bool} → r ≡ (f || not gap) → As r (plain skipped)
    unfolding plain_nests
    skipped_as q st u v = q ∙ cc (filling_stage e st u)

    pub nests_low : {r : Bool} → t < 5 → (t ≡ 1 → ⊥) → (t ≡ 2 → ⊥) → (t ≡ 3 → ⊥) → r ≡ (f || not gap) → Nests r
    unfolding kinds
    nests_low {r} u a b c q =
        let p : As r (plain skipped) = skipped_as q in
        nests_of (either (λ n. As r (kind_of n)) t 0 (omega arith) p (λ h. subst (λ n. As r (kind_of n)) (let z : 4 ≡ t = omega arith in z) p))

    pub nests_high : {r : Bool} → 21 ≤ t → r ≡ (f || not gap) → Nests r
    nests_high h q = nests_of (subst (As _) (sym (kind_skipped t h)) (skipped_as q))

  pub nests_end : {a b c r : Bool} → OfKindIs t o a → RawIs o c → b ≡ may_end (stage_means g) c gap → 15 ≤ t → t ≤ 18 → r ≡ (a && b) → Nests r
  unfolding tag_nests kinds
  nests_end {a} {b} {c} {r} x y e l u q = nests_of (go (ends t l u))
    where
      ends : (t : ℕ) → 15 ≤ t → t ≤ 18 → (k : BlockKind) × (kind_of t ≡ tagged (block_end k)) × (end_tag k ≡ t)
      ends t l u =
          let P : ℕ → Type 0 = λ n. (k : BlockKind) × (kind_of n ≡ tagged (block_end k)) × (end_tag k ≡ n) in
          either P t 15 l (helper_block, refl, refl) (λ h. either P t 16 h (raw_block, refl, refl) (λ h. either P t 17 h (decorator_block, refl, refl)
          (λ h. either P t 18 h (partial_block, refl, refl) (λ h. absurd (omega arith)))))

      go : ((k : BlockKind) × (kind_of t ≡ tagged (block_end k)) × (end_tag k ≡ t)) → As r (kind_of t)
      go k = subst (As r) (sym k.1) (λ st h v. q ∙ cc (x.means k.0 i (owner st) k.2 v, y.means i (owner st) v, e, h))

-- ---- 12

abbrev over_of : State → Kind → Bool
over_of st (plain k) = false
over_of st (tagged k) = too_many_open k st

module _ (t n : ℕ) where
  over_is : {r : Bool} → ((st : State) → n ≡ open_count st → r ≡ over_of st (kind_of t)) → TooManyIs t n r
  over_is {r} q = record { means = λ k st e c. subst (λ z. r ≡ over_of st z) e (q st c) }

  one_too_many_lem : (st : State) → n ≡ open_count st → leb 64 n ≡ one_too_many st
  one_too_many_lem st c = go (leb 64 n) refl
    where
      go : (b : Bool) → leb 64 n ≡ b → b ≡ one_too_many st
      go true e = let h = leb-true 64 n e in sym (lt-ltb 64 (suc (open_count st)) (omega arith))
      go false e = let h = leb-false 64 n e in sym (le-ltb 64 (suc (open_count st)) (omega arith))

  pub over_start : 5 ≤ t → t ≤ 8 → TooManyIs t n (leb 64 n)
  over_start h k = over_is (λ st c. kind_start (λ z. leb 64 n ≡ over_of st z) t h k (λ j. one_too_many_lem st c))

  pub over_chain : t ≡ 10 → TooManyIs t n (leb 64 n)
  unfolding kinds
  over_chain h = over_is (λ st c. subst (λ m. leb 64 n ≡ over_of st (kind_of m)) (sym h) (one_too_many_lem st c))

  pub over_low : t < 5 → TooManyIs t n false
  over_low h = over_is (λ st c. kind_low (λ z. false ≡ over_of st z) t h (λ k. refl))

  pub over_high : 8 < t → (t ≡ 10 → ⊥) → TooManyIs t n false
  unfolding kinds
  over_high h x = over_is (λ st c.
      either (λ m. false ≡ over_of st (kind_of m)) t 9 h refl
      (λ l. kind_behind (λ z. false ≡ over_of st z) t (omega arith) refl refl refl refl (λ k. refl) (λ k. refl)))

-- ---- names

module _ (text : Bytes) {a : std.Option Name} {x : Name} {u : Bytes} where
  pub same_names : {b : std.Option Name} {y : Name} {v : Bytes} {r : Bool} → a ≡ Some x → b ≡ Some y → u ≡ name_means text x → v ≡ name_means text y → r ≡ same_bytes u v
      → r ≡ same_name (as_name_means text a) (as_name_means text b)
  same_names e f g h q = rw (e, f) (q ∙ cc (g, h))

  pub empty_name : a ≡ Some x → u ≡ name_means text x → eqb (length u) 0 ≡ is_empty_name (as_name_means text a)
  empty_name e g = rw (e, ← g) (go u)
    where
      go : (u : Bytes) → eqb (length u) 0 ≡ is_empty u
      go [] = refl
      go (c ∷ s) = ne_eqb (suc (length s)) 0 (λ z. omega arith)

neither : (a b : Bool) → (not a && not b) ≡ not (a || b)
neither true b = refl
neither false b = refl

module _ (text : Bytes) (t : ℕ) (opened end : std.Option Name) where
  abbrev helper_asked : State → Expression → Kind → Bool
  helper_asked st x (plain k) = false
  helper_asked st x (tagged k) = helper_name_differs k st x

  abbrev decorator_asked : State → Expression → Kind → Bool
  decorator_asked st x (plain k) = false
  decorator_asked st x (tagged k) = decorator_name_differs k st x

  helper_is : {r : Bool} → ((st : State) (x : Expression) → NamesAre text opened end st x → r ≡ helper_asked st x (kind_of t)) → HelperDiffersIs text t opened end r
  helper_is {r} q = record { means = λ k st x e c. subst (λ z. r ≡ helper_asked st x z) e (q st x c) }

  decorator_is : {r : Bool} → ((st : State) (x : Expression) → NamesAre text opened end st x → r ≡ decorator_asked st x (kind_of t)) → DecoratorDiffersIs text t opened end r
  decorator_is {r} q = record { means = λ k st x e c. subst (λ z. r ≡ decorator_asked st x z) e (q st x c) }

  module _ {a : Bool} (same : a ≡ same_name (as_name_means text opened) (as_name_means text end)) where
    closes : (st : State) (x : Expression) → NamesAre text opened end st x → a ≡ closes_name st x
    closes st x n = same ∙ cc (n.opens, n.closes)

    pub helper_ends : 15 ≤ t → t ≤ 16 → HelperDiffersIs text t opened end (not a)
    unfolding kinds
    helper_ends l u = helper_is (λ st x n.
        let q = ap not (closes st x n) in
        either (λ m. not a ≡ helper_asked st x (kind_of m)) t 15 l q (λ h. subst (λ m. not a ≡ helper_asked st x (kind_of m)) (let z : 16 ≡ t = omega arith in z) q))

    pub decorator_ends : {b c : Bool} → b ≡ is_empty_name (as_name_means text end) → c ≡ (not a && not b) → 17 ≤ t → t ≤ 18 → DecoratorDiffersIs text t opened end c
    unfolding kinds
    decorator_ends {b} {c} e f l u = decorator_is (λ st x n.
        let q : c ≡ not (closes_name st x || is_empty_name (name_of x.call_of)) = f ∙ neither a b ∙ cc (closes st x n, e, n.closes) in
        either (λ m. c ≡ decorator_asked st x (kind_of m)) t 17 l q (λ h. subst (λ m. c ≡ decorator_asked st x (kind_of m)) (let z : 18 ≡ t = omega arith in z) q))

  pub helper_low : t < 15 → HelperDiffersIs text t opened end false
  helper_low h = helper_is (λ st x n. kind_before (λ z. false ≡ helper_asked st x z) t h (λ k. refl) (λ k. refl) refl refl refl refl refl refl)

  pub helper_high : 16 < t → HelperDiffersIs text t opened end false
  unfolding kinds
  helper_high h = helper_is (λ st x n.
      let P : ℕ → Type 0 = λ m. false ≡ helper_asked st x (kind_of m) in
      either P t 17 h refl (λ h. either P t 18 h refl (λ h. kind_late (λ z. false ≡ helper_asked st x z) t h (λ k. refl))))

  pub decorator_low : t < 17 → DecoratorDiffersIs text t opened end false
  unfolding kinds
  decorator_low h = decorator_is (λ st x n. go (ltb t 15) refl st x)
    where
      go : (b : Bool) → ltb t 15 ≡ b → (st : State) (x : Expression) → false ≡ decorator_asked st x (kind_of t)
      go true e st x = kind_before (λ z. false ≡ decorator_asked st x z) t (ltb-true t 15 e) (λ k. refl) (λ k. refl) refl refl refl refl refl refl
      go false e st x =
          let P : ℕ → Type 0 = λ m. false ≡ decorator_asked st x (kind_of m) in
          either P t 15 (ltb-false t 15 e) refl (λ i. either P t 16 i refl (λ i. absurd (omega (arith, h))))

  pub decorator_high : 18 < t → DecoratorDiffersIs text t opened end false
  decorator_high h = decorator_is (λ st x n. kind_late (λ z. false ≡ decorator_asked st x z) t h (λ k. refl))
