-- What the walk's loop keeps: the store fits a state of the specification, from which the spans that are left are walked. One turn,
-- from its first store to its last, keeps it. Assumes nothing.
use Prim.Native.Nat.{ℕ, ◌+◌, ◌-◌, ◌*◌, ◌<◌, ◌≤◌}
use native.Mathlib.Omega.{arith}
use mathlib.Core.Path.{◌≡◌, refl, ap, sym, subst, ◌∙◌}
use mathlib.Core.Bool.{Bool, true, false}
use mathlib.Core.Logic.{◌⊎◌, inl, inr}
use mathlib.Core.List.{List, [], ◌∷◌}
use lib.ListN.{length, set}
use Rattle.std.specs.Prelude.{Option, Some, None, Ok, Err}
use Rattle.std.specs.declared.result.Result as rattle
use Rattle.support.specs.Bytes.{Bytes}
use Rattle.json_path.specs.Span.{span_count, spans_from}
use Rattle.listing.specs.Reading.{Elem}
use Rattle.template.specs.State.{waiting, Owner, root, Level, level, State, state, initial, owner_of, owner, prev_end, add_to, trim_last, open_of, sum_open, open_count}
use Rattle.template.specs.Result.{Result}
use Rattle.template.specs.Walk.{walk}
use Rattle.template.specs.Nests.{takes_else}
use Rattle.template.specs.Element.{back_trim}
use Rattle.template.specs.Store.{element_at}
use Rattle.template.specs.Links.{trim_end_of}
use Rattle.template.specs.Visit.{prev_of, with_marks, MarksAre, HereIs, Tells, gap_effect, trim_effect, act_effect, applied, Allowed, GapMade, StepIs, VisitMeans}
use Rattle.template.specs.Turn.{ref_chain_head, plan_of, turn_of, joined_of, gapped_of, still_step, LookIs, Joined, gap_made, gap_joined, text_trimmed, owner_at, act_planned, TurnFits, TurnIs}
use Rattle.template.specs.declared.element.Back.{Back}
use Rattle.template.specs.declared.element.Element.{Element}
use Rattle.template.specs.declared.frame.Frame.{Frame}
use Rattle.template.specs.declared.frame.Opened.TheVariants as O
use Rattle.template.specs.declared.frame.Marks.{Marks}
use Rattle.template.specs.declared.visit.Options.{Options}
use Rattle.template.specs.declared.visit.Here.{Here}
use Rattle.template.specs.declared.visit.View.{View}
use Rattle.template.specs.declared.visit.Act.{Act}
use Rattle.template.specs.declared.visit.Act.TheVariants as A
use Rattle.template.specs.declared.visit.Added.TheVariants as N
use Rattle.template.specs.declared.visit.Step.{Step}
use Rattle.template.specs.declared.refusal.Refusal.{Refusal}
use Rattle.template.specs.declared.turn.Turn.{Turn}
use Rattle.template.specs.declared.turn.Plan.{Plan}
use Rattle.template.specs.declared.turn.Gapped.{Gapped}
use Rattle.template.specs.declared.turn.Standing.{Standing}
use Rattle.template.proofs.Levels.{frame_at}
use Rattle.template.proofs.Turns.{open_at, Counted, Kept, Turned, act_turned, close_turned}
use Rattle.template.proofs.Fits.{fits_low, fits_last, owner_in, deep}
use Rattle.template.proofs.Ready.{open_same, linked, gap_top, gapped, gap_len, last_kept, trimmed, mid_last}

-- ---- a step's gap and trim leave what is asked of the act

owner_added : (e : Elem) (l : Level) → owner_of (add_to e l) ≡ owner_of l
owner_added e (level o es) = refl

owner_trimmed : (f : Bytes → Bytes) (l : Level) → owner_of (trim_last f l) ≡ owner_of l
unfolding trim_last
owner_trimmed f (level o []) = refl
owner_trimmed f (level o (e ∷ es)) = refl

-- no gap, no element
gap_none : (e : Option Element) (len : ℕ) → e ≡ None → (gapped_of e len).len ≡ len
unfolding gapped_of
gap_none e len q = rw q

-- what is open is told by the owner
open_by : (l m : Level) → owner_of l ≡ owner_of m → open_of l ≡ open_of m
open_by (level o es) (level u fs) e = ap (λ (v : Owner). open_of (level v es)) e ∙ open_same u es fs

module _ (text : Bytes) (words : List ℕ) where
  -- the state before the act
  abbrev pub readied : Step → State → State
  readied p s = trim_effect text words p.back (gap_effect text words p.gap s)

  gap_top_lem : (e : Option Element) (s : State) → gap_top text words e s.top ≡ (gap_effect text words e s).top
  gap_top_lem (Some e) s = refl
  gap_top_lem None s = refl

  gap_outer : (e : Option Element) (s : State) → (gap_effect text words e s).outer ≡ s.outer
  gap_outer (Some e) s = refl
  gap_outer None s = refl

  gap_owner : (e : Option Element) (l : Level) → owner_of (gap_top text words e l) ≡ owner_of l
  gap_owner (Some e) l = owner_added _ l
  gap_owner None l = refl

  ready_owner : (p : Step) (s : State) → owner (readied p s) ≡ owner s
  ready_owner p s =
      owner_trimmed (back_trim p.back) (gap_effect text words p.gap s).top ∙ ap owner_of (sym (gap_top_lem p.gap s)) ∙ gap_owner p.gap s.top

  ready_count : (p : Step) (s : State) → open_count (readied p s) ≡ open_count s
  unfolding sum_open
  ready_count p s = rw (open_by (readied p s).top s.top (ready_owner p s), gap_outer p.gap s)

  allowed : (a : Act) (s s' : State) → owner s' ≡ owner s → open_count s' ≡ open_count s → Allowed text words a s → Allowed text words a s'
  allowed A.Skip s s' o c h = h
  allowed (A.Add e N.Leaf) s s' o c h = h
  allowed (A.Add e (N.Block O.Root)) s s' o c h = h
  allowed (A.Add e (N.Block O.Helper)) s s' o c h = (h.0, rw c h.1)
  allowed (A.Add e (N.Block O.Raw)) s s' o c h = (h.0, rw c h.1)
  allowed (A.Add e (N.Block O.Decorator)) s s' o c h = (h.0, h.1, rw c h.2)
  allowed (A.Add e (N.Block O.Partial)) s s' o c h = (h.0, h.1, rw c h.2)
  allowed (A.Add e N.ElseIf) s s' o c h = (h.0, ap takes_else o ∙ h.1, rw c h.2)
  allowed A.Else s s' o c h = ap takes_else o ∙ h
  allowed A.Close s s' o c h = λ q. h (sym o ∙ q)

  -- a turn's own part
  own_part : (n : ℕ) (st : List Element) (lv : List Frame) (x : Frame) (depth len count : ℕ) (p : Step) (s : State) → len < n → (c : Bool) → (c ≡ true → p.act ≡ A.Skip)
      → (c ≡ false → Allowed text words p.act s) → Kept text words n st lv x depth len count c (readied p s).top (readied p s).outer
      → Turned text words n st lv (ref_chain_head x.block x.head) len count c (plan_of (turn_of c x.head p.act) (open_at st lv x depth len count)) (applied text words p s).top
      (applied text words p s).outer
  unfolding applied with_marks turn_of
  own_part n st lv x depth len count p s room true i a k =
      subst (λ (b : Act). Turned text words n st lv (ref_chain_head x.block x.head) len count true (plan_of (turn_of true x.head p.act) (open_at st lv x depth len count))
      (act_effect text words b (readied p s)).top (act_effect text words b (readied p s)).outer) (sym (i refl))
      (close_turned text words n st lv x depth len count room p.act (readied p s).top (readied p s).outer k)
  own_part n st lv x depth len count p s room false i a k =
      act_turned text words n st lv x depth len count room p.act (readied p s) (allowed p.act s (readied p s) (ready_owner p s) (ready_count p s) (a refl)) k

  -- ---- what the loop keeps

  -- where a turn goes on: a closing turn stays
  abbrev pub Onward : Bool → ℕ → ℕ → Type 0
  Onward true at next = next ≡ at
  Onward false at next = (at < next) × (at < span_count words)

  -- how many elements there are: before the first span none, and the root waits; then at most two for each span, but one for the first
  abbrev pub Few : State → Bool → ℕ → ℕ → Type 0
  Few s closing len at = ((closing ≡ false) × (at ≡ 0) × (len ≡ 1) × (s.stage ≡ waiting) × (owner s ≡ root)) ⊎ (len ≤ 2 * at)

  module _ (o : Options) where
    abbrev pub walked : State → ℕ → Result State
    walked s at = walk text words o.prevent_indent o.is_partial s (spans_from words at)

    -- the store has n places, enough for these spans
    pub record Held (n : ℕ) (st : List Element) (lv : List Frame) (x : Frame) (m : Marks) (h : Here) (depth len count : ℕ) (closing : Bool) (at : ℕ) : Type 0 where
      pub now : State
      pub kept : Kept text words n st lv x depth len count closing now.top now.outer
      pub marks : MarksAre m now
      pub here : HereIs text h (prev_end now)
      pub walks : walked initial 0 ≡ walked now at
      pub few : Few now closing len at
      pub within : len < n
      pub enough : 2 * span_count words < n

    -- what is known of a step that a turn makes
    pub record Goes (at : ℕ) (closing : Bool) (p : Step) (s : State) : Type 0 where
      pub gapless : closing ≡ true → p.gap ≡ None
      pub first : s.stage ≡ waiting → owner s ≡ root → p.gap ≡ None
      pub whole : closing ≡ true → p.back ≡ Back.Kept
      pub idle : closing ≡ true → p.act ≡ A.Skip
      pub gap : GapMade text words p.gap
      pub act : closing ≡ false → Allowed text words p.act s
      pub steps : walked s at ≡ walked (applied text words p s) p.next
      pub here : HereIs text p.here (prev_of p.marks)
      pub previous : prev_of p.marks ≡ prev_end (with_marks p.marks s)
      pub onward : Onward closing at p.next

    -- ---- the step of a turn

    -- the marks of a state are its own
    marks_same : (m : Marks) (s : State) → MarksAre m s → with_marks m s ≡ s
    unfolding with_marks
    marks_same m s a = rw (a.stage, a.end_pos, a.omit_pro_ws, a.trim_line)

    still_same : (v : View) (at : ℕ) (s : State) → MarksAre v.marks s → applied text words (still_step v at) s ≡ s
    unfolding applied
    still_same v at s a = ap (with_marks v.marks) (ap (λ (l : Level). state s.stage l s.outer s.end_pos s.omit_pro_ws s.trim_line_required) (last_kept text words s.top)) ∙ marks_same v.marks s a

    still_goes : (v : View) (at : ℕ) (s : State) → MarksAre v.marks s → HereIs text v.here (prev_end s) → Goes at true (still_step v at) s
    unfolding with_marks
    still_goes v at s a b =
        record {
          gapless = λ q. refl;
          first = λ w r. refl;
          whole = λ q. refl;
          idle = λ q. refl;
          gap = tt;
          act = λ q. tt;
          steps = ap (λ (t : State). walked t at) (sym (still_same v at s a));
          here = rw a.previous b;
          previous = a.previous ∙ ap (λ (t : State). prev_end t) (sym (marks_same v.marks s a));
          onward = refl;
        }

    apart : {A : Type 0} → false ≡ true → A
    apart e = absurd (let z : ◌≡◌ {A = ℕ} 0 1 = cc in omega (arith, z))

    step_goes : (at : ℕ) (p : Step) (s : State) → StepIs text words o at p s → Goes at false p s
    step_goes at p s h =
        record {
          gapless = λ q. apart q;
          first = h.gapless;
          whole = λ q. apart q;
          idle = λ q. apart q;
          gap = h.gap;
          act = λ q. h.act;
          steps = h.steps;
          here = h.here;
          previous = h.previous;
          onward = (h.onward, h.inside);
        }

    step_of : (p q : Step) → ◌≡◌ {A = rattle.Result (Option Step) Refusal} (Ok (Some p)) (Ok (Some q)) → p ≡ q
    step_of p q e = ap pick e
      where
        pick : rattle.Result (Option Step) Refusal → Step
        pick (Err f) = p
        pick (Ok None) = p
        pick (Ok (Some r)) = r

    pub goes : (closing : Bool) (v : View) (at : ℕ) (r : rattle.Result (Option Step) Refusal) (p : Step) (s : State) → LookIs text words o v at closing r → r ≡ Ok (Some p) → MarksAre v.marks s → HereIs text v.here (prev_end s)
        → (closing ≡ false → Tells text v s) → Goes at closing p s
    goes true v at r p s k e a b t = subst (λ (q : Step). Goes at true q s) (step_of (still_step v at) p (sym (k.still refl) ∙ e)) (still_goes v at s a b)
    goes false v at r p s k e a b t = step_goes at p s (subst (λ (q : rattle.Result (Option Step) Refusal). VisitMeans text words o at q s) e ((k.visits refl).means s (t refl)))

-- ---- the stages of a turn

module _ {text : Bytes} {words : List ℕ} {o : Options} {n : ℕ} {st : List Element} {lv : List Frame} {x : Frame} {m : Marks} {h : Here} {depth len count : ℕ} {closing : Bool} {at : ℕ}
    (held : Held text words o n st lv x m h depth len count closing at) where
  pub block_in : x.block < n
  block_in = omega (arith, fits_low text words st lv x depth len count closing _ _ held.kept.fits, held.within)

  pub last_in : x.last < n
  last_in = omega (arith, fits_last text words st lv x depth len count closing _ _ held.kept.pos held.kept.fits, held.within)

  -- the step's gap is made
  pub record Gaps (p : Step) (g : Gapped) : Type 0 where
    pub goes : Goes text words o at closing p held.now
    pub made : g ≡ gapped_of p.gap len

  -- it joins the body
  pub record Joins (p : Step) (g : Gapped) (y : Joined) : Type 0 where
    pub gaps : Gaps p g
    pub joined : y ≡ joined_of x (element_at (set st len g.made) x.last) g.join

  -- the last text is trimmed
  pub record Trims (p : Step) (g : Gapped) (y : Joined) (v : Element) : Type 0 where
    pub joins : Joins p g y
    pub trims : v ≡ trim_end_of (element_at (set (set st len g.made) x.last y.last) y.top.last) p.back

  -- the store then
  abbrev ready_store : Gapped → Joined → Element → List Element
  ready_store g y v = set (set (set st len g.made) x.last y.last) y.top.last v

  -- the act is planned, with the frame at u below the top
  pub record Plans (p : Step) (g : Gapped) (y : Joined) (v : Element) (w u : ℕ) (t : Turn) (q : Plan) : Type 0 where
    pub ready : Trims p g y v
    pub owner : w ≡ ref_chain_head y.top.block y.top.head
    pub below : u ≡ depth - 1
    pub turns : t ≡ turn_of closing y.top.head p.act
    pub plan : q ≡ plan_of t (record { top = y.top; below = frame_at lv u; owner = element_at (ready_store g y v) w; depth = depth; len = g.len; count = count })

-- ---- what is known at each stage

module _ {text : Bytes} {words : List ℕ} {o : Options} {n : ℕ} {st : List Element} {lv : List Frame} {x : Frame} {m : Marks} {h : Here} {depth len count : ℕ} {closing : Bool} {at : ℕ}
    {held : Held text words o n st lv x m h depth len count closing at} where
  module _ {p : Step} {g : Gapped} (a : Gaps held p g) where
    -- how many elements there are with the gap
    gap_is : (len ≤ g.len) × (g.len ≤ len + 1) × (closing ≡ true → g.len ≡ len)
    gap_is = gap_len text words n st lv x depth len count held.now.top held.now.outer (omega (arith, held.within)) closing p.gap g a.goes.gapless a.made

    gap_few : closing ≡ false → g.len ≤ 2 * at + 1
    gap_few q = by_case held.few
      where
        by_case : Few text words held.now closing len at → g.len ≤ 2 * at + 1
        by_case (inl c) = omega (arith, ap (λ (y : Gapped). y.len) a.made, gap_none p.gap len (a.goes.first c.3 c.4), c.2)
        by_case (inr c) = omega (arith, gap_is.1, c)

    -- there is room for one element more
    pub room : g.len < n
    room = by_mode closing a.goes.onward gap_is.2 gap_few
      where
        by_mode : (c : Bool) → Onward text words c at p.next → (c ≡ true → g.len ≡ len) → (c ≡ false → g.len ≤ 2 * at + 1) → g.len < n
        by_mode true u k f = omega (arith, held.within, k refl)
        by_mode false u k f = omega (arith, held.enough, u.1, f refl)

  module _ {p : Step} {g : Gapped} {y : Joined} (b : Joins held p g y) where
    joined_at : Kept text words n (set (set st len g.made) x.last y.last) lv y.top depth g.len count closing (gap_top text words p.gap held.now.top) held.now.outer
    joined_at =
        let gap = gapped text words n st lv x depth len count held.now.top held.now.outer held.within closing p.gap g b.gaps.goes.gapless b.gaps.goes.gap b.gaps.made held.kept in
        linked text words n (set st len g.made) lv x depth g.len count closing g.join _ _ gap (omega (arith, room b.gaps)) x.last y refl b.joined

    pub joined_last : y.top.last < n
    joined_last = omega (arith, fits_last text words _ lv y.top depth g.len count closing _ _ joined_at.pos joined_at.fits, room b.gaps)

  module _ {p : Step} {g : Gapped} {y : Joined} {v : Element} (t : Trims held p g y v) where
    ready_at : Kept text words n (ready_store held g y v) lv y.top depth g.len count closing (readied text words p held.now).top (readied text words p held.now).outer
    ready_at =
        let go = t.joins.gaps.goes in
        subst (λ (z : Level). Kept text words n (ready_store held g y v) lv y.top depth g.len count closing (trim_last (back_trim p.back) z) (readied text words p held.now).outer) (gap_top_lem text words p.gap held.now)
        (subst (λ (z : List Level). Kept text words n (ready_store held g y v) lv y.top depth g.len count closing (trim_last (back_trim p.back) (gap_top text words p.gap held.now.top)) z) (sym (gap_outer text words p.gap held.now))
        (trimmed text words n (set (set st len g.made) x.last y.last) lv y.top depth g.len count _ _ (omega (arith, room t.joins.gaps)) closing p.back y.top.last v go.whole refl t.trims (joined_at t.joins)))

    -- the owner of the open body is in use
    pub owner_near : {w : ℕ} → w ≡ ref_chain_head y.top.block y.top.head → w < n
    owner_near e = omega (arith, e, owner_in text words _ lv y.top depth g.len count closing _ _ ready_at.pos ready_at.fits, room t.joins.gaps)

    -- how much is open
    pub caps : (depth ≤ 64) × (count ≤ 64)
    caps = (omega (arith, deep text words _ lv y.top depth g.len count closing _ _ ready_at.fits, ready_at.cap), ready_at.cap)

  module _ {p : Step} {g : Gapped} {y : Joined} {v : Element} {w u : ℕ} {t : Turn} {q : Plan} (k : Plans held p g y v w u t q) where
    go : Goes text words o at closing p held.now
    go = k.ready.joins.gaps.goes

    turned : Turned text words n (ready_store held g y v) lv w g.len count closing q (applied text words p held.now).top (applied text words p held.now).outer
    turned =
        rw (k.plan, k.turns, k.below, k.owner)
        (own_part text words n (ready_store held g y v) lv y.top depth g.len count p held.now (room k.ready.joins.gaps) closing go.idle go.act (ready_at k.ready))

    pub slot_near : q.slot < 64
    slot_near = turned.slot

    -- the loop goes on with fewer spans, or with fewer open blocks
    pub less : 2 * (span_count words - p.next) + q.count < 2 * (span_count words - at) + count
    less = by_mode closing go.onward turned.counted
      where
        by_mode : (c : Bool) → Onward text words c at p.next → Counted c q.count count q.len g.len → 2 * (span_count words - p.next) + q.count < 2 * (span_count words - at) + count
        by_mode true a b = omega (arith, a, b.0)
        by_mode false a b = omega (arith, a.0, a.1, b.0)

    -- there is room for the elements
    grown : (q.len ≤ 2 * p.next) × (q.len < n)
    grown = by_mode closing (gap_is k.ready.joins.gaps).2 (gap_few k.ready.joins.gaps) held.few go.onward turned.counted
      where
        by_mode : (e : Bool) → (e ≡ true → g.len ≡ len) → (e ≡ false → g.len ≤ 2 * at + 1) → Few text words held.now e len at → Onward text words e at p.next → Counted e q.count count q.len g.len
            → (q.len ≤ 2 * p.next) × (q.len < n)
        by_mode true a b (inl c) f z = apart text words o (sym c.0)
        by_mode true a b (inr c) f z = let i = a refl in (omega (arith, i, f, z.1, c), omega (arith, i, z.1, held.within))
        by_mode false a b c f z = let i = b refl in (omega (arith, f.0, z.1, i), omega (arith, f.1, z.1, i, held.enough))

    pub planned_last : q.top.last < n
    planned_last = omega (arith, mid_last text words n _ _ _ _ _ _ _ _ _ _ turned.turn (omega (arith, grown.1)), grown.1)

    -- what the loop keeps holds again
    pub next_held : {z : Joined} → z ≡ joined_of q.top (element_at (set (set (ready_store held g y v) g.len q.made) w q.owner) q.top.last) q.join
        → Held text words o n (set (set (set (ready_store held g y v) g.len q.made) w q.owner) q.top.last z.last) (set lv q.slot q.put) z.top p.marks p.here q.depth q.len q.count q.closing p.next
    unfolding applied with_marks
    next_held {z} e =
        record {
          now = applied text words p held.now;
          kept = linked text words n (set (set (ready_store held g y v) g.len q.made) w q.owner) (set lv q.slot q.put) q.top q.depth q.len q.count q.closing q.join _ _ turned.turn
              (omega (arith, grown.1)) q.top.last z refl e;
          marks = record { stage = refl; end_pos = refl; previous = go.previous; omit_pro_ws = refl; trim_line = refl };
          here = subst (λ (i : ℕ). HereIs text p.here i) go.previous go.here;
          walks = held.walks ∙ go.steps;
          few = inr grown.0;
          within = grown.1;
          enough = held.enough;
        }

-- ---- the turn as one

-- what the loop keeps where the walk stands
abbrev pub HeldAt : Bytes → List ℕ → Options → ℕ → List Element → List Frame → Standing → Type 0
HeldAt text words o n st lv b = Held text words o n st lv b.top b.marks b.here b.depth b.len b.count b.closing b.at

module _ {text : Bytes} {words : List ℕ} {o : Options} {n : ℕ} {st : List Element} {lv : List Frame} {b : Standing} (held : HeldAt text words o n st lv b) {p : Step} (goes : Goes text words o b.at b.closing p held.now) where
  gaps : Gaps held p (gap_made st lv b p)
  gaps = record { goes = goes; made = refl }

  joins : Joins held p (gap_made st lv b p) (gap_joined st lv b p)
  joins = record { gaps = gaps; joined = refl }

  trims : Trims held p (gap_made st lv b p) (gap_joined st lv b p) (text_trimmed st lv b p)
  trims = record { joins = joins; trims = refl }

  plans : Plans held p (gap_made st lv b p) (gap_joined st lv b p) (text_trimmed st lv b p) (owner_at st lv b p) (b.depth - 1) (turn_of b.closing (gap_joined st lv b p).top.head p.act) (act_planned st lv b p)
  plans = record { ready = trims; owner = refl; below = refl; turns = refl; plan = refl }

  pub turn_fits : n ≤ 8193 → TurnFits st lv b p
  turn_fits few =
      let long : length st ≡ n = held.kept.long in
      record {
        short = omega (arith, long, few);
        wide = held.kept.wide;
        len = omega (arith, long, held.within);
        last = omega (arith, long, last_in held);
        joined = omega (arith, long, joined_last joins);
        owner = omega (arith, long, owner_near trims refl);
        deep = (caps trims).0;
        count = (caps trims).1;
        room = omega (arith, long, room gaps);
        slot = slot_near plans;
        planned = omega (arith, long, planned_last plans);
      }

  module _ {st' : List Element} {lv' : List Frame} {b' : Standing} (t : TurnIs st lv b p st' lv' b') where
    pub turn_held : HeldAt text words o n st' lv' b'
    turn_held = rw (t.standing, t.frames, t.store) (next_held plans refl)

    pub turn_less : 2 * (span_count words - b'.at) + b'.count < 2 * (span_count words - b.at) + b.count
    turn_less = rw t.standing (less plans)
