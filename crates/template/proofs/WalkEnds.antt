-- Where the walk's loop starts, and how it ends: a span turns the card away, the list ends too early, or the root's body is whole.
-- Assumes nothing.
use Prim.Native.Nat.{ℕ, zero, suc, ◌*◌, ◌≤◌, ◌<◌}
use native.Mathlib.Omega.{arith}
use mathlib.Core.Path.{◌≡◌, refl, ap, subst, ◌∙◌}
use mathlib.Core.Bool.{Bool, true, false, ◌&&◌, ◌||◌, not}
use mathlib.Core.Logic.{inl}
use mathlib.Core.List.{List, [], ◌∷◌}
use mathlib.Core.Option.{Option, none, some}
use lib.ListN.{length, replicate, length-replicate}
use lib.Dec.{ltb}
use borrow.Author.Tests.{lt-ltb, le-leb, ltb-false}
use Rattle.std.specs.Prelude.{Some, None, is_none, Result, Ok, Err}
use Rattle.std.specs.declared.option.Option as rattle
use Rattle.support.specs.Bytes.{Bytes}
use Rattle.support.specs.Utf8.{is_char_boundary}
use Rattle.support.specs.Position.{place_after, linefeeds, characters_since}
use Rattle.support.proofs.Characters.{valid_first}
use Rattle.json_path.specs.Span.{span_count, spans_from}
use Rattle.listing.specs.Reading.{Elem}
use Rattle.listing.specs.Listing.{listing}
use Rattle.template.specs.State.{root, helper, in_else, wrapper, Level, level, State, initial, prev_end, body_of, sum_open}
use Rattle.template.specs.Result.{accepted, refused}
use Rattle.template.specs.Numbers.{reason_number}
use Rattle.template.specs.Nests.{is_filling, block_open, only_templates, unfinished}
use Rattle.template.specs.Walk.{walk_by, root_body, read_spans}
use Rattle.template.specs.Walk as spec
use Rattle.template.specs.Element.{Good, empty_element}
use Rattle.template.specs.Store.{element_at, Chain}
use Rattle.template.specs.Visit.{stage_means, end_as, prev_of, MarksAre, Tells, VisitMeans, VisitIs}
use Rattle.template.specs.Turn.{empty_frame, still_step, LookIs}
use Rattle.template.specs.Finish.{unfinished_at, walk_listing}
use Rattle.template.specs.declared.element.TemplateElement.TheVariants as E
use Rattle.template.specs.declared.element.Element.{Element}
use Rattle.template.specs.declared.frame.Frame.{Frame}
use Rattle.template.specs.declared.frame.Stage.TheVariants as G
use Rattle.template.specs.declared.frame.Marks.{Marks}
use Rattle.template.specs.declared.refusal.Refusal.{Refusal}
use Rattle.template.specs.declared.visit.Options.{Options}
use Rattle.template.specs.declared.visit.Here.{Here}
use Rattle.template.specs.declared.visit.View.{View}
use Rattle.template.specs.declared.visit.Step.{Step}
use Rattle.template.proofs.OpenSteps.{chain_empty}
use Rattle.template.proofs.Nesting.{tree_of}
use Rattle.template.proofs.Fits.{Filling}
use Rattle.template.proofs.Turns.{Kept}
use Rattle.template.proofs.Loop.{walked, Held}
use Rattle.template.proofs.Finishing.{RootIs, rest_of}

-- ---- the start

abbrev pub first_marks : Marks
first_marks = record { stage = G.Waiting; end_pos = None; omit_pro_ws = false; trim_line_required = false }

abbrev pub first_here : Here
first_here = record { place = record { line = 1; column = 1 }; at = 0 }

-- a store that was just made is empty at 0
first_empty : (n : ℕ) → (element_at (replicate n empty_element) 0).element ≡ E.Empty
first_empty zero = refl
first_empty (suc n) = refl

pub held_first : {text : Bytes} {words : List ℕ} {o : Options} (n : ℕ) → 2 * span_count words < n → 1 < n → Good text words → Held text words o n (replicate n empty_element) (replicate 64 empty_frame) empty_frame first_marks first_here 0 1 0 false 0
unfolding sum_open place_after linefeeds characters_since is_char_boundary
held_first {text} {words} n enough more good =
    record {
      now = initial;
      kept = record {
        fits = record { inner = (1, (refl, refl, refl), omega arith, chain_empty text words (replicate n empty_element) 1 1, refl); counted = refl; rooted = tt; outer = tt; deep = refl };
        pos = omega arith;
        long = length-replicate n empty_element;
        wide = length-replicate 64 empty_frame;
        cap = omega arith;
        bottom = first_empty n;
      };
      marks = record { stage = refl; end_pos = refl; previous = refl; omit_pro_ws = refl; trim_line = refl };
      here = record { place = refl; before = omega arith; inside = omega arith; between = rw (valid_first text good.valid, le-leb 0 (length text) (omega arith)) };
      walks = refl;
      few = inl (refl, refl, refl, refl, refl);
      within = more;
      enough = enough;
    }

module _ (text : Bytes) (words : List ℕ) (o : Options) where
  -- ---- what a visit ends

  apart : (r : Result (rattle.Option Step) Refusal) (p : Step) → r ≡ Ok (Some p) → r ≡ Ok None → ⊥
  apart r p e f = let z : ◌≡◌ {A = ℕ} 0 1 = cc in omega (arith, z)

  other : (r : Result (rattle.Option Step) Refusal) (p : Step) (f : Refusal) → r ≡ Ok (Some p) → r ≡ Err f → ⊥
  other r p f e g = let z : ◌≡◌ {A = ℕ} 0 1 = cc in omega (arith, z)

  -- while a block closes nothing ends
  pub end_open : (v : View) (at : ℕ) (closing : Bool) (r : Result (rattle.Option Step) Refusal) → LookIs text words o v at closing r → r ≡ Ok None → closing ≡ false
  end_open v at true r k e = absurd (apart r (still_step v at) (k.still refl) e)
  end_open v at false r k e = refl

  pub refused_open : (v : View) (at : ℕ) (closing : Bool) (r : Result (rattle.Option Step) Refusal) (f : Refusal) → LookIs text words o v at closing r → r ≡ Err f → closing ≡ false
  refused_open v at true r f k e = absurd (other r (still_step v at) f (k.still refl) e)
  refused_open v at false r f k e = refl

  -- a span turns the card away
  pub turned_away : (v : View) (at : ℕ) (r : Result (rattle.Option Step) Refusal) (f : Refusal) (s : State) → LookIs text words o v at false r → r ≡ Err f → Tells text v s
      → walked text words o initial 0 ≡ walked text words o s at → walk_listing text words o ≡ refused (reason_number f.reason) f.place
  unfolding read_spans
  turned_away v at r f s k e t w = rw (w ∙ subst (λ (q : Result (rattle.Option Step) Refusal). VisitMeans text words o at q s) e ((k.visits refl).means s t))

  -- the list ends
  pub list_ends : (v : View) (at : ℕ) (r : Result (rattle.Option Step) Refusal) (s : State) → LookIs text words o v at false r → r ≡ Ok None → Tells text v s
      → walked text words o initial 0 ≡ walked text words o s at → walked text words o initial 0 ≡ accepted s
  unfolding walk_by
  list_ends v at r s k e t w =
      let q : spans_from words at ≡ [] = subst (λ (q : Result (rattle.Option Step) Refusal). VisitMeans text words o at q s) e ((k.visits refl).means s t) in
      w ∙ rw q

  -- ---- the end of the list

  deep_open : (ls : List Level) → ltb 0 (length ls) ≡ elim ls [ [] ↦ false | l ∷ k ↦ true ]
  deep_open [] = refl
  deep_open (l ∷ ls) = lt-ltb 0 (length (l ∷ ls)) (omega arith)

  started_is : (b : rattle.Option ℕ) (u : Bool) (e : Option ℕ) → end_as b ≡ e → (u && is_none b) ≡ (u && elim e [ none ↦ true | some k ↦ false ])
  started_is (Some n) u e q = rw (← q) refl
  started_is None u e q = rw (← q) refl

  pub unfinished_is : (m : Marks) (depth : ℕ) (s : State) → MarksAre m s → depth ≡ length s.outer → unfinished_at text m depth ≡ unfinished text s
  unfinished_is m depth s a d =
      let n = prev_of m in
      let u = length text in
      ap (λ g. not (is_filling g) || (ltb 0 depth || (ltb n u && is_none m.end_pos))) a.stage
      ∙ ap (λ v. not (is_filling s.stage) || (v || (ltb n u && is_none m.end_pos))) (ap (ltb 0) d ∙ deep_open s.outer)
      ∙ ap (λ v. not (is_filling s.stage) || (block_open s || v)) (started_is m.end_pos (ltb n u) s.end_pos a.end_pos ∙ ap (λ i. ltb i u && only_templates s) a.previous)

  or_left : (a b : Bool) → (a || b) ≡ false → a ≡ false
  or_left true b e = e
  or_left false b e = refl

  or_right : (a b : Bool) → (a || b) ≡ false → b ≡ false
  or_right true b e = absurd (let z : ◌≡◌ {A = ℕ} 0 1 = cc in omega (arith, z))
  or_right false b e = e

  -- 7
  pub too_early : (s : State) → walked text words o initial 0 ≡ accepted s → unfinished text s ≡ true → walk_listing text words o ≡ refused 7 (span_count words)
  unfolding read_spans spec.finish
  too_early s w e = rw (w, e)

  body_of_lem : (m : Marks) (s : State) (l : Level) (es : List Elem) → l ≡ level root es → prev_of m ≡ prev_end s → root_body text s l ≡ body_of (rest_of text words m es)
  body_of_lem m s l es q p = rw (q, p)

  pub whole : (m : Marks) (s : State) (es : List Elem) → walked text words o initial 0 ≡ accepted s → unfinished text s ≡ false → s.top ≡ level root es → prev_of m ≡ prev_end s
      → walk_listing text words o ≡ accepted (listing (body_of (rest_of text words m es)))
  unfolding read_spans spec.finish
  whole m s es w e q p = rw (w, e) (ap (λ b. accepted (listing b)) (body_of_lem m s s.top es q p))

  module _ (n : ℕ) (st : List Element) (lv : List Frame) (x : Frame) (m : Marks) (depth len count : ℕ) (good : Good text words) (s : State)
      (k : Kept text words n st lv x depth len count false s.top s.outer) (within : len < n) (done : unfinished_at text m depth ≡ false) where
    root_open : (l : Level) (ls : List Level) → length ls ≡ 0 → Filling text words st lv x depth len count l ls → 1 ≤ len → len < length st
        → (es : List Elem) × (l ≡ level root es) × RootIs text words st x len es
    root_open (level root es) [] q f a b =
        (es, refl, record { pos = a; few = b; chain = subst (λ (i : ℕ). Chain text words st 0 x.first x.last i len (tree_of es)) f.inner.1.2 f.inner.3 })
    root_open (level (helper raw p bs g) es) [] q f a b = absurd f.rooted
    root_open (level (in_else p g d bs) es) [] q f a b = absurd f.rooted
    root_open (level (wrapper p w) es) [] q f a b = absurd f.rooted
    root_open l (k ∷ ls) q f a b = absurd (omega (arith, q))

    pub root_whole : (es : List Elem) × (s.top ≡ level root es) × RootIs text words st x len es
    root_whole =
        let e : ltb 0 depth ≡ false =
        or_left (ltb 0 depth) (ltb (prev_of m) (length text) && is_none m.end_pos) (or_right (not (is_filling (stage_means m.stage))) _ done) in
        let z = ltb-false 0 depth e in
        root_open s.top s.outer (omega (arith, z, k.fits.deep)) k.fits k.pos (omega (arith, k.long, within))

-- ---- what is looked at

pub looks_still : (text : Bytes) (words : List ℕ) (o : Options) (v : View) (at : ℕ) (closing : Bool) (r : Result (rattle.Option Step) Refusal) → closing ≡ true → r ≡ Ok (Some (still_step v at)) → LookIs text words o v at closing r
looks_still text words o v at closing r c e = record { still = λ q. e; visits = λ q. absurd (let z : ◌≡◌ {A = ℕ} 0 1 = cc in omega (arith, z)) }

pub looks_on : (text : Bytes) (words : List ℕ) (o : Options) (v : View) (at : ℕ) (closing : Bool) (r : Result (rattle.Option Step) Refusal) → closing ≡ false → VisitIs text words o v at r → LookIs text words o v at closing r
looks_on text words o v at closing r c h = record { still = λ q. absurd (let z : ◌≡◌ {A = ℕ} 0 1 = cc in omega (arith, z)); visits = λ q. h }
