-- What a visit means for what the loop keeps: a step that a turn makes, or the answer. Assumes nothing.
use Rattle.std.specs.Prelude as std
use Prim.Native.Nat.{ℕ}
use mathlib.Core.Path.{◌≡◌, refl, ap, sym, subst, ◌∙◌}
use mathlib.Core.Bool.{Bool, true, false}
use mathlib.Core.List.{List, []}
use Rattle.std.specs.Prelude.{Option, Some, None, Result, Ok, Err}
use Rattle.support.specs.Bytes.{Bytes}
use Rattle.json_path.specs.Span.{Span, span_count, spans_from}
use Rattle.json_path.specs.Answers.{Walked}
use Rattle.json_path.specs.declared.path.Name.{Name}
use Rattle.listing.specs.Reading.{Elem}
use Rattle.template.specs.State.{root, level, initial}
use Rattle.template.specs.Result.{accepted, refused}
use Rattle.template.specs.Element.{Good}
use Rattle.template.specs.Store.{element_at}
use Rattle.template.specs.Links.{BlockNameIs}
use Rattle.template.specs.Numbers.{reason_number}
use Rattle.template.specs.Nests.{unfinished}
use Rattle.template.specs.Visit.{HereIs, Tells, VisitIs}
use Rattle.template.specs.Turn.{still_step, LookIs}
use Rattle.template.specs.Finish.{unfinished_at, walk_listing}
use Rattle.template.specs.declared.element.Element.{Element}
use Rattle.template.specs.declared.frame.Frame.{Frame}
use Rattle.template.specs.declared.frame.Marks.{Marks}
use Rattle.template.specs.declared.refusal.Refusal.{Refusal}
use Rattle.template.specs.declared.visit.Options.{Options}
use Rattle.template.specs.declared.visit.Here.{Here}
use Rattle.template.specs.declared.visit.View.{View}
use Rattle.template.specs.declared.visit.Step.{Step}
use Rattle.template.proofs.Turns.{Kept}
use Rattle.template.proofs.Names.{tells}
use Rattle.template.proofs.Loop.{walked, Held, Goes, goes}
use Rattle.template.proofs.Finishing.{RootIs, Ended}
use Rattle.template.proofs.WalkEnds.{end_open, refused_open, turned_away, list_ends, unfinished_is, too_early, whole, root_whole, looks_still, looks_on}

-- what the walk tells a visit
abbrev pub view_of : Marks → Frame → std.Option Name → ℕ → Here → View
view_of m x name count h = record { marks = m; opened = x.opened; inverted = x.inverted; name = name; count = count; here = h }

module _ {text : Bytes} {words : List ℕ} {o : Options} where
  module _ {n : ℕ} {st : List Element} {lv : List Frame} {x : Frame} {m : Marks} {h : Here} {depth len count : ℕ} {closing : Bool} {at : ℕ} (held : Held text words o n st lv x m h depth len count closing at) {name : std.Option Name}
      (named : BlockNameIs (element_at st x.block) name) {seen : Result (Option Step) Refusal}
      (look : LookIs text words o (view_of m x name count h) at closing seen) where
    told : closing ≡ false → Tells text (view_of m x name count h) held.now
    told q = tells text words n st lv x depth len count held.now m h name (rw q at held.kept) held.marks held.here named

    pub look_goes : (p : Step) → seen ≡ Ok (Some p) → Goes text words o at closing p held.now
    look_goes p e = goes text words o closing (view_of m x name count h) at seen p held.now look e held.marks held.here told

    pub look_refused : (f : Refusal) → seen ≡ Err f → walk_listing text words o ≡ refused (reason_number f.reason) f.place
    look_refused f e =
        let q = refused_open text words o (view_of m x name count h) at closing seen f look e in
        turned_away text words o (view_of m x name count h) at seen f held.now (rw q at look) e (told q) held.walks

    look_open : seen ≡ Ok None → closing ≡ false
    look_open e = end_open text words o (view_of m x name count h) at closing seen look e

    look_ends : seen ≡ Ok None → walked text words o initial 0 ≡ accepted held.now
    look_ends e =
        let q = look_open e in
        list_ends text words o (view_of m x name count h) at seen held.now (rw q at look) e (told q) held.walks

    kept_open : seen ≡ Ok None → Kept text words n st lv x depth len count false held.now.top held.now.outer
    kept_open e = rw (look_open e) at held.kept

    same : seen ≡ Ok None → unfinished_at text m depth ≡ unfinished text held.now
    same e = unfinished_is text words o m depth held.now held.marks (kept_open e).fits.deep

    pub look_early : (u : Bool) → seen ≡ Ok None → u ≡ unfinished_at text m depth → u ≡ true → walk_listing text words o ≡ refused 7 (span_count words)
    look_early u e a b = too_early text words o held.now (look_ends e) (sym (same e) ∙ sym a ∙ b)

    module _ (good : Good text words) {u : Bool} (e : seen ≡ Ok None) (a : u ≡ unfinished_at text m depth) (b : u ≡ false) where
      root_at : (es : List Elem) × (held.now.top ≡ level root es) × RootIs text words st x len es
      root_at = root_whole text words o n st lv x m depth len count good held.now (kept_open e) held.within (sym a ∙ b)

      pub look_ended : Ended text words o st x len m h
      look_ended =
          record {
            elems = root_at.0;
            root = root_at.2;
            here = subst (λ (i : ℕ). HereIs text h i) (sym held.marks.previous) held.here;
            answer = whole text words o m held.now root_at.0 (look_ends e) (sym (same e) ∙ sym a ∙ b) root_at.1 held.marks.previous;
          }

-- what a turn finds: a block that closes, a span, or the end of the list
module _ {text : Bytes} {words : List ℕ} {o : Options} {n : ℕ} {st : List Element} {lv : List Frame} {x : Frame} {m : Marks} {h : Here} {depth len count : ℕ} {closing : Bool} {at : ℕ}
    (held : Held text words o n st lv x m h depth len count closing at) {name : std.Option Name} (named : BlockNameIs (element_at st x.block) name) where
  pub still_goes : {p : Step} → closing ≡ true → p ≡ still_step (view_of m x name count h) at → Goes text words o at closing p held.now
  still_goes {p} c e = look_goes held named (looks_still text words o (view_of m x name count h) at closing (Ok (Some p)) c (ap (λ z. Ok (Some z)) e)) p refl

  module _ (going : closing ≡ false) where
    module _ {s : Span} (w : Walked words at s) where
      pub visit_goes : {p : Step} → ((k : ℕ) → Walked words k s → VisitIs text words o (view_of m x name count h) k (Ok (Some p))) → Goes text words o at closing p held.now
      visit_goes {p} v = look_goes held named (looks_on text words o (view_of m x name count h) at closing (Ok (Some p)) going (v at w)) p refl

      pub visit_refused : {f : Refusal} → ((k : ℕ) → Walked words k s → VisitIs text words o (view_of m x name count h) k (Err f)) → walk_listing text words o ≡ refused (reason_number f.reason) f.place
      visit_refused {f} v = look_refused held named (looks_on text words o (view_of m x name count h) at closing (Err f) going (v at w)) f refl

    module _ (none : spans_from words at ≡ []) where
      ends : LookIs text words o (view_of m x name count h) at closing (Ok None)
      ends = looks_on text words o (view_of m x name count h) at closing (Ok None) going (record { means = λ s t. none })

      pub list_early : {u : Bool} → u ≡ unfinished_at text m depth → u ≡ true → walk_listing text words o ≡ refused 7 (span_count words)
      list_early {u} a b = look_early held named ends u refl a b

      pub list_ended : Good text words → {u : Bool} → u ≡ unfinished_at text m depth → u ≡ false → Ended text words o st x len m h
      list_ended good a b = look_ended held named ends good refl a b
