-- 1 to 5: a span by its questions in turn, the search for the first bad one, and what each way out of the checks says. Assumes nothing.
use Prim.Native.Nat.{ℕ, ◌+◌, ◌%◌, ◌≤◌, ◌<◌}
use native.Mathlib.Omega.{arith}
use mathlib.Core.Path.{◌≡◌, refl, sym, ap, ◌∙◌}
use mathlib.Core.List.{List}
use mathlib.Core.Bool.{Bool, true, false, ◌||◌, not}
use mathlib.Core.Option.{none, some}
use lib.ListN.{length}
use lib.Dec.{ltb}
use borrow.Author.Tests.{lt-ltb, le-ltb, eq-eqb, ltb-false, ne_eqb}
use Rattle.std.specs.Prelude.{Some, None, Result, Ok, Err}
use Rattle.support.specs.Bytes.{Bytes, if}
use Rattle.support.specs.Utf8.{char_length, valid_length, is_char_boundary}
use Rattle.support.proofs.Pieces.{leading_le}
use Rattle.json_path.specs.Span.{Span, span_count, span_at, all_from}
use Rattle.json_path.proofs.Spans.{all_end, all_next}
use Rattle.template.specs.Result.{refused}
use Rattle.template.specs.Checks.{bad_span, first_bad, bad_span_of, checks}
use Rattle.template.specs.Compile.{prevent_indent, is_partial}
use Rattle.template.specs.Numbers.{reason_number}
use Rattle.template.specs.Checked.{options_read, FirstBadIs, Passes}
use Rattle.template.specs.declared.refusal.Reason.TheVariants as R
use Rattle.template.specs.declared.refusal.Refusal.{Refusal}
use Rattle.template.specs.declared.visit.Options.{Options}

-- ---- 5, of a span

module _ (text : Bytes) (s : Span) where
  pub bad_tag : 40 < s.tag → true ≡ bad_span text s
  unfolding bad_span
  bad_tag h = rw (lt-ltb 40 s.tag h)

  module _ (tag : s.tag ≤ 40) where
    pub bad_order : s.end < s.start → true ≡ bad_span text s
    unfolding bad_span
    bad_order h = rw (le-ltb 40 s.tag tag, lt-ltb s.end s.start h)

    module _ (order : s.start ≤ s.end) where
      pub bad_end : length text < s.end → true ≡ bad_span text s
      unfolding bad_span
      bad_end h = rw (le-ltb 40 s.tag tag, le-ltb s.end s.start order, lt-ltb (length text) s.end h)

      module _ (inside : s.end ≤ length text) where
        offsets : (not (is_char_boundary text s.start) || not (is_char_boundary text s.end)) ≡ bad_span text s
        unfolding bad_span
        offsets = rw (le-ltb 40 s.tag tag, le-ltb s.end s.start order, le-ltb (length text) s.end inside)

        pub bad_start : {a : Bool} → a ≡ is_char_boundary text s.start → a ≡ false → true ≡ bad_span text s
        bad_start e f = (rw (← e, f)) ∙ offsets

        pub bad_last : {a b : Bool} → a ≡ is_char_boundary text s.start → a ≡ true → b ≡ is_char_boundary text s.end → not b ≡ bad_span text s
        bad_last e f g = (rw (← e, f, ← g)) ∙ offsets

-- ---- the first bad one: none stands before number k

pub record Looking (text : Bytes) (words : List ℕ) (k : ℕ) : Type 0 where
  pub same : bad_span_of text words ≡ first_bad text (all_from words k)
  pub inside : k ≤ span_count words

module _ {text : Bytes} {words : List ℕ} {k : ℕ} (g : Looking text words k) where
  pub looking_end : span_count words ≤ k → FirstBadIs text words None
  unfolding first_bad
  looking_end h = record { means = g.same ∙ ap (first_bad text) (all_end words k h) }

  module _ {s : Span} {b : Bool} (e : s ≡ span_at words k) (h : k < span_count words) (q : b ≡ bad_span text s) where
    pub looking_found : b ≡ true → FirstBadIs text words (Some k)
    unfolding first_bad
    looking_found t =
        let f : bad_span text (span_at words k) ≡ true = ap (bad_span text) (sym e) ∙ sym q ∙ t in
        record { means = g.same ∙ ap (first_bad text) (all_next words k h) ∙ rw (f, first_bad) }

    pub looking_on : b ≡ false → Looking text words (k + 1)
    unfolding first_bad
    looking_on t =
        let f : bad_span text (span_at words k) ≡ false = ap (bad_span text) (sym e) ∙ sym q ∙ t in
        record { same = g.same ∙ ap (first_bad text) (all_next words k h) ∙ rw (f, first_bad); inside = omega arith }

-- ---- the checks in turn

abbrev pub by_over : ℕ → Bool → Result Options Refusal
by_over n b = if b (Err (record { reason = R.Options; place = 0 })) (Ok (record { prevent_indent = prevent_indent n; is_partial = is_partial n }))

-- options that are read are not over 3
pub options_few : {n : ℕ} {o : Options} → Ok o ≡ options_read n → n ≤ 3
options_few {n} {o} e = go (ltb 3 n) refl e
  where
    go : (b : Bool) → ltb 3 n ≡ b → Ok o ≡ by_over n b → n ≤ 3
    go true q e = let z : ◌≡◌ {A = ℕ} 0 1 = cc in absurd (omega (arith, z))
    go false q e = ltb-false 3 n q

module _ (text : Bytes) (words : List ℕ) (options : ℕ) where
  pub check_1 : {f : Refusal} → Err f ≡ options_read options → checks text words options ≡ refused (reason_number f.reason) f.place
  unfolding checks
  check_1 {f} e = go (ltb 3 options) refl e
    where
      go : (b : Bool) → ltb 3 options ≡ b → Err f ≡ by_over options b → checks text words options ≡ refused (reason_number f.reason) f.place
      go true q e = let z : f ≡ record { reason = R.Options; place = 0 } = cc in rw (q, z)
      go false q e = let z : ◌≡◌ {A = ℕ} 0 1 = cc in absurd (omega (arith, z))

  module _ (few : options ≤ 3) where
    pub check_2 : 16384 < length text → checks text words options ≡ refused 2 0
    unfolding checks
    check_2 h = rw (le-ltb 3 options few, lt-ltb 16384 (length text) h)

    module _ (short : length text ≤ 16384) where
      pub check_threes : (length words % 3 ≡ 0 → ⊥) → checks text words options ≡ refused 3 0
      unfolding checks
      check_threes h = rw (le-ltb 3 options few, le-ltb 16384 (length text) short, ne_eqb (length words % 3) 0 h)

      module _ (threes : length words % 3 ≡ 0) where
        pub check_spans : 4096 < span_count words → checks text words options ≡ refused 3 0
        unfolding checks
        check_spans h = rw (le-ltb 3 options few, le-ltb 16384 (length text) short, eq-eqb (length words % 3) 0 threes, lt-ltb 4096 (span_count words) h)

        module _ (spans : span_count words ≤ 4096) where
          pub check_4 : valid_length text < length text → checks text words options ≡ refused 4 (valid_length text)
          unfolding checks
          check_4 h = rw (le-ltb 3 options few, le-ltb 16384 (length text) short, eq-eqb (length words % 3) 0 threes, le-ltb 4096 (span_count words) spans, lt-ltb (valid_length text) (length text) h)

          module _ (valid : length text ≤ valid_length text) where
            pub check_5 : {n : ℕ} → bad_span_of text words ≡ some n → checks text words options ≡ refused 5 n
            unfolding checks
            check_5 e = rw (le-ltb 3 options few, le-ltb 16384 (length text) short, eq-eqb (length words % 3) 0 threes, le-ltb 4096 (span_count words) spans, le-ltb (valid_length text) (length text) valid, e)

            pub check_good : {o : Options} → options_read options ≡ Ok o → bad_span_of text words ≡ none → Passes text words options o
            unfolding checks
            check_good q e = record {
              read = q;
              answer = rw (le-ltb 3 options few, le-ltb 16384 (length text) short, eq-eqb (length words % 3) 0 threes, le-ltb 4096 (span_count words) spans, le-ltb (valid_length text) (length text) valid, e);
              good = record { short = short; few = spans; valid = omega (arith, leading_le char_length 0 text); spans = e };
            }
