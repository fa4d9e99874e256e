-- Empty lines from byte to byte, and a table of them that is filled cell by cell. Assumes nothing.
use Prim.Native.Nat.{ℕ, zero, suc, ◌+◌, ◌-◌, ◌≤◌, ◌<◌}
use native.Mathlib.Omega.{arith}
use native.Mathlib.Numerals.{add-one}
use mathlib.Core.Path.{◌≡◌, refl, sym, ap, ◌∙◌}
use mathlib.Core.List.{List, ◌∷◌, reverse}
use mathlib.Core.Bool.{Bool, true, false, ◌||◌}
use lib.Dec.{eqb}
use lib.ListN.{length, get_or, take, drop, set, length-set}
use lib.Seq.{drop-length, drop-cons, length-take-le, take-take, get_or-take, get_or-set_same, get_or-set_other}
use borrow.Author.Tests.{eqb-true, eqb-false}
use Rattle.support.specs.Bytes.{Bytes, if, is_empty}
use Rattle.support.specs.Leading.{leading_from, drop_front, drop_back}
use Rattle.support.specs.TextRules.{is_blank, is_newline, blank_length, trim_start_blanks, trim_end_blanks, starts_with_newline, starts_with_empty_line, ends_with_empty_line}
use Rattle.support.proofs.Pieces.{back_none, back_piece}
use Rattle.support.proofs.TextLaws.{blank_before, other_before, ends_at}
use Rattle.template.specs.Lines.{line_across}

-- ---- from byte to byte

starts_cons : (c : ℕ) (s : Bytes) → line_across c (starts_with_empty_line s) ≡ starts_with_empty_line (c ∷ s)
unfolding starts_with_empty_line trim_start_blanks drop_front leading_from blank_length
starts_cons c s = go (is_blank c)
  where
    go : (b : Bool) → if b (starts_with_newline (drop (leading_from blank_length 0 s) s)) (is_newline c)
        ≡ starts_with_newline (drop (elim (if {A = ℕ} b 1 0) [ zero ↦ 0 | suc n ↦ suc (leading_from blank_length n s) ]) (c ∷ s))
    go true = refl
    go false = refl

starts_last : (text : Bytes) → false ≡ starts_with_empty_line (drop (length text) text)
unfolding starts_with_empty_line trim_start_blanks drop_front leading_from
starts_last text = rw (drop-length text)

starts_before : (text : Bytes) (i : ℕ) → i < length text → line_across (get_or text i 0) (starts_with_empty_line (drop (i + 1) text)) ≡ starts_with_empty_line (drop i text)
starts_before text i h = rw (add-one i, drop-cons text i 0 h) (starts_cons (get_or text i 0) (drop (suc i) text))

ends_first : (text : Bytes) → true ≡ ends_with_empty_line (take 0 text)
unfolding ends_with_empty_line trim_end_blanks drop_back leading_from
ends_first text = refl

-- an empty line is asked of the trimmed text
ends_as : (s t : Bytes) → trim_end_blanks s ≡ trim_end_blanks t → ends_with_empty_line t ≡ ends_with_empty_line s
unfolding ends_with_empty_line
ends_as s t e = sym (ap (λ u. starts_with_newline (reverse u) || is_empty u) e)

module _ (text : Bytes) (i : ℕ) (h : i < length text) where
  abbrev s : Bytes
  s = take (i + 1) text

  long : length s - 1 ≡ i
  long = omega (arith, length-take-le (i + 1) text (omega arith))

  back : i + 1 - 1 ≡ i
  back = omega arith

  across_blank : is_blank (get_or text i 0) ≡ true → ends_with_empty_line (take i text) ≡ ends_with_empty_line s
  unfolding trim_end_blanks
  across_blank e =
      let b = blank_before text (i + 1) (omega arith) (omega arith) (ap (λ k. is_blank (get_or text k 0)) back ∙ e) in
      ends_as s (take i text)
      (back_piece blank_length s 1 b (omega (arith, length-take-le (i + 1) text (omega arith)))
      ∙ ap (λ k. drop_back blank_length (take k s)) long
      ∙ ap (drop_back blank_length) (take-take i (i + 1) text (omega arith)))

  across_other : is_blank (get_or text i 0) ≡ false → is_newline (get_or text i 0) ≡ ends_with_empty_line s
  unfolding trim_end_blanks
  across_other e =
      let b = other_before text (i + 1) (omega arith) (omega arith) (ap (λ k. is_blank (get_or text k 0)) back ∙ e) in
      ap is_newline (sym (ap (λ k. get_or s k 0) long ∙ get_or-take (i + 1) text i 0 (omega arith)))
      ∙ ends_at s s (sym (back_none blank_length s b)) (λ z. omega (arith, z, length-take-le (i + 1) text (omega arith)))

  ends_behind : line_across (get_or text i 0) (ends_with_empty_line (take i text)) ≡ ends_with_empty_line s
  ends_behind = go (is_blank (get_or text i 0)) refl
    where
      go : (b : Bool) → is_blank (get_or text i 0) ≡ b → if b (ends_with_empty_line (take i text)) (is_newline (get_or text i 0)) ≡ ends_with_empty_line s
      go true e = across_blank e
      go false e = across_other e

-- ---- a table of cells that are to tell `want`

module _ (want : ℕ → Bool) where
  -- those from `from` to `to` do
  abbrev Filled : List Bool → ℕ → ℕ → Type 0
  Filled cells from to = (k : ℕ) → from ≤ k → k ≤ to → get_or cells k false ≡ want k

  module _ (cells : List Bool) (i : ℕ) (v : Bool) (inside : i < length cells) (right : v ≡ want i) where
    -- after a store at i, if the others did before
    store : (from to : ℕ) → ((k : ℕ) → from ≤ k → k ≤ to → (k ≡ i → ⊥) → get_or cells k false ≡ want k) → Filled (set cells i v) from to
    store from to others k a b = go (eqb k i) refl
      where
        go : (t : Bool) → eqb k i ≡ t → get_or (set cells i v) k false ≡ want k
        go true e =
            let q = eqb-true k i e in
            ap (λ j. get_or (set cells i v) j false) q ∙ get_or-set_same cells i v false inside ∙ right ∙ ap want (sym q)
        go false e = let n = eqb-false k i e in get_or-set_other cells i k v false n ∙ others k a b n

    store_first : Filled (set cells i v) i i
    store_first = store i i (λ k a b n. absurd (n (omega arith)))

    store_below : {j to : ℕ} → j ≡ i + 1 → Filled cells j to → Filled (set cells i v) i to
    store_below {j} {to} e h = store i to (λ k a b n. h k (omega arith) b)

    store_above : {from j : ℕ} → i ≡ j + 1 → Filled cells from j → Filled (set cells i v) from i
    store_above {from} {j} e h = store from i (λ k a b n. h k a (omega arith))

-- ---- the two passes, over a table as long as the old one

module _ (text : Bytes) where
  abbrev start_at : ℕ → Bool
  start_at k = starts_with_empty_line (drop k text)

  abbrev end_at : ℕ → Bool
  end_at k = ends_with_empty_line (take k text)

  -- the cells from i on tell of starts, and so does `line` of offset i
  pub record Starting (old cells : List Bool) (i : ℕ) (line : Bool) : Type 0 where
    pub inside : i ≤ length text
    pub long : length text < length cells
    pub same : length cells ≡ length old
    pub told : line ≡ start_at i
    pub filled : Filled start_at cells i (length text)

  pub starting_begins : (cells : List Bool) → length text < length cells
      → Starting (set cells (length text) false) (set cells (length text) false) (length text) false
  starting_begins cells h = record {
    inside = omega arith;
    long = omega (arith, length-set cells (length text) false);
    same = refl;
    told = starts_last text;
    filled = store_first start_at cells (length text) false h (starts_last text);
  }

  -- the cells up to i tell of ends, and so does `line` of offset i
  pub record Ending (old cells : List Bool) (i : ℕ) (line : Bool) : Type 0 where
    pub inside : i ≤ length text
    pub long : length text < length cells
    pub same : length cells ≡ length old
    pub told : line ≡ end_at i
    pub filled : Filled end_at cells 0 i

  pub ending_begins : (cells : List Bool) → length text < length cells → Ending (set cells 0 true) (set cells 0 true) 0 true
  ending_begins cells h = record {
    inside = omega arith;
    long = omega (arith, length-set cells 0 true);
    same = refl;
    told = ends_first text;
    filled = store_first end_at cells 0 true (omega arith) (ends_first text);
  }

  module _ {old cells : List Bool} {i : ℕ} {line : Bool} where
    pub starting_on : {v : Bool} → Starting old cells i line → 0 < i → v ≡ line_across (get_or text (i - 1) 0) line → Starting old (set cells (i - 1) v) (i - 1) v
    starting_on {v} s h e =
        let q : i ≡ i - 1 + 1 = omega arith in
        let r : v ≡ start_at (i - 1) = e ∙ ap (line_across (get_or text (i - 1) 0)) (s.told ∙ ap start_at q) ∙ starts_before text (i - 1) (omega arith) in
        record {
          inside = omega arith;
          long = omega (arith, length-set cells (i - 1) v);
          same = length-set cells (i - 1) v ∙ s.same;
          told = r;
          filled = store_below start_at cells (i - 1) v (omega arith) r q s.filled;
        }

    pub ending_on : {v : Bool} → Ending old cells i line → i < length text → v ≡ line_across (get_or text i 0) line → Ending old (set cells (i + 1) v) (i + 1) v
    ending_on {v} s h e =
        let r : v ≡ end_at (i + 1) = e ∙ ap (line_across (get_or text i 0)) s.told ∙ ends_behind text i h in
        record {
          inside = omega arith;
          long = omega (arith, length-set cells (i + 1) v);
          same = length-set cells (i + 1) v ∙ s.same;
          told = r;
          filled = store_above end_at cells (i + 1) v (omega arith) r refl s.filled;
        }
