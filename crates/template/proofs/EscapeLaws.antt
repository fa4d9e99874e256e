-- 13: the search for a bad escape, escape by escape. What is bad from the first on is bad from the turn's escape on. Assumes nothing.
use Prim.Native.Nat.{ℕ, ◌+◌, ◌≤◌, ◌<◌}
use native.Mathlib.Omega.{arith}
use native.Mathlib.Numerals.{add-one}
use mathlib.Core.Path.{◌≡◌, refl, sym, ap, ◌∙◌}
use mathlib.Core.List.{List, []}
use mathlib.Core.Bool.{Bool, true, false, ◌||◌, not}
use lib.Dec.{ltb, eqb}
use lib.ListN.{length, get_or, get_or-eq_default}
use borrow.Author.Tests.{lt-ltb, le-ltb, ltb-true, ltb-false, eq-eqb, ne_eqb, eqb-true}
use Rattle.support.specs.Bytes.{Bytes}
use Rattle.json_path.specs.Span.{Span, escapes_from}
use Rattle.json_path.specs.Answers.{Escapes}
use Rattle.template.specs.Escapes.{escapes_to, bad_escape, bad_escapes}

module _ (text : Bytes) (least : ℕ) (x : Span) where
  pub bad_empty : x.start ≡ x.end → true ≡ bad_escape text least x
  bad_empty e = rw (eq-eqb _ _ e)

  module _ (n : x.start ≡ x.end → ⊥) {b : ℕ} (at : b ≡ get_or text x.start 0) where
    pub bad_byte : (b ≡ 92 → ⊥) → true ≡ bad_escape text least x
    bad_byte e = rw (ne_eqb _ _ n, ← at, ne_eqb b 92 e)

    pub bad_early : b ≡ 92 → ltb x.start least ≡ bad_escape text least x
    bad_early e = rw (ne_eqb _ _ n, ← at, eq-eqb b 92 e)

  -- it starts at a backslash of the text
  pub escape_inside : bad_escape text least x ≡ false → x.start < length text
  escape_inside e = go (ltb x.start (length text)) refl
    where
      third : (a b c : Bool) → (a || (not b || c)) ≡ false → b ≡ true
      third true b c f = let z : ◌≡◌ {A = ℕ} 0 1 = cc in absurd (omega arith)
      third false true c f = refl
      third false false c f = let z : ◌≡◌ {A = ℕ} 0 1 = cc in absurd (omega arith)

      go : (b : Bool) → ltb x.start (length text) ≡ b → x.start < length text
      go true f = ltb-true x.start (length text) f
      go false f =
          let p : get_or text x.start 0 ≡ 92 = eqb-true _ _ (third (eqb x.start x.end) (eqb (get_or text x.start 0) 92) (ltb x.start least) e) in
          let q : get_or text x.start 0 ≡ 0 = get_or-eq_default text 0 {n = x.start} (ltb-false x.start (length text) f) in
          absurd (omega arith)

pub record Escaping (text : Bytes) (words : List ℕ) (start limit from least k : ℕ) : Type 0 where
  pub same : bad_escapes text start (escapes_to limit (escapes_from words from)) ≡ bad_escapes text least (escapes_to limit (escapes_from words k))

module _ {text : Bytes} {words : List ℕ} {start limit from least k : ℕ} (g : Escaping text words start limit from least k) where
  abbrev Answers : Bool → Type 0
  Answers r = r ≡ bad_escapes text start (escapes_to limit (escapes_from words from))

  pub escaping_none : escapes_from words k ≡ [] → Answers false
  unfolding escapes_to bad_escapes
  escaping_none e = sym (g.same ∙ rw e)

  module _ {x : Span} (w : Escapes words k x) where
    pub escaping_past : limit < x.end → Answers false
    unfolding escapes_to bad_escapes
    escaping_past h = sym (g.same ∙ ap (λ l. bad_escapes text least (escapes_to limit l)) w.first ∙ rw (lt-ltb limit x.end h, escapes_to))

    module _ (h : x.end ≤ limit) {b : Bool} (e : b ≡ bad_escape text least x) where
      pub escaping_bad : b ≡ true → Answers true
      unfolding escapes_to bad_escapes
      escaping_bad f = sym (g.same ∙ ap (λ l. bad_escapes text least (escapes_to limit l)) w.first ∙ rw (le-ltb limit x.end h, escapes_to) (rw (sym e ∙ f, bad_escapes)))

      pub escaping_on : b ≡ false → Escaping text words start limit from (x.start + 1) (k + 1)
      unfolding escapes_to bad_escapes
      escaping_on f = record { same = g.same ∙ ap (λ l. bad_escapes text least (escapes_to limit l)) w.first ∙ rw (le-ltb limit x.end h, escapes_to) (rw (sym e ∙ f, bad_escapes) (rw (add-one x.start))) }
