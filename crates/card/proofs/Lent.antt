-- What a caller has once a card was answered: the text is a part of the input, and the words stand at the front of what was lent, if that has
-- half as many places as a card has bytes. Assumes nothing.
use Prim.Native.Nat.{ℕ, ◌+◌, ◌-◌, ◌*◌, ◌≤◌}
use native.Mathlib.Omega.{arith}
use mathlib.Core.Path.{◌≡◌, refl, sym, ap, subst, ◌∙◌}
use mathlib.Core.List.{List, ◌++◌}
use mathlib.Core.Option as math
use lib.ListN.{length, take, drop, replicate, length-replicate}
use lib.Seq.{take_at, sets, sets-eq, length-sets}
use Rattle.std.specs.Prelude.{Option, Some}
use Rattle.support.specs.Bytes.{Bytes}
use Rattle.card.specs.Card.{max_bytes, Said, said}
use Rattle.card.specs.Read.{read_card}
use Rattle.card.specs.Answers.{Stores, answer_of, words_of, CardIs}
use Rattle.card.specs.declared.read.Card as declared
use Rattle.card.proofs.Grammar.{read_is_card, words_fit, text_last}

-- c is what s, a card, says, with the words in m, which was l
pub record Lent (s : Bytes) (l m : List ℕ) (c : declared.Card) : Type 0 where
  pub reads : read_card s ≡ math.some (said c.options (take c.words m) (drop c.text s))
  pub words : c.words ≤ length m
  pub part : c.words ≡ length (take c.words m)
  pub text : c.text ≤ length s

module _ {s : Bytes} {l m : List ℕ} (h : Stores (words_of (read_card s)) l m) (k : max_bytes ≤ 2 * length l) where
  lent_of : (c : declared.Card) (x : math.Option Said) → read_card s ≡ x → Some c ≡ answer_of s x → Lent s l m c
  lent_of c math.none e q = let z : ◌≡◌ {A = ℕ} 0 1 = cc in absurd (omega arith)
  lent_of c (math.some (said o ws t)) e q =
      let f = read_is_card s (said o ws t) e in
      let w : words_of (read_card s) ≡ ws = ap words_of e in
      let b : f.card.text ≡ t = (let j = f.means in cc) in
      let u : drop (length s - length t) s ≡ t = (let i = text_last s f.card f.is.written in rw b at i) in
      let n = words_fit s o ws t e in
      let y : 0 + length ws ≡ length ws = omega arith in
      let v : m ≡ ws ++ drop (length ws) l = h ∙ ap (sets l 0) w ∙ sets-eq ws l 0 (omega arith) ∙ ap (λ i. ws ++ drop i l) y in
      let g : take (length ws) m ≡ ws = ap (take (length ws)) v ∙ take_at ws (drop (length ws) l) (length ws) refl in
      let d : length m ≡ length l = ap length h ∙ length-sets l 0 (words_of (read_card s)) in
      let ce : c ≡ record { options = o; words = length ws; text = length s - length t } = cc in
      rw ce (record {
        reads = e ∙ ap (λ z. math.some (said o z t)) (sym g) ∙ ap (λ z. math.some (said o (take (length ws) m) z)) (sym u);
        words = omega arith;
        part = sym (ap length g);
        text = omega arith;
      })

pub card_lent : {s : Bytes} {l m : List ℕ} {r : Option declared.Card} {c : declared.Card} → r ≡ Some c → CardIs s l m r → max_bytes ≤ 2 * length l → Lent s l m c
card_lent {s} {l} {m} {r} {c} e h k = lent_of h.stored k c (read_card s) refl (sym e ∙ h.answer)

-- an array of `Card::WORDS` words is enough
pub array_lent : {s : Bytes} {m : List ℕ} {r : Option declared.Card} {c : declared.Card} → r ≡ Some c → CardIs s (replicate 32768 0) m r → Lent s (replicate 32768 0) m c
array_lent e h = card_lent e h (subst (λ k. max_bytes ≤ 2 * k) (sym (length-replicate {A = ℕ} 32768 0)) (omega arith))
