-- The lister's pass over a store of n places, behind the first line: what each way through a turn needs and keeps, and that the listing is
-- short, since every turn writes little. Assumes nothing.
use Prim.Native.Nat.{ℕ, zero, suc, ◌+◌, ◌-◌, ◌*◌, ◌≤◌, ◌<◌}
use native.Mathlib.Omega.{arith}
use mathlib.Core.Path.{◌≡◌, sym, ap, subst, ◌∙◌}
use mathlib.Core.List.{List}
use mathlib.Core.Bool.{true, false, ◌&&◌, not}
use Rattle.std.specs.Prelude.{Some, None}
use Rattle.std.proofs.lemmas.Option.{none-some}
use lib.ListN.{length, get_or, set, replicate, length-replicate}
use Rattle.support.specs.Bytes.{Bytes, ascii}
use Rattle.listing.specs.Tree.{Body}
use Rattle.listing.specs.Listing.{write}
use Rattle.listing.specs.Written.{largest}
use Rattle.listing.specs.Wrote.{Wrote}
use Rattle.listing.specs.declared.writer.Writer.{Writer}
use Rattle.template.specs.Element.{Sound, role_of, has_body}
use Rattle.template.specs.Store.{element_at, Holds, Stored}
use Rattle.template.specs.Opening.{opening, waits, top_of}
use Rattle.template.specs.declared.element.Element.{Element}
use Rattle.template.specs.declared.list.Waiting as code
use Rattle.template.proofs.ElementWrites.{bytes_are}
use Rattle.template.proofs.Lister.{no_waiting, Lister, Turn, left_size, first_size, listed, begins, finished, element_near, depth_near, element_sound, leaf_turn, block_turn, entry_near, else_turn, close_turn}

-- no listing has more bytes
abbrev longest : ℕ
longest = 1000000000000000

-- where nothing is on top, none waits
pub none_left : (ws : List code.Waiting) (d : ℕ) → top_of ws d ≡ None → d ≤ 0
none_left ws zero e = omega arith
none_left ws (suc d) e = absurd (none-some _ (sym e))

module _ (text : Bytes) (words : List ℕ) (st : List Element) (first n : ℕ) where
  -- the writer at `start` behind the first line, and now
  pub record Pass (start now : Writer) (ws : List code.Waiting) (at depth : ℕ) : Type 0 where
    state : Lister text words st first start now ws at depth
    long : length st ≡ n
    short : now.at + 12000000000 * left_size text words st ws at depth ≤ longest

  -- a turn later, with less left than `size`
  pub record Turned (start now : Writer) (ws : List code.Waiting) (at depth size : ℕ) : Type 0 where
    pub pass : Pass start now ws at depth
    pub less : left_size text words st ws at depth < size

  pub starts : {start : Writer} → length st ≡ n → n ≤ 8193 → Stored text words st first → start.at ≤ 10 → Pass start start (replicate n no_waiting) first 0
  starts long most s h =
      let ws = replicate n no_waiting in
      record {
        state = begins text words st ws (length-replicate n no_waiting ∙ sym long) s;
        long = long;
        short = omega (arith, first_size text words st ws s);
      }

module _ {text : Bytes} {words : List ℕ} {st : List Element} {first n : ℕ} {start now : Writer} {ws : List code.Waiting} {at depth : ℕ} (s : Pass text words st first n start now ws at depth) where
  turned : {w : Bytes} {after : Writer} {vs : List code.Waiting} {to deep : ℕ} → length w ≤ 11000000000 → Wrote w now after
      → Turn text words st first start after vs to deep (left_size text words st ws at depth)
      → Turned text words st first n start after vs to deep (left_size text words st ws at depth)
  turned h w t = record { pass = record { state = t.state; long = s.long; short = omega (arith, w.bytes.next, s.short, t.less) }; less = t.less }

  -- ---- an element is listed

  module _ (some : 0 < at) where
    is_some : at ≡ 0 → ⊥
    is_some z = omega (arith, z, some)

    pub element_in : at < n
    element_in = omega (arith, element_near text words st s.state is_some, s.long)

    pub depth_in : depth < length ws
    depth_in = omega (arith, depth_near text words st s.state is_some, s.state.long)

    pub element_good : Sound text words (element_at st at).name (element_at st at).element
    element_good = element_sound text words st s.state is_some

    -- what is written of it
    module _ {after : Writer} (h : length (opening text words (element_at st at)) ≤ 11000000000) (w : Wrote (opening text words (element_at st at)) now after) where
      pub leaf_turned : has_body (role_of (element_at st at).element) ≡ false
          → Turned text words st first n start after ws (element_at st at).next depth (left_size text words st ws at depth)
      leaf_turned f = turned h w (leaf_turn text words st s.state is_some f w)

      pub block_turned : has_body (role_of (element_at st at).element) ≡ true
          → Turned text words st first n start after (set ws depth (waits at false)) (element_at st at).template (depth + 1) (left_size text words st ws at depth)
      block_turned f = turned h w (block_turn text words st s.state is_some w f)

  -- ---- a body ended: back to the block that waits

  module _ (over : at ≤ 0) {x : code.Waiting} (top : top_of ws depth ≡ Some x) where
    popped : (d : ℕ) → top_of ws d ≡ Some x → (d ≡ 0 → ⊥) × (get_or ws (d - 1) no_waiting ≡ x)
    popped zero e = absurd (none-some x e)
    popped (suc d) e = let i : suc d - 1 ≡ d = omega arith in let v : get_or ws d no_waiting ≡ x = cc in (λ z. omega arith, ap (λ i. get_or ws i no_waiting) i ∙ v)

    is : get_or ws (depth - 1) no_waiting ≡ x
    is = (popped depth top).1

    near : (depth - 1 < length st) × ((get_or ws (depth - 1) no_waiting).block < length st)
    near = entry_near text words st s.state (omega (arith, over)) (popped depth top).0

    pub block_in : x.block < n
    block_in = let b = rw is at near.1 in omega (arith, b, s.long)

    module _ {after : Writer} where
      pub else_turned : ((element_at st x.block).inverted && not x.inverse) ≡ true → Wrote (ascii "]\n[else\n") now after
          → Turned text words st first n start after (set ws (depth - 1) (waits x.block true)) (element_at st x.block).inverse (depth - 1 + 1) (left_size text words st ws at depth)
      else_turned f w =
          subst (λ u. ((element_at st u.block).inverted && not u.inverse) ≡ true
          → Turned text words st first n start after (set ws (depth - 1) (waits u.block true)) (element_at st u.block).inverse (depth - 1 + 1) (left_size text words st ws at depth)) is
          (λ f. turned (omega arith) w (else_turn text words st s.state (omega (arith, over)) (popped depth top).0 f w)) f

      pub close_turned : ((element_at st x.block).inverted && not x.inverse) ≡ false → Wrote (ascii "]\n]\n") now after
          → Turned text words st first n start after ws (element_at st x.block).next (depth - 1) (left_size text words st ws at depth)
      close_turned f w =
          subst (λ u. ((element_at st u.block).inverted && not u.inverse) ≡ false
          → Turned text words st first n start after ws (element_at st u.block).next (depth - 1) (left_size text words st ws at depth)) is
          (λ f. turned (omega arith) w (close_turn text words st s.state (omega (arith, over)) (popped depth top).0 f w)) f

  -- ---- the pass ends; t is the last line

  module _ {before after : Writer} {t : Bytes} (line : Wrote (ascii "[template\n") before start) (a : at ≤ 0) (d : depth ≤ 0) (e : t ≡ ascii "]\n") (w : Wrote t now after) where
    pub lists : (x : Body) → Holds text words st first x → Wrote (write x) before after
    lists x h = listed x line (finished text words st s.state (omega (arith, a)) (omega (arith, d)) (bytes_are (sym e) w) x h)

    pub below : after.at < largest
    below = omega (arith, w.bytes.next, ap length e, s.short)
