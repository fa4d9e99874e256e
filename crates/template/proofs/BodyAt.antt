-- The body that a link leads to, read with a bound on the steps: a chain's body is what is read, so that a store holds one body only.
-- Assumes nothing.
use Prim.Native.Nat.{ℕ, zero, suc, ◌+◌, ◌≤◌}
use native.Mathlib.Omega.{arith}
use mathlib.Core.Path.{◌≡◌, refl, sym, ap, ◌∙◌}
use mathlib.Core.List.{List, []}
use mathlib.Core.Bool.{Bool, true, false}
use mathlib.Core.Option.{none}
use lib.Dec.{eqb}
use lib.ListN.{length}
use borrow.Author.Tests.{ne_eqb}
use Rattle.support.specs.Bytes.{Bytes}
use Rattle.listing.specs.Tree.{text, Elem, item, block, wrap, Body, end, then, Else, no_else, else}
use Rattle.template.specs.Element.{place_means, item_means, head_means, wrap_means, Role, leaf, helper, wrapper, nothing, role_of}
use Rattle.template.specs.Store.{element_at, Chain, Node, ElseAt, Holds}
use Rattle.template.specs.declared.element.Element.{Element}

-- an else, by its flag
abbrev pub else_of : Bool → Body → Else
else_of true b = else b
else_of false b = no_else

module _ (input : Bytes) (words : List ℕ) where
  -- an element with its body and its else, by its role
  abbrev elem_of : Role → Element → Body → Else → Elem
  elem_of leaf e b x = item (place_means e.place) (item_means input words e.element)
  elem_of helper e b x = block (place_means e.place) e.chain (head_means input words e.element) b x
  elem_of wrapper e b x = wrap (place_means e.place) (wrap_means input words e.element) b
  elem_of nothing e b x = item none (text [])

  -- the body that the link l leads to
  unfoldable pub body_at : ℕ → List Element → ℕ → Body
  body_at zero st l = end
  body_at (suc f) st l = elim (eqb l 0) [
    | true ↦ end
    | false ↦ then
        (elem_of (role_of (element_at st l).element) (element_at st l) (body_at f st (element_at st l).template)
        (else_of (element_at st l).inverted (body_at f st (element_at st l).inverse)))
        (body_at f st (element_at st l).next)
  ]

  no_link : (f : ℕ) (st : List Element) (l : ℕ) → l ≡ 0 → body_at f st l ≡ end
  unfolding body_at
  no_link zero st l e = refl
  no_link (suc f) st l e = rw e refl

  mutual
    unfolding body_at

    -- the steps are enough for the region
    pub chain_read : (b : Body) (f : ℕ) (st : List Element) (p l z lo hi : ℕ) → 1 ≤ lo → hi ≤ lo + f → Chain input words st p l z lo hi b
        → body_at f st l ≡ b
    chain_read end f st p l z lo hi h g c = no_link f st l c.0
    chain_read (then e r) zero st p l z lo hi h g c = absurd (omega (arith, c.1, c.2, c.3))
    chain_read (then e r) (suc f) st p l z lo hi h g c =
        let x = node_read e f st l c.0 (omega (arith, c.1, c.3)) c.4 in
        let y = chain_read r f st l (element_at st l).next z c.0 hi (omega (arith, c.2)) (omega (arith, c.1, c.2)) c.5 in
        rw (ne_eqb l 0 (λ q. omega (arith, c.1)), body_at) (ap (λ v. then v (body_at f st (element_at st l).next)) x ∙ ap (then e) y)

    node_read : (e : Elem) (f : ℕ) (st : List Element) (l m : ℕ) → m ≤ l + suc f → Node input words st l m e
        → elem_of (role_of (element_at st l).element) (element_at st l) (body_at f st (element_at st l).template)
        (else_of (element_at st l).inverted (body_at f st (element_at st l).inverse)) ≡ e
    node_read (item p x) f st l m g c = rw (c.is.role, c.is.place, c.means) refl
    node_read (block p k h b x) f st l m g c =
        let y = chain_read b f st 0 (element_at st l).template c.5.0 (l + 1) c.0 (omega arith) (omega (arith, c.2)) c.5.1 in
        let z = else_read x f st (element_at st l).inverted (element_at st l).inverse c.0 m (omega (arith, c.1)) (omega (arith, c.1)) c.6 in
        rw (c.3.is.role, c.3.is.place, c.3.means, c.4, y, z) refl
    node_read (wrap p w b) f st l m g c =
        let y = chain_read b f st 0 (element_at st l).template c.2.0 (l + 1) m (omega arith) (omega arith) c.2.1 in
        rw (c.0.is.role, c.0.is.place, c.0.means, y) refl

    pub else_read : (x : Else) (f : ℕ) (st : List Element) (h : Bool) (l lo hi : ℕ) → 1 ≤ lo → hi ≤ lo + f → ElseAt input words st h l lo hi x
        → else_of h (body_at f st l) ≡ x
    else_read no_else f st h l lo hi a g c = rw c refl
    else_read (else b) f st h l lo hi a g c = rw c.1 (ap else (chain_read b f st 0 l c.0 lo hi a g c.2))

  pub holds_read : {st : List Element} {first : ℕ} {b : Body} → Holds input words st first b → body_at (length st) st first ≡ b
  holds_read {st} {first} {b} h = chain_read b (length st) st 0 first h.last 1 h.len (omega arith) (omega (arith, h.few)) h.chain

  -- one body
  pub holds_one : {st : List Element} {first : ℕ} {b c : Body} → Holds input words st first b → Holds input words st first c → b ≡ c
  holds_one h g = sym (holds_read h) ∙ holds_read g
