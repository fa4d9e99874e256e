-- The lister's loop: the body that is being listed, the blocks that wait for it, and that what writes the rest writes the whole. The
-- measure is the size of what is left, read from the store. Assumes nothing.
use Prim.Native.Nat.{ℕ, zero, suc, ◌+◌, ◌-◌, ◌*◌, ◌<◌, ◌≤◌}
use native.Mathlib.Omega.{arith}
use mathlib.Core.Path.{◌≡◌, refl, sym, ap, subst, ◌∙◌}
use mathlib.Core.List.{List, [], ◌∷◌, ◌++◌, append-nil, append_assoc}
use mathlib.Core.Bool.{Bool, true, false, ◌&&◌, not}
use mathlib.Core.Option.{Option}
use lib.ListN.{length, get_or, set, length-set}
use lib.Seq.{get_or-set_same, get_or-set_other}
use Rattle.support.specs.Bytes.{Bytes, ascii, if}
use Rattle.expression.specs.Expression.{Call, BlockParam, no_block_param}
use Rattle.listing.specs.Form.{Word, Field, write_head, write_fields, Forms, nil, cons, open_form, write_form, write_forms}
use Rattle.support.specs.Position.{Place}
use Rattle.listing.specs.Tree.{Item, Wrap, decor_block, partial_block, Head, head, Elem, item, block, wrap, Body, end, then, Else, no_else, else}
use Rattle.listing.specs.Listing.{bit, place_field, indent_field, call_forms, block_param_forms, item_form, wrap_form, block_form, elem_form, body_forms, else_forms, write}
use Rattle.listing.specs.Wrote.{Wrote}
use Rattle.listing.specs.declared.writer.Writer.{Writer}
use Rattle.listing.proofs.Writers.{wrote_then, Onward, onward_start, onward_as, onward_next}
use Rattle.listing.proofs.ChildWrites.{call_join, block_join}
use Rattle.template.specs.Element.{role_of, has_body, Sound}
use Rattle.template.specs.Store.{element_at, Leaf, Helper, Wrapper, Chain, Node, ElseAt, Holds, Stored}
use Rattle.template.specs.Opening.{block_opening, wrap_opening, opening_by, opening, waits}
use Rattle.template.specs.declared.element.Element.{Element}
use Rattle.template.specs.declared.list.Waiting as code
use Rattle.template.proofs.BodyAt.{else_of, body_at, chain_read, else_read, holds_one}

-- ---- the bytes of a block: its opening, its body, its else

regroup : (h n a b o f t e : Bytes)
    → h ++ (n ++ ((a ++ (b ++ ((o ++ (f ++ t)) ++ e))) ++ t)) ≡ (h ++ (n ++ ((a ++ b) ++ o))) ++ (f ++ (t ++ (e ++ t)))
regroup h n a b o f t e = simp append_assoc

-- what follows a call and its block parameters
children : (x : Call) (a : BlockParam) (rest : Forms)
    → write_forms (call_forms x (block_param_forms a rest)) ≡ write_forms (call_forms x nil) ++ (write_forms (block_param_forms a nil) ++ write_forms rest)
children x a rest = call_join x (block_param_forms a rest) ∙ ap (write_forms (call_forms x nil) ++◌) (block_join a rest)

body_bytes_lem : (b : Forms) → write_form (open_form Word.body [] b) ≡ ascii "[body\n" ++ (write_forms b ++ ascii "]\n")
unfolding write_form write_head write_fields
body_bytes_lem b = refl

-- a form that ends in a body and what follows it
opened : (w : Word) (fs : List Field) (x : Call) (a : BlockParam) (b e : Forms)
    → write_form (open_form w fs (call_forms x (block_param_forms a (cons (open_form Word.body [] b) e))))
    ≡ (write_head w fs ++ (ascii "\n" ++ (write_forms (call_forms x (block_param_forms a nil)) ++ ascii "[body\n"))) ++ (write_forms b ++ (ascii "]\n" ++ (write_forms e ++ ascii "]\n")))
unfolding write_form
opened w fs x a b e =
    let h = write_head w fs in
    let rest = write_forms b ++ (ascii "]\n" ++ (write_forms e ++ ascii "]\n")) in
    ap (λ z. h ++ (ascii "\n" ++ (z ++ ascii "]\n"))) (children x a (cons (open_form Word.body [] b) e) ∙ ap (λ z. write_forms (call_forms x nil) ++ (write_forms (block_param_forms a nil) ++ (z ++ write_forms e))) (body_bytes_lem b))
    ∙ regroup h (ascii "\n") (write_forms (call_forms x nil)) (write_forms (block_param_forms a nil)) (ascii "[body\n") (write_forms b) (ascii "]\n") (write_forms e)
    ∙ ap (λ z. (h ++ (ascii "\n" ++ (z ++ ascii "[body\n"))) ++ rest) (sym (call_join x (block_param_forms a nil)))

block_bytes_lem : (f : Field) (c : Bool) (h : Head) (b e : Forms)
    → write_form (block_form f c h b e) ≡ block_opening f c h ++ (write_forms b ++ (ascii "]\n" ++ (write_forms e ++ ascii "]\n")))
unfolding block_form block_opening
block_bytes_lem f c (head x a i) b e = opened Word.block (f ∷ bit c ∷ bit i ∷ []) x a b e

wrap_bytes : (f : Field) (w : Wrap) (b : Forms)
    → write_form (wrap_form f w b) ≡ wrap_opening f w ++ (write_forms b ++ (ascii "]\n" ++ (write_forms nil ++ ascii "]\n")))
unfolding wrap_form wrap_opening
wrap_bytes f (decor_block i d c) b = opened Word.decor_block (f ∷ bit i ∷ indent_field d ∷ []) c no_block_param b nil
wrap_bytes f (partial_block i d c) b = opened Word.partial_block (f ∷ bit i ∷ indent_field d ∷ []) c no_block_param b nil

-- ---- what is left

-- a block that waits: its else, if that is still to be listed, and what stands behind it, which lies in the numbers from m up to hi
data Context : Type 0 where
  context : ℕ → ℕ → Else → Body → Context

abbrev pub body_bytes : Body → Bytes
body_bytes b = write_forms (body_forms b)

-- what follows the body that is being listed
unfoldable tail : List Context → Bytes
tail [] = ascii "]\n"
tail (context m hi e r ∷ cs) = ascii "]\n" ++ (write_forms (else_forms e) ++ (ascii "]\n" ++ (body_bytes r ++ tail cs)))

-- the first line, and the rest
pub listed : (b : Body) {before start now : Writer} → Wrote (ascii "[template\n") before start → Wrote (body_bytes b ++ ascii "]\n") start now
    → Wrote (write b) before now
unfolding write write_form write_head write_fields
listed b a w = wrote_then a w

-- turns
unfoldable mutual
  body_size : Body → ℕ
  body_size end = 0
  body_size (then e b) = elem_size e + body_size b

  elem_size : Elem → ℕ
  elem_size (item p x) = 1
  elem_size (block p c h b e) = 2 + body_size b + else_size e
  elem_size (wrap p w b) = 2 + body_size b

  else_size : Else → ℕ
  else_size no_else = 0
  else_size (else b) = 1 + body_size b

unfoldable stack_size : List Context → ℕ
stack_size [] = 0
stack_size (context m hi e r ∷ cs) = 1 + else_size e + body_size r + stack_size cs

abbrev pub no_waiting : code.Waiting
no_waiting = record { block = 0; inverse = false }

split : (o b t e r c : Bytes) → ((o ++ (b ++ (t ++ (e ++ t)))) ++ r) ++ c ≡ o ++ (b ++ (t ++ (e ++ (t ++ (r ++ c)))))
split o b t e r c = simp append_assoc

else_bytes : (b r : Bytes) → ascii "]\n" ++ (((ascii "[else\n" ++ (b ++ ascii "]\n")) ++ []) ++ r) ≡ ascii "]\n[else\n" ++ (b ++ (ascii "]\n" ++ r))
else_bytes b r = simp (append-nil, append_assoc)

clash : true ≡ false → ⊥
clash e = let z : ◌≡◌ {A = ℕ} 0 1 = cc in omega arith

no_context : (cs : List Context) → length cs ≡ 0 → cs ≡ []
no_context [] e = refl
no_context (c ∷ cs) e = absurd (omega arith)

module _ (text : Bytes) (words : List ℕ) (st : List Element) where
  -- the else of a block that waits, by whether it is being listed
  abbrev ElseLeft : Bool → Element → ℕ → ℕ → Else → Type 0
  ElseLeft true x k m e = e ≡ no_else
  ElseLeft false x k m e = ElseAt text words st x.inverted x.inverse k m e

  -- the entry w at depth d is a block with this else, from the number k on, and these elements behind it
  record Waits (w : code.Waiting) (d k m hi : ℕ) (e : Else) (r : Body) : Type 0 where
    inside : w.block < length st
    deep : d + 1 < k
    order : k ≤ m
    below : m ≤ length st
    near : hi ≤ length st
    elses : ElseLeft w.inverse (element_at st w.block) k m e
    last : ℕ
    rest : Chain text words st w.block (element_at st w.block).next last m hi r

  abbrev Stack : List code.Waiting → ℕ → List Context → Type 0
  Stack ws k [] = Unit
  Stack ws k (context m hi e r ∷ cs) = Waits (get_or ws (length cs) no_waiting) (length cs) k m hi e r × Stack ws hi cs

  -- entries below the depth are the same
  stack_same : (ws vs : List code.Waiting) (k : ℕ) (cs : List Context) → ((i : ℕ) → i < length cs → get_or vs i no_waiting ≡ get_or ws i no_waiting)
      → Stack ws k cs → Stack vs k cs
  stack_same ws vs k [] h s = tt
  stack_same ws vs k (context m hi e r ∷ cs) h s =
      (subst (λ w. Waits w (length cs) k m hi e r) (sym (h (length cs) (omega arith))) s.0, stack_same ws vs hi cs (λ i g. h i (omega arith)) s.1)

  stack_set : (ws : List code.Waiting) (w : code.Waiting) (k : ℕ) (cs : List Context) → Stack ws k cs → Stack (set ws (length cs) w) k cs
  stack_set ws w k cs s = stack_same ws (set ws (length cs) w) k cs (λ i h. get_or-set_other ws (length cs) i w no_waiting (λ e. omega arith)) s

  -- the sizes, read from the store
  entry_size : code.Waiting → ℕ
  entry_size w =
      let x = element_at st w.block in
      1 + else_size (if w.inverse no_else (else_of x.inverted (body_at text words (length st) st x.inverse))) + body_size (body_at text words (length st) st x.next)

  waiting_size : List code.Waiting → ℕ → ℕ
  waiting_size ws zero = 0
  waiting_size ws (suc d) = entry_size (get_or ws d no_waiting) + waiting_size ws d

  -- what is left
  pub left_size : List code.Waiting → ℕ → ℕ → ℕ
  left_size ws at depth = body_size (body_at text words (length st) st at) + waiting_size ws depth

  else_left : (i : Bool) (x : Element) (k m : ℕ) (e : Else) → 1 ≤ k → m ≤ length st → ElseLeft i x k m e
      → if i no_else (else_of x.inverted (body_at text words (length st) st x.inverse)) ≡ e
  else_left true x k m e h g s = sym s
  else_left false x k m e h g s = else_read text words e (length st) st x.inverted x.inverse k m h (omega arith) s

  entry_size_lem : (w : code.Waiting) (d k m hi : ℕ) (e : Else) (r : Body) → Waits w d k m hi e r → entry_size w ≡ 1 + else_size e + body_size r
  unfolding entry_size
  entry_size_lem w d k m hi e r s =
      let x = element_at st w.block in
      let a = ap else_size (else_left w.inverse x k m e (omega (arith, s.deep)) s.below s.elses) in
      let b = ap body_size (chain_read text words r (length st) st w.block x.next s.last m hi (omega (arith, s.deep, s.order)) (omega (arith, s.near)) s.rest) in
      omega arith

  stack_size_lem : (ws : List code.Waiting) (k : ℕ) (cs : List Context) → Stack ws k cs → waiting_size ws (length cs) ≡ stack_size cs
  unfolding waiting_size stack_size
  stack_size_lem ws k [] s = refl
  stack_size_lem ws k (context m hi e r ∷ cs) s =
      let a = entry_size_lem (get_or ws (length cs) no_waiting) (length cs) k m hi e r s.0 in
      let b = stack_size_lem ws hi cs s.1 in
      omega arith

  -- ---- the state of the loop

  -- the writer at `start` behind the first line, and now; the chain from `at` is what is left of the body that is being listed
  pub record Lister (first : ℕ) (start now : Writer) (ws : List code.Waiting) (at depth : ℕ) : Type 0 where
    body : Body
    holds : Holds text words st first body
    here : Body
    before : ℕ
    last : ℕ
    lo : ℕ
    hi : ℕ
    chain : Chain text words st before at last lo hi here
    low : depth < lo
    near : hi ≤ length st
    contexts : List Context
    stack : Stack ws hi contexts
    deep : length contexts ≡ depth
    pub long : length ws ≡ length st
    whole : Onward (body_bytes body ++ ascii "]\n") (body_bytes here ++ tail contexts) start now

  left_size_lem : {first : ℕ} {start now : Writer} {ws : List code.Waiting} {at depth : ℕ} (s : Lister first start now ws at depth)
      → left_size ws at depth ≡ body_size s.here + stack_size s.contexts
  unfolding left_size
  left_size_lem {ws = ws} {at = at} {depth = depth} s =
      let a = ap body_size (chain_read text words s.here (length st) st s.before at s.last s.lo s.hi (omega (arith, s.low)) (omega (arith, s.near)) s.chain) in
      let b = ap (waiting_size ws) (sym s.deep) ∙ stack_size_lem ws s.hi s.contexts s.stack in
      omega (arith, a, b)

  -- before the first turn
  pub begins : {first : ℕ} {start : Writer} (ws : List code.Waiting) → length ws ≡ length st → Stored text words st first → Lister first start start ws first 0
  unfolding tail
  begins ws long s = record {
    body = s.body;
    holds = s.holds;
    here = s.body;
    before = 0;
    last = s.holds.last;
    lo = 1;
    hi = s.holds.len;
    chain = s.holds.chain;
    low = omega arith;
    near = s.holds.few;
    contexts = [];
    stack = tt;
    deep = refl;
    long = long;
    whole = onward_start _ _;
  }

  -- an element has at most three turns
  mutual
    unfolding body_size

    chain_size : (b : Body) (p l z lo hi : ℕ) → Chain text words st p l z lo hi b → body_size b ≤ 3 * (hi - lo)
    chain_size end p l z lo hi c = omega arith
    chain_size (then e r) p l z lo hi c =
        let x = node_size e l c.0 c.2 c.4 in
        let y = chain_size r l (element_at st l).next z c.0 hi c.5 in
        omega (arith, c.1, c.2, c.3)

    node_size : (e : Elem) (l m : ℕ) → l < m → Node text words st l m e → elem_size e ≤ 3 * (m - l)
    node_size (item p x) l m h c = omega arith
    node_size (block p v g b x) l m h c =
        let y = chain_size b 0 (element_at st l).template c.5.0 (l + 1) c.0 c.5.1 in
        let z = else_size_lem x (element_at st l).inverted (element_at st l).inverse c.0 m c.6 in
        omega (arith, c.1, c.2)
    node_size (wrap p w b) l m h c =
        let y = chain_size b 0 (element_at st l).template c.2.0 (l + 1) m c.2.1 in
        omega arith

    else_size_lem : (x : Else) (h : Bool) (l lo hi : ℕ) → ElseAt text words st h l lo hi x → else_size x ≤ 3 * (hi - lo) + 1
    else_size_lem no_else h l lo hi c = omega arith
    else_size_lem (else b) h l lo hi c = let y = chain_size b 0 l c.0 lo hi c.2 in omega arith

  pub first_size : {first : ℕ} (ws : List code.Waiting) → Stored text words st first → left_size ws first 0 ≤ 3 * length st
  unfolding left_size waiting_size
  first_size {first} ws s =
      let h = s.holds in
      let a = ap body_size (chain_read text words s.body (length st) st 0 first h.last 1 h.len (omega arith) (omega (arith, h.few)) h.chain) in
      let b = chain_size s.body 0 first h.last 1 h.len h.chain in
      omega (arith, a, b, h.few)

  pub block_node : {o : Option Place} {h : Head} {e : Element} {c : Bool} → Helper text words o h e → e.chain ≡ c → (b : Body) (x : Else)
      → write_form (elem_form (block o c h b x)) ≡ opening text words e ++ (body_bytes b ++ (ascii "]\n" ++ (write_forms (else_forms x) ++ ascii "]\n")))
  unfolding opening_by elem_form
  block_node {o} {h} {e} {c} a f b x =
      let i : block_opening (place_field o) c h ≡ opening text words e = rw (a.is.role, a.is.place, a.means, f) refl in
      block_bytes_lem (place_field o) c h (body_forms b) (else_forms x)
      ∙ ap (◌++ (body_bytes b ++ (ascii "]\n" ++ (write_forms (else_forms x) ++ ascii "]\n")))) i

  pub wrap_node : {o : Option Place} {w : Wrap} {e : Element} → Wrapper text words o w e → (b : Body)
      → write_form (elem_form (wrap o w b)) ≡ opening text words e ++ (body_bytes b ++ (ascii "]\n" ++ (write_forms (else_forms no_else) ++ ascii "]\n")))
  unfolding opening_by elem_form
  wrap_node {o} {w} {e} a b =
      let i : wrap_opening (place_field o) w ≡ opening text words e = rw (a.is.role, a.is.place, a.means) refl in
      wrap_bytes (place_field o) w (body_forms b)
      ∙ ap (◌++ (body_bytes b ++ (ascii "]\n" ++ (write_forms nil ++ ascii "]\n")))) i

  -- the state after a turn, with less left than before
  pub record Turn (first : ℕ) (start now : Writer) (ws : List code.Waiting) (at depth size : ℕ) : Type 0 where
    pub state : Lister first start now ws at depth
    pub less : left_size ws at depth < size

  turned : {first : ℕ} {start now : Writer} {ws : List code.Waiting} {at depth size : ℕ} (s : Lister first start now ws at depth)
      → body_size s.here + stack_size s.contexts < size
      → Turn first start now ws at depth size
  turned s h = record { state = s; less = omega (arith, left_size_lem s, h) }

  -- an entry, a link and a depth that are told by equations
  pub entered : (ws : List code.Waiting) (i : ℕ) {first : ℕ} {start now : Writer} {u v : code.Waiting} {at at' depth depth' size : ℕ} → v ≡ u → at' ≡ at → depth' ≡ depth
      → Turn first start now (set ws i u) at depth size
      → Turn first start now (set ws i v) at' depth' size
  entered ws i {first} {start} {now} {u} {v} {at} {at'} {depth} {depth'} {size} e f g t =
      subst (λ z. Turn first start now (set ws i z) at' depth' size) (sym e)
      (subst (λ z. Turn first start now (set ws i u) z depth' size) (sym f) (subst (λ z. Turn first start now (set ws i u) at z size) (sym g) t))

  pub leaf_bytes : {o : Option Place} {x : Item} {e : Element} → Leaf text words o x e → write_form (item_form (place_field o) x) ≡ opening text words e
  unfolding opening_by
  leaf_bytes h = rw (h.is.role, h.is.place, h.means) refl

  ended : (b : Body) (p l z lo hi : ℕ) → Chain text words st p l z lo hi b → 1 ≤ lo → l ≡ 0 → b ≡ end
  ended end p l z lo hi c h e = refl
  ended (then x r) p l z lo hi c h e = absurd (omega (arith, c.1))

  -- the else of a block that waits, told by the flags
  record Elsed (x : Element) (k m : ℕ) (e : Else) : Type 0 where
    body : Body
    is : e ≡ else body
    last : ℕ
    chain : Chain text words st 0 x.inverse last k m body

  elsed : (i : Bool) (x : Element) (k m : ℕ) (e : Else) → (x.inverted && not i) ≡ true → ElseLeft i x k m e → Elsed x k m e
  elsed true x k m e h s = absurd (both x.inverted h)
    where
      both : (a : Bool) → (a && not true) ≡ true → ⊥
      both true q = clash (sym q)
      both false q = clash (sym q)
  elsed false x k m no_else h s = absurd (both x.inverted h s)
    where
      both : (a : Bool) → (a && not false) ≡ true → a ≡ false → ⊥
      both true q r = clash r
      both false q r = clash (sym q)
  elsed false x k m (else b) h s = record { body = b; is = refl; last = s.0; chain = s.2 }

  unelsed : (i : Bool) (x : Element) (k m : ℕ) (e : Else) → (x.inverted && not i) ≡ false → ElseLeft i x k m e → e ≡ no_else
  unelsed true x k m e h s = s
  unelsed false x k m no_else h s = refl
  unelsed false x k m (else b) h s = absurd (both x.inverted h s.1)
    where
      both : (a : Bool) → (a && not false) ≡ false → a ≡ true → ⊥
      both true q r = clash q
      both false q r = clash (sym r)

  module _ {first : ℕ} {start now : Writer} {ws : List code.Waiting} {at depth : ℕ} (s : Lister first start now ws at depth) where
    -- the rest, from what was written
    onward : {x y : Bytes} {after : Writer} → body_bytes s.here ++ tail s.contexts ≡ x ++ y → Wrote x now after → Onward (body_bytes s.body ++ ascii "]\n") y start after
    onward e w = onward_next (onward_as e s.whole) w

    -- nothing is left
    pub finished : {after : Writer} → at ≡ 0 → depth ≡ 0 → Wrote (ascii "]\n") now after
        → (b : Body) → Holds text words st first b → Wrote (body_bytes b ++ ascii "]\n") start after
    unfolding tail write_form body_forms
    finished {after} a d w b h =
        let e : s.here ≡ end = ended s.here s.before at s.last s.lo s.hi s.chain (omega (arith, s.low)) a in
        let f : s.contexts ≡ [] = no_context s.contexts (s.deep ∙ d) in
        let v : Wrote (body_bytes s.here ++ tail s.contexts) now after = rw (e, f) w in
        subst (λ z. Wrote (body_bytes z ++ ascii "]\n") start after) (holds_one text words s.holds h) (s.whole after v)

    -- the element at a link that is not 0
    module _ (some : at ≡ 0 → ⊥) where
      pub element_near : at < length st
      element_near = go s.here s.chain
        where
          go : (b : Body) → Chain text words st s.before at s.last s.lo s.hi b → at < length st
          go end c = absurd (some c.0)
          go (then e r) c = omega (arith, c.2, c.3, s.near)

      pub depth_near : depth < length st
      depth_near = go s.here s.chain
        where
          go : (b : Body) → Chain text words st s.before at s.last s.lo s.hi b → depth < length st
          go end c = absurd (some c.0)
          go (then e r) c = omega (arith, c.1, c.2, c.3, s.near, s.low)

      pub element_sound : Sound text words (element_at st at).name (element_at st at).element
      element_sound = go s.here s.chain
        where
          go : (b : Body) → Chain text words st s.before at s.last s.lo s.hi b → Sound text words (element_at st at).name (element_at st at).element
          go end c = absurd (some c.0)
          go (then (item p x) r) c = c.4.is.sound
          go (then (block p v h b x) r) c = c.4.3.is.sound
          go (then (wrap p w b) r) c = c.4.0.is.sound

      -- on to the next element; the entry is not waited for
      pub leaf_turn : {after : Writer} → has_body (role_of (element_at st at).element) ≡ false → Wrote (opening text words (element_at st at)) now after
          → Turn first start after ws (element_at st at).next depth (left_size ws at depth)
      unfolding body_size body_forms write_form
      leaf_turn {after} f w = go s.here refl s.chain
        where
          go : (b : Body) → s.here ≡ b → Chain text words st s.before at s.last s.lo s.hi b
              → Turn first start after ws (element_at st at).next depth (left_size ws at depth)
          go end e c = absurd (some c.0)
          go (then (block p k h b x) r) e c = absurd (clash (sym (ap has_body c.4.3.is.role) ∙ f))
          go (then (wrap p k b) r) e c = absurd (clash (sym (ap has_body c.4.0.is.role) ∙ f))
          go (then (item o x) r) e c =
              let f = ap (λ b. body_bytes b ++ tail s.contexts) e ∙ append_assoc (write_form (item_form (place_field o) x)) (body_bytes r) (tail s.contexts) ∙ ap (◌++ (body_bytes r ++ tail s.contexts)) (leaf_bytes c.4) in
              let z = ap body_size e in
              turned (record {
                body = s.body;
                holds = s.holds;
                here = r;
                before = at;
                last = s.last;
                lo = c.0;
                hi = s.hi;
                chain = c.5;
                low = omega (arith, s.low, c.1, c.2);
                near = s.near;
                contexts = s.contexts;
                stack = s.stack;
                deep = s.deep;
                long = s.long;
                whole = onward f w;
              }) (omega (arith, left_size_lem s, z))

      -- a block waits while its body is listed
      module _ {after : Writer} (w : Wrote (opening text words (element_at st at)) now after) where
        push : (b r : Body) (x : Else) (k z y : ℕ)
            → body_bytes s.here ++ tail s.contexts ≡ opening text words (element_at st at) ++ (body_bytes b ++ tail (context z s.hi x r ∷ s.contexts))
            → body_size s.here ≡ 2 + body_size b + else_size x + body_size r
            → s.lo ≤ at → at < k → k ≤ z → z ≤ s.hi
            → Chain text words st 0 (element_at st at).template y (at + 1) k b
            → ElseAt text words st (element_at st at).inverted (element_at st at).inverse k z x
            → Chain text words st at (element_at st at).next s.last z s.hi r
            → Turn first start after (set ws depth (waits at false)) (element_at st at).template (depth + 1) (left_size ws at depth)
        unfolding stack_size
        push b r x k z y f size h1 h2 h3 h4 c e d =
            let v = waits at false in
            let same_entry : get_or (set ws depth v) (length s.contexts) no_waiting ≡ v =
            ap (λ i. get_or (set ws depth v) i no_waiting) s.deep ∙ get_or-set_same ws depth v no_waiting (omega (arith, s.long, s.low, s.near)) in
            let entry : Waits v (length s.contexts) k z s.hi x r = record {
              inside = omega (arith, s.near);
              deep = omega (arith, s.low, s.deep);
              order = h3;
              below = omega (arith, s.near);
              near = s.near;
              elses = e;
              last = s.last;
              rest = d;
            } in
            turned (record {
              body = s.body;
              holds = s.holds;
              here = b;
              before = 0;
              last = y;
              lo = at + 1;
              hi = k;
              chain = c;
              low = omega (arith, s.low);
              near = omega (arith, s.near);
              contexts = context z s.hi x r ∷ s.contexts;
              stack = (
                subst (λ u. Waits u (length s.contexts) k z s.hi x r) (sym same_entry) entry,
                stack_same ws (set ws depth v) s.hi s.contexts (λ i j. get_or-set_other ws depth i v no_waiting (λ t. omega (arith, s.deep))) s.stack,
              );
              deep = omega (arith, s.deep);
              long = length-set ws depth v ∙ s.long;
              whole = onward f w;
            }) (omega (arith, left_size_lem s))

        pub block_turn : has_body (role_of (element_at st at).element) ≡ true
            → Turn first start after (set ws depth (waits at false)) (element_at st at).template (depth + 1) (left_size ws at depth)
        unfolding body_size body_forms write_form tail
        block_turn f = go s.here refl s.chain
          where
            go : (b : Body) → s.here ≡ b → Chain text words st s.before at s.last s.lo s.hi b
                → Turn first start after (set ws depth (waits at false)) (element_at st at).template (depth + 1) (left_size ws at depth)
            go end e c = absurd (some c.0)
            go (then (item o x) r) e c = absurd (clash (sym f ∙ ap has_body c.4.is.role))
            go (then (block o v h b x) r) e c =
                push b r x c.4.0 c.0 c.4.5.0
                (ap (λ b. body_bytes b ++ tail s.contexts) e ∙ ap (λ a. (a ++ body_bytes r) ++ tail s.contexts) (block_node c.4.3 c.4.4 b x) ∙ split (opening text words (element_at st at)) (body_bytes b) (ascii "]\n") (write_forms (else_forms x)) (body_bytes r) (tail s.contexts))
                (ap body_size e) c.1 c.4.1 c.4.2 c.3 c.4.5.1 c.4.6 c.5
            go (then (wrap o v b) r) e c =
                push b r no_else c.0 c.0 c.4.2.0
                (ap (λ b. body_bytes b ++ tail s.contexts) e ∙ ap (λ a. (a ++ body_bytes r) ++ tail s.contexts) (wrap_node c.4.0 b) ∙ split (opening text words (element_at st at)) (body_bytes b) (ascii "]\n") (write_forms (else_forms no_else)) (body_bytes r) (tail s.contexts))
                (let z = ap body_size e in omega arith) c.1 c.2 (omega arith) c.3 c.4.2.1 c.4.1 c.5

    -- the block that waits, where a body ended
    module _ (over : at ≡ 0) (some : depth ≡ 0 → ⊥) where
      pub entry_near : (depth - 1 < length st) × ((get_or ws (depth - 1) no_waiting).block < length st)
      entry_near = go s.contexts s.deep s.stack
        where
          go : (cs : List Context) → length cs ≡ depth → Stack ws s.hi cs → (depth - 1 < length st) × ((get_or ws (depth - 1) no_waiting).block < length st)
          go [] e t = absurd (some (sym e))
          go (context z hi x r ∷ cs) e t =
              let i : length cs ≡ depth - 1 = omega arith in
              let v = subst (λ i. Waits (get_or ws i no_waiting) (length cs) s.hi z hi x r) i t.0 in
              (omega (arith, v.deep, v.order, v.below), v.inside)

      -- the entry on top
      module _ {after : Writer} where
        pub else_turn : ((element_at st (get_or ws (depth - 1) no_waiting).block).inverted && not (get_or ws (depth - 1) no_waiting).inverse) ≡ true
            → Wrote (ascii "]\n[else\n") now after
            → Turn first start after (set ws (depth - 1) (waits (get_or ws (depth - 1) no_waiting).block true))
            (element_at st (get_or ws (depth - 1) no_waiting).block).inverse (depth - 1 + 1) (left_size ws at depth)
        unfolding body_size stack_size body_forms write_form write_head write_fields tail
        else_turn f w = go s.contexts refl s.deep s.stack
          where
            go : (cs : List Context) → s.contexts ≡ cs → length cs ≡ depth → Stack ws s.hi cs
                → Turn first start after (set ws (depth - 1) (waits (get_or ws (depth - 1) no_waiting).block true))
                (element_at st (get_or ws (depth - 1) no_waiting).block).inverse (depth - 1 + 1) (left_size ws at depth)
            go [] e d t = absurd (some (sym d))
            go (context z hi x r ∷ cs) e d t =
                let i : length cs ≡ depth - 1 = omega arith in
                let u = get_or ws (depth - 1) no_waiting in
                let v = waits u.block true in
                let a = subst (λ i. Waits (get_or ws i no_waiting) (length cs) s.hi z hi x r) i t.0 in
                let y = elsed u.inverse (element_at st u.block) s.hi z x f a.elses in
                let same_entry : get_or (set ws (depth - 1) v) (length cs) no_waiting ≡ v =
                ap (λ i. get_or (set ws (depth - 1) v) i no_waiting) i ∙ get_or-set_same ws (depth - 1) v no_waiting (omega (arith, s.long, a.deep, a.order, a.below)) in
                let entry : Waits v (length cs) z z hi no_else r = record {
                  inside = a.inside;
                  deep = omega (arith, a.deep, a.order);
                  order = omega arith;
                  below = a.below;
                  near = a.near;
                  elses = refl;
                  last = a.last;
                  rest = a.rest;
                } in
                let here : s.here ≡ end = ended s.here s.before at s.last s.lo s.hi s.chain (omega (arith, s.low)) over in
                let rest = ascii "]\n" ++ (body_bytes r ++ tail cs) in
                let b : body_bytes s.here ++ tail s.contexts ≡ ascii "]\n[else\n" ++ (body_bytes y.body ++ tail (context z hi no_else r ∷ cs)) =
                ap (λ b. body_bytes b ++ tail s.contexts) here ∙ ap tail e ∙ ap (λ o. ascii "]\n" ++ (write_forms (else_forms o) ++ rest)) y.is ∙ else_bytes (body_bytes y.body) rest in
                let size = ap body_size here in
                let size2 = ap stack_size e in
                let size3 = ap else_size y.is in
                turned (record {
                  body = s.body;
                  holds = s.holds;
                  here = y.body;
                  before = 0;
                  last = y.last;
                  lo = s.hi;
                  hi = z;
                  chain = y.chain;
                  low = omega (arith, a.deep);
                  near = a.below;
                  contexts = context z hi no_else r ∷ cs;
                  stack = (
                    subst (λ u. Waits u (length cs) z z hi no_else r) (sym same_entry) entry,
                    stack_same ws (set ws (depth - 1) v) hi cs (λ j k. get_or-set_other ws (depth - 1) j v no_waiting (λ t. omega arith)) t.1,
                  );
                  deep = omega arith;
                  long = length-set ws (depth - 1) v ∙ s.long;
                  whole = onward b w;
                }) (omega (arith, left_size_lem s))

        pub close_turn : ((element_at st (get_or ws (depth - 1) no_waiting).block).inverted && not (get_or ws (depth - 1) no_waiting).inverse) ≡ false
            → Wrote (ascii "]\n]\n") now after
            → Turn first start after ws (element_at st (get_or ws (depth - 1) no_waiting).block).next (depth - 1) (left_size ws at depth)
        unfolding body_size stack_size body_forms write_form write_head write_fields tail
        close_turn f w = go s.contexts refl s.deep s.stack
          where
            go : (cs : List Context) → s.contexts ≡ cs → length cs ≡ depth → Stack ws s.hi cs
                → Turn first start after ws (element_at st (get_or ws (depth - 1) no_waiting).block).next (depth - 1) (left_size ws at depth)
            go [] e d t = absurd (some (sym d))
            go (context z hi x r ∷ cs) e d t =
                let i : length cs ≡ depth - 1 = omega arith in
                let u = get_or ws (depth - 1) no_waiting in
                let a = subst (λ i. Waits (get_or ws i no_waiting) (length cs) s.hi z hi x r) i t.0 in
                let y = unelsed u.inverse (element_at st u.block) s.hi z x f a.elses in
                let here : s.here ≡ end = ended s.here s.before at s.last s.lo s.hi s.chain (omega (arith, s.low)) over in
                let b : body_bytes s.here ++ tail s.contexts ≡ ascii "]\n]\n" ++ (body_bytes r ++ tail cs) =
                ap (λ b. body_bytes b ++ tail s.contexts) here ∙ ap tail e ∙ ap (λ o. ascii "]\n" ++ (write_forms (else_forms o) ++ (ascii "]\n" ++ (body_bytes r ++ tail cs)))) y in
                let size = ap body_size here in
                let size2 = ap stack_size e in
                turned (record {
                  body = s.body;
                  holds = s.holds;
                  here = r;
                  before = u.block;
                  last = a.last;
                  lo = z;
                  hi = hi;
                  chain = a.rest;
                  low = omega (arith, a.deep, a.order);
                  near = a.near;
                  contexts = cs;
                  stack = t.1;
                  deep = i;
                  long = s.long;
                  whole = onward b w;
                }) (omega (arith, left_size_lem s))
