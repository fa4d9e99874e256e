-- A turn's own part as stores of values: what a plan stores keeps the fit, by cases of the act, and of the closing turns. Assumes nothing.
use Prim.Native.Nat.{ℕ, ◌+◌, ◌-◌, ◌<◌, ◌≤◌}
use native.Mathlib.Omega.{arith}
use mathlib.Core.Path.{◌≡◌, refl, ap, sym, subst, ◌∙◌}
use mathlib.Core.Bool.{Bool, true, false}
use mathlib.Core.List.{List, [], ◌∷◌}
use mathlib.Core.Option.{Option}
use lib.ListN.{length, set, length-set}
use lib.Seq.{get_or-set_same, get_or-set_other, set-get_or}
use lib.Dec.{eqb}
use borrow.Author.Tests.{eqb-true, eqb-false}
use Rattle.support.specs.Bytes.{Bytes, if}
use Rattle.template.specs.State.{Stage, state, Owner, root, helper, in_else, wrapper, Level, level, State, owner_of, add_to, open_of, next_branch, else_branch, close_level, close_block, open_block, sum_open, open_count}
use Rattle.template.specs.Nests.{takes_else}
use Rattle.template.specs.Element.{head_means, empty_element}
use Rattle.template.specs.Element as role
use Rattle.template.specs.Store.{element_at}
use Rattle.template.specs.Visit.{OpenedIs, leaf_means, owner_means, act_effect, Allowed, Made}
use Rattle.template.specs.Turn.{empty_frame, begun, ref_chain_head, shut_plan, template_plan, add_plan, act_plan, plan_of, turn_of}
use Rattle.template.specs.declared.element.TemplateElement.TheVariants as E
use Rattle.template.specs.declared.element.Element.{Element}
use Rattle.template.specs.declared.frame.Frame.{Frame}
use Rattle.template.specs.declared.frame.Opened.{Opened}
use Rattle.template.specs.declared.frame.Opened.TheVariants as O
use Rattle.template.specs.declared.visit.Act.{Act}
use Rattle.template.specs.declared.visit.Act.TheVariants as A
use Rattle.template.specs.declared.visit.Added.TheVariants as N
use Rattle.template.specs.declared.turn.Turn.{Turn}
use Rattle.template.specs.declared.turn.Plan.{Plan}
use Rattle.template.specs.declared.turn.Open.{Open}
use Rattle.template.proofs.Store.{Same, SameBut, at_same, at_other}
use Rattle.template.proofs.Levels.{frame_at, Rooted, Lead}
use Rattle.template.proofs.Fits.{Fits, owner_in, deep}
use Rattle.template.proofs.OpenSteps.{Mid, made_next, made_helper, made_wrapper}
use Rattle.template.proofs.OpenSteps as opens
use Rattle.template.proofs.CloseSteps as closes

never : false ≡ true → ⊥
never e = let z : ◌≡◌ {A = ℕ} 0 1 = cc in omega (arith, z)

-- ---- the stores of a plan

module _ (st : List Element) (len w : ℕ) (made own : Element) (low : w < len) (room : len < length st) where
  made_at : element_at (set (set st len made) w own) len ≡ made
  made_at = at_other (set st len made) w len own (λ n. omega (arith, n)) ∙ at_same st len made room

  own_at : element_at (set (set st len made) w own) w ≡ own
  own_at = at_same (set st len made) w own (omega (arith, length-set st len made))

  but_at : SameBut st (set (set st len made) w own) w 1 len
  but_at i a b n = at_other (set st len made) w i own n ∙ at_other st len i made (λ q. omega (arith, q, b))

  same_at : own ≡ element_at st w → Same st (set (set st len made) w own) 1 len
  same_at q i a b =
      ap (λ (v : List Element). element_at v i)
      (ap (λ (v : Element). set (set st len made) w v) (q ∙ sym (at_other st len w made (λ n. omega (arith, n)))) ∙ set-get_or (set st len made) w empty_element)
      ∙ at_other st len i made (λ n. omega (arith, n, b))

-- what is open when a turn begins
abbrev pub open_at : List Element → List Frame → Frame → ℕ → ℕ → ℕ → Open
open_at st lv x depth len count =
    record { top = x; below = frame_at lv (depth - 1); owner = element_at st (ref_chain_head x.block x.head); depth = depth; len = len; count = count }

-- a closing turn leaves fewer open and makes nothing; another one leaves one more open at most and makes one element at most
abbrev pub Counted : Bool → ℕ → ℕ → ℕ → ℕ → Type 0
Counted true count' count len' len = (count' < count) × (len' ≡ len)
Counted false count' count len' len = (count' ≤ count + 1) × (len' ≤ len + 1)

-- number 0 is no element
abbrev pub Bottom : List Element → Type 0
Bottom st = (element_at st 0).element ≡ E.Empty

pub bottom_other : (st : List Element) (i : ℕ) (e : Element) → 1 ≤ i → Bottom st → Bottom (set st i e)
bottom_other st i e h b = ap (λ (v : Element). v.element) (at_other st i 0 e (λ q. omega (arith, q, h))) ∙ b

-- what is stored there is no element either
pub bottom_same : (st : List Element) (i : ℕ) (e : Element) → i < length st → (i ≡ 0 → e.element ≡ E.Empty) → Bottom st → Bottom (set st i e)
bottom_same st i e h f b = go (eqb i 0) refl
  where
    go : (u : Bool) → eqb i 0 ≡ u → Bottom (set st i e)
    go true q =
        let z = eqb-true i 0 q in
        ap (λ (v : Element). v.element) (subst (λ (j : ℕ). element_at (set st i e) j ≡ e) z (at_same st i e h)) ∙ f z
    go false q = bottom_other st i e (omega (arith, eqb-false i 0 q)) b

module _ (text : Bytes) (words : List ℕ) where
  -- what the loop keeps of the store, which has room for n elements
  pub record Kept (n : ℕ) (st : List Element) (lv : List Frame) (x : Frame) (depth len count : ℕ) (closing : Bool) (l : Level) (ls : List Level) : Type 0 where
    pub fits : Fits text words st lv x depth len count closing l ls
    pub pos : 1 ≤ len
    pub long : length st ≡ n
    pub wide : length lv ≡ 64
    pub cap : count ≤ 64
    pub bottom : Bottom st

  -- what holds between the two halves of a turn
  pub record Planned (n : ℕ) (st : List Element) (lv : List Frame) (x : Frame) (depth len count : ℕ) (closing : Bool) (at : ℕ) (l : Level) (ls : List Level) : Type 0 where
    pub mid : Mid text words st lv x depth len count closing at l ls
    pub pos : 1 ≤ len
    pub long : length st ≡ n
    pub wide : length lv ≡ 64
    pub cap : count ≤ 64
    pub bottom : Bottom st

  -- what a plan does, and the slot that it stores in
  pub record Turned (n : ℕ) (st : List Element) (lv : List Frame) (w len count : ℕ) (closing : Bool) (p : Plan) (l : Level) (ls : List Level) : Type 0 where
    pub turn : Planned n (set (set st len p.made) w p.owner) (set lv p.slot p.put) p.top p.depth p.len p.count p.closing p.join l ls
    pub slot : p.slot < 64
    pub counted : Counted closing p.count count p.len len

  module _ (n : ℕ) (st : List Element) (lv : List Frame) (x : Frame) (depth len count : ℕ) (room : len < n) where
    abbrev pub Goal : Bool → Turn → Level → List Level → Type 0
    Goal closing t l ls = Turned n st lv (ref_chain_head x.block x.head) len count closing (plan_of t (open_at st lv x depth len count)) l ls

    agree : (i : ℕ) → i < depth → frame_at (set lv (depth - 1) (frame_at lv (depth - 1))) i ≡ frame_at lv i
    agree i h = ap (λ (v : List Frame). frame_at v i) (set-get_or lv (depth - 1) empty_frame)

    module _ (closing : Bool) (l : Level) (ls : List Level) (k : Kept n st lv x depth len count closing l ls) where
      low : ref_chain_head x.block x.head < len
      low = owner_in text words st lv x depth len count closing l ls k.pos k.fits

      deep_of : depth ≤ count
      deep_of = deep text words st lv x depth len count closing l ls k.fits

      roomy : len < length st
      roomy = omega (arith, k.long)

      built : (made own : Element) (slot : ℕ) (put x' : Frame) (depth' len' count' : ℕ) (closing' : Bool) (at : ℕ) (l' : Level) (ls' : List Level)
          → Mid text words (set (set st len made) (ref_chain_head x.block x.head) own) (set lv slot put) x' depth' len' count' closing' at l' ls'
          → len ≤ len' → count' ≤ 64 → own.element ≡ (element_at st (ref_chain_head x.block x.head)).element
          → Planned n (set (set st len made) (ref_chain_head x.block x.head) own) (set lv slot put) x' depth' len' count' closing' at l' ls'
      built made own slot put x' depth' len' count' closing' at l' ls' mid a c b =
          record {
            mid = mid;
            pos = omega (arith, k.pos);
            long = length-set (set st len made) (ref_chain_head x.block x.head) own ∙ length-set st len made ∙ k.long;
            wide = length-set lv slot put ∙ k.wide;
            cap = c;
            bottom = bottom_same (set st len made) (ref_chain_head x.block x.head) own (omega (arith, low, roomy, length-set st len made))
                (λ q. b ∙ ap (λ (i : ℕ). (element_at st i).element) q ∙ k.bottom) (bottom_other st len made k.pos k.bottom);
          }

    -- ---- by the act

    plan_skip : (l : Level) (ls : List Level) → Kept n st lv x depth len count false l ls → Goal false (Turn.Act A.Skip) l ls
    unfolding plan_of act_plan add_plan
    plan_skip l ls k =
        let v = low false l ls k in
        let r = roomy false l ls k in
        record {
          turn = built false l ls k _ _ _ _ _ _ _ _ _ _ _ _
              (opens.skip_step text words st _ lv _ x depth len count _ k.pos refl agree false l ls (same_at st len _ _ _ v r refl) k.fits)
              (omega arith) k.cap refl;
          slot = omega (arith, deep_of false l ls k, k.cap);
          counted = (omega arith, omega arith);
        }

    plan_add : (l : Level) (ls : List Level) (e : Element) → Made text words role.leaf e → Kept n st lv x depth len count false l ls → Goal false (Turn.Act (A.Add e N.Leaf)) (add_to (leaf_means text words e) l) ls
    unfolding plan_of act_plan add_plan
    plan_add (level o es) ls e m k =
        let l : Level = level o es in
        let v = low false l ls k in
        let r = roomy false l ls k in
        record {
          turn = built false l ls k _ _ _ _ _ _ _ _ _ _ _ _
              (opens.add_step text words st _ lv _ x depth len count _ k.pos refl agree o es ls e (made_at st len _ _ _ v r) m (same_at st len _ _ _ v r refl) k.fits)
              (omega arith) k.cap refl;
          slot = omega (arith, deep_of false l ls k, k.cap);
          counted = (omega arith, omega arith);
        }

    plan_begin : (l : Level) (ls : List Level) (e : Element) (op : Opened) (o : Owner)
        → ((st' : List Element) → element_at st' len ≡ e → 1 ≤ len → Lead text words st' (begun op len) (len + 1) o) → OpenedIs op false o → open_of (level o []) ≡ 1 → Rooted o (l ∷ ls)
        → count < 64 → Kept n st lv x depth len count false l ls → Goal false (Turn.Act (A.Add e (N.Block op))) (level o []) (l ∷ ls)
    unfolding plan_of act_plan add_plan
    plan_begin l ls e op o lead is one rooted few k =
        let v = low false l ls k in
        let d = deep_of false l ls k in
        let r = roomy false l ls k in
        record {
          turn = built false l ls k _ _ _ _ _ _ _ _ _ _ _ _
              (opens.begin_step text words st _ lv _ x depth len count _ k.pos refl (λ i a. get_or-set_other lv depth i x empty_frame (λ q. omega (arith, q, a))) l ls o op
              (lead _ (made_at st len _ _ _ v r) k.pos) is one rooted (same_at st len _ _ _ v r refl) (get_or-set_same lv depth x empty_frame (omega (arith, d, k.wide))) k.fits)
              (omega arith) (omega arith) refl;
          slot = omega (arith, d);
          counted = (omega arith, omega arith);
        }

    plan_open : (s : State) (e : Element) (op : Opened) → Allowed text words (A.Add e (N.Block op)) s → count ≡ open_count s → Kept n st lv x depth len count false s.top s.outer
        → Goal false (Turn.Act (A.Add e (N.Block op))) (level (owner_means text words e op) []) (s.top ∷ s.outer)
    plan_open s e O.Root a q k = absurd a
    plan_open s e O.Helper a q k =
        plan_begin s.top s.outer e O.Helper (owner_means text words e O.Helper)
        (λ st' made pos. (len, (refl, made_helper text words st' len e made a.0, made_next text words st' len e made role.helper a.0), refl, refl, refl, pos, refl))
        (refl, refl) refl tt (omega (arith, a.1, q)) k
    plan_open s e O.Raw a q k =
        plan_begin s.top s.outer e O.Raw (owner_means text words e O.Raw)
        (λ st' made pos. (len, (refl, made_helper text words st' len e made a.0, made_next text words st' len e made role.helper a.0), refl, refl, refl, pos, refl))
        (refl, refl) refl tt (omega (arith, a.1, q)) k
    plan_open s e O.Decorator a q k =
        plan_begin s.top s.outer e O.Decorator (owner_means text words e O.Decorator)
        (λ st' made pos. (made_wrapper text words st' len e made a.0, made_next text words st' len e made role.wrapper a.0, refl, refl, pos, refl))
        a.1 refl tt (omega (arith, a.2, q)) k
    plan_open s e O.Partial a q k =
        plan_begin s.top s.outer e O.Partial (owner_means text words e O.Partial)
        (λ st' made pos. (made_wrapper text words st' len e made a.0, made_next text words st' len e made role.wrapper a.0, refl, refl, pos, refl))
        a.1 refl tt (omega (arith, a.2, q)) k

    plan_chain : (l : Level) (ls : List Level) (e : Element) → Made text words role.helper e → takes_else (owner_of l) ≡ true → count < 64 → Kept n st lv x depth len count false l ls
        → Goal false (Turn.Act (A.Add e N.ElseIf)) (next_branch (head_means text words e.element) l) ls
    unfolding plan_of act_plan add_plan next_branch
    plan_chain (level root es) ls e m a few k = absurd (never a)
    plan_chain (level (in_else p h b bs) es) ls e m a few k = absurd (never a)
    plan_chain (level (wrapper p w) es) ls e m a few k = absurd (never a)
    plan_chain (level (helper raw p bs h) es) ls e m a few k =
        let l : Level = level (helper raw p bs h) es in
        let v = low false l ls k in
        let r = roomy false l ls k in
        record {
          turn = built false l ls k _ _ _ _ _ _ _ _ _ _ _ _
              (opens.chain_step text words st _ lv _ x depth len count _ k.pos refl agree raw p bs h es ls (own_at st len _ _ _ v r) (but_at st len _ _ _ v r) k.fits e (made_at st len _ _ _ v r) m)
              (omega arith) (omega arith) refl;
          slot = omega (arith, deep_of false l ls k, k.cap);
          counted = (omega arith, omega arith);
        }

    plan_else : (l : Level) (ls : List Level) → takes_else (owner_of l) ≡ true → Kept n st lv x depth len count false l ls → Goal false (Turn.Act A.Else) (else_branch l) ls
    unfolding plan_of act_plan add_plan else_branch
    plan_else (level root es) ls a k = absurd (never a)
    plan_else (level (in_else p h b bs) es) ls a k = absurd (never a)
    plan_else (level (wrapper p w) es) ls a k = absurd (never a)
    plan_else (level (helper raw p bs h) es) ls a k =
        let l : Level = level (helper raw p bs h) es in
        let v = low false l ls k in
        let r = roomy false l ls k in
        record {
          turn = built false l ls k _ _ _ _ _ _ _ _ _ _ _ _
              (opens.else_step text words st _ lv _ x depth len count _ k.pos refl agree raw p bs h es ls (own_at st len _ _ _ v r) (but_at st len _ _ _ v r) k.fits a)
              (omega arith) k.cap refl;
          slot = omega (arith, deep_of false l ls k, k.cap);
          counted = (omega arith, omega arith);
        }

    -- ---- a block closes

    -- the plan of a body's end, by what it is
    plan_shuts : (l : Level) (ls : List Level) → x.inverted ≡ true → Turned n st lv (ref_chain_head x.block x.head) len count false (shut_plan (open_at st lv x depth len count)) l ls → Goal false (Turn.Act A.Close) l ls
    unfolding plan_of act_plan add_plan
    plan_shuts l ls q g =
        subst (λ (p : Plan). Turned n st lv (ref_chain_head x.block x.head) len count false p l ls)
        (sym (ap (λ (b : Bool). if b (shut_plan (open_at st lv x depth len count)) (template_plan (open_at st lv x depth len count) false true)) q)) g

    plan_seals : (l : Level) (ls : List Level) → x.inverted ≡ false → Turned n st lv (ref_chain_head x.block x.head) len count false (template_plan (open_at st lv x depth len count) false true) l ls
        → Goal false (Turn.Act A.Close) l ls
    unfolding plan_of act_plan add_plan
    plan_seals l ls q g =
        subst (λ (p : Plan). Turned n st lv (ref_chain_head x.block x.head) len count false p l ls)
        (sym (ap (λ (b : Bool). if b (shut_plan (open_at st lv x depth len count)) (template_plan (open_at st lv x depth len count) false true)) q)) g

    plan_close : (g : Stage) (l : Level) (ls : List Level) (end : Option ℕ) (pro line : Bool) → (owner_of l ≡ root → ⊥) → Kept n st lv x depth len count false l ls
        → Goal false (Turn.Act A.Close) (close_block (state g l ls end pro line)).top (close_block (state g l ls end pro line)).outer
    unfolding close_block close_level
    plan_close g (level root es) ls end pro line a k = absurd (a refl)
    plan_close g (level (helper raw p bs h) es) [] end pro line a k = absurd k.fits.rooted
    plan_close g (level (in_else p h b bs) es) [] end pro line a k = absurd k.fits.rooted
    plan_close g (level (wrapper p w) es) [] end pro line a k = absurd k.fits.rooted
    plan_close g (level (helper raw p bs h) es) (level o fs ∷ ls) end pro line a k =
        let l : Level = level (helper raw p bs h) es in
        let ms : List Level = level o fs ∷ ls in
        let v = low false l ms k in
        let r = roomy false l ms k in
        plan_seals _ _ k.fits.inner.1.3 (record {
          turn = built false l ms k _ _ _ _ _ _ _ _ _ _ _ _
              (closes.seal_step text words st _ lv _ x depth len count _ k.pos refl agree raw p bs h es o fs ls (own_at st len _ _ _ v r) (but_at st len _ _ _ v r) k.fits)
              (omega arith) k.cap refl;
          slot = omega (arith, deep_of false l ms k, k.cap);
          counted = (omega arith, omega arith);
        })
    plan_close g (level (wrapper p w) es) (level o fs ∷ ls) end pro line a k =
        let l : Level = level (wrapper p w) es in
        let ms : List Level = level o fs ∷ ls in
        let v = low false l ms k in
        let r = roomy false l ms k in
        plan_seals _ _ k.fits.inner.1.3 (record {
          turn = built false l ms k _ _ _ _ _ _ _ _ _ _ _ _
              (closes.wrap_step text words st _ lv _ x depth len count _ k.pos refl agree p w es o fs ls (own_at st len _ _ _ v r) (but_at st len _ _ _ v r) k.fits)
              (omega arith) k.cap refl;
          slot = omega (arith, deep_of false l ms k, k.cap);
          counted = (omega arith, omega arith);
        })
    plan_close g (level (in_else p h b bs) es) (level o fs ∷ ls) end pro line a k =
        let l : Level = level (in_else p h b bs) es in
        let ms : List Level = level o fs ∷ ls in
        let v = low false l ms k in
        let r = roomy false l ms k in
        plan_shuts _ _ k.fits.inner.1.3 (record {
          turn = built false l ms k _ _ _ _ _ _ _ _ _ _ _ _
              (closes.shut_step text words st _ lv _ x depth len count _ k.pos refl agree p h b bs es o fs ls (same_at st len _ _ _ v r refl) k.fits)
              (omega arith) k.cap refl;
          slot = omega (arith, deep_of false l ms k, k.cap);
          counted = (omega arith, omega arith);
        })

    plan_revert : (l : Level) (ls : List Level) → 0 < x.head → Kept n st lv x depth len count true l ls → Goal true Turn.Revert l ls
    unfolding plan_of
    plan_revert l ls a k =
        let v = low true l ls k in
        let r = roomy true l ls k in
        record {
          turn = built true l ls k _ _ _ _ _ _ _ _ _ _ _ _
              (closes.revert_step text words st _ lv _ x depth len count _ k.pos refl agree l ls a (own_at st len _ _ _ v r) (but_at st len _ _ _ v r) k.fits)
              (omega arith) (omega (arith, k.cap)) refl;
          slot = omega (arith, deep_of true l ls k, k.cap);
          counted = (omega (arith, deep_of true l ls k, k.fits.deep), refl);
        }

    plan_set : (l : Level) (ls : List Level) → x.head ≡ 0 → Kept n st lv x depth len count true l ls → Goal true Turn.Set l ls
    unfolding plan_of
    plan_set l ls a k =
        let v = low true l ls k in
        let r = roomy true l ls k in
        record {
          turn = built true l ls k _ _ _ _ _ _ _ _ _ _ _ _
              (closes.set_step text words st _ lv _ x depth len count _ k.pos refl agree l ls a (own_at st len _ _ _ v r) (but_at st len _ _ _ v r) k.fits)
              (omega arith) (omega (arith, k.cap)) refl;
          slot = omega (arith, deep_of true l ls k, k.cap);
          counted = (omega (arith, deep_of true l ls k, k.fits.deep), refl);
        }

    -- ---- in all

    -- the act of a span
    pub act_turned : (a : Act) (s : State) → Allowed text words a s → Kept n st lv x depth len count false s.top s.outer
        → Goal false (Turn.Act a) (act_effect text words a s).top (act_effect text words a s).outer
    unfolding open_block sum_open
    act_turned A.Skip s h k = plan_skip s.top s.outer k
    act_turned (A.Add e N.Leaf) s h k = plan_add s.top s.outer e h k
    act_turned (A.Add e (N.Block op)) s h k = plan_open s e op h k.fits.counted k
    act_turned (A.Add e N.ElseIf) s h k = plan_chain s.top s.outer e h.0 h.1 (omega (arith, h.2, k.fits.counted)) k
    act_turned A.Else s h k = plan_else s.top s.outer h k
    act_turned A.Close s h k = plan_close s.stage s.top s.outer s.end_pos s.omit_pro_ws s.trim_line_required h k

    -- a closing turn
    pub close_turned : (a : Act) (l : Level) (ls : List Level) → Kept n st lv x depth len count true l ls → Goal true (turn_of true x.head a) l ls
    unfolding turn_of
    close_turned a l ls k = by_head (eqb x.head 0) refl
      where
        by_head : (b : Bool) → eqb x.head 0 ≡ b → Goal true (if b Turn.Set Turn.Revert) l ls
        by_head true q = plan_set l ls (eqb-true x.head 0 q) k
        by_head false q = plan_revert l ls (omega (arith, eqb-false x.head 0 q)) k
