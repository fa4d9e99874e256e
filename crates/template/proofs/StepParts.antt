-- What a step is made of, arm by arm of the code: each answer is the one that its tag's kind has (TagKinds). Assumes nothing.
use Prim.Native.Nat.{ℕ, suc, ◌≤◌, ◌<◌}
use native.Mathlib.Omega.{arith}
use mathlib.Core.Path.{◌≡◌, refl, sym, ap, ◌∙◌}
use mathlib.Core.List.{[], ◌∷◌}
use mathlib.Core.Bool.{Bool, true, false, ◌&&◌, ◌||◌, not}
use lib.Dec.{ltb}
use lib.ListN.{length, take, drop}
use borrow.Author.Tests.{ltb-true, ltb-false, not-true, not-false}
use Rattle.support.specs.Bytes.{Bytes, if, is_empty}
use Rattle.support.specs.TextRules.{starts_with_empty_line, ends_with_empty_line}
use Rattle.json_path.specs.Span.{Span}
use Rattle.template.specs.Kind as K
use Rattle.template.specs.Kind.{Tag, Kind, plain, tagged, kinds, kind_of}
use Rattle.template.specs.Step.{after_gap, standalone}
use Rattle.template.specs.Visit.{stage_means}
use Rattle.template.specs.Visiting.{cut_of, line_of, stage_behind, helper_of, decorator_of, element_for, begin_of, act_for, indent_of, CutIs, LineIs, StageIs, ElementIs, BeginIs, ActIs, IndentIs}
use Rattle.template.specs.declared.element.HelperTemplate.{HelperTemplate}
use Rattle.template.specs.declared.element.DecoratorTemplate.{DecoratorTemplate}
use Rattle.template.specs.declared.element.TemplateElement.{TemplateElement}
use Rattle.template.specs.declared.element.TemplateElement.TheVariants as E
use Rattle.template.specs.declared.element.Element.{Element}
use Rattle.template.specs.declared.frame.Opened.{Opened}
use Rattle.template.specs.declared.frame.Opened.TheVariants as O
use Rattle.template.specs.declared.frame.Stage.{Stage}
use Rattle.template.specs.declared.frame.Stage.TheVariants as G
use Rattle.template.specs.declared.tag.TagExpression.{TagExpression}
use Rattle.template.specs.declared.visit.Act.{Act}
use Rattle.template.specs.declared.visit.Act.TheVariants as A
use Rattle.template.specs.declared.visit.Added.TheVariants as N
use Rattle.template.proofs.TagKinds.{either, or_later, kind_low, kind_leaf, kind_end, kind_late, kind_upto, kind_behind, Holds, tag_holds, holds_at}

-- ---- the stage behind a gap

pub after_gap_lem : (gap : Bool) {g h : Stage} → not gap ≡ false → g ≡ h → after_gap (stage_means h) ≡ if gap (after_gap (stage_means g)) (stage_means g)
after_gap_lem gap e f = rw (not-false gap e) (ap (λ z. after_gap (stage_means z)) (sym f))

pub no_gap : (gap : Bool) (g : Stage) → not gap ≡ true → stage_means g ≡ if gap (after_gap (stage_means g)) (stage_means g)
no_gap gap g e = rw (not-true gap e)

-- ---- the standalone test

module _ (c : Bytes) (p : Bool) {a : Bool} (e : a ≡ starts_with_empty_line c) where
  pub trailing_line : a ≡ true → true ≡ (starts_with_empty_line c || (is_empty c && not p))
  trailing_line f = rw (← e, f)

  pub trailing_none : a ≡ false → length c ≡ 0 → not p ≡ (starts_with_empty_line c || (is_empty c && not p))
  trailing_none f n = rw (← e, f) (ap (λ b. b && not p) (sym (empty c n)))
    where
      empty : (c : Bytes) → length c ≡ 0 → is_empty c ≡ true
      empty [] n = refl
      empty (b ∷ c) n = absurd (omega arith)

  pub trailing_more : a ≡ false → (length c ≡ 0 → ⊥) → false ≡ (starts_with_empty_line c || (is_empty c && not p))
  trailing_more f n = rw (← e, f) (ap (λ b. b && not p) (sym (more c n)))
    where
      more : (c : Bytes) → (length c ≡ 0 → ⊥) → is_empty c ≡ false
      more [] n = absurd (n refl)
      more (b ∷ c) n = refl

module _ (text : Bytes) (s : Span) (p : Bool) {a : Bool} (ahead : a ≡ (starts_with_empty_line (drop s.end text) || (is_empty (drop s.end text) && not p))) where
  pub standalone_no : not a ≡ true → false ≡ standalone text p s
  unfolding standalone
  standalone_no g = rw (← ahead, not-true a g)

  pub standalone_by : {b : Bool} → not a ≡ false → b ≡ ends_with_empty_line (take s.start text) → b ≡ standalone text p s
  unfolding standalone
  standalone_by g i = rw (← ahead, not-false a g) i

-- ---- by the tag

module _ (t : ℕ) (alone prevent : Bool) where
  abbrev Cut : Bool → Tag → Type 0
  Cut r k = r ≡ cut_of k alone prevent

  cut_is : {r : Bool} → Holds (Cut r) (kind_of t) → CutIs t alone prevent r
  cut_is {r} h = record { means = tag_holds (Cut r) t h }

  pub cut_partial : {r : Bool} → t ≡ 14 → r ≡ (alone && not prevent) → CutIs t alone prevent r
  unfolding kinds
  cut_partial {r} e q = cut_is (holds_at (Cut r) t 14 K.partial_expression refl e q)

  pub cut_none : 11 ≤ t → t ≤ 12 → CutIs t alone prevent false
  unfolding kinds
  cut_none l u = cut_is (either (λ n. Holds (Cut false) (kind_of n)) t 11 l refl (λ l. either (λ n. Holds (Cut false) (kind_of n)) t 12 l refl (λ l. absurd (omega arith))))

  pub cut_low : t < 11 → CutIs t alone prevent alone
  cut_low h = cut_is (kind_upto (Holds (Cut alone)) t h (λ k. tt) (λ k. refl) refl refl)

  pub cut_high : 12 < t → (t ≡ 14 → ⊥) → CutIs t alone prevent alone
  unfolding kinds
  cut_high l n = cut_is (either P t 13 l refl (λ l. either P t 15 (omega arith) refl (λ l. either P t 16 l refl (λ l. either P t 17 l refl
      (λ l. either P t 18 l refl (λ l. kind_late (Holds (Cut alone)) t l (λ k. tt)))))))
    where
      P : ℕ → Type 0
      P n = Holds (Cut alone) (kind_of n)

module _ (t : ℕ) (alone line : Bool) where
  abbrev Line : Bool → Tag → Type 0
  Line r k = r ≡ line_of k alone line

  line_is : {r : Bool} → Holds (Line r) (kind_of t) → LineIs t alone line r
  line_is {r} h = record { means = tag_holds (Line r) t h }

  pub line_kept : 11 ≤ t → t ≤ 12 → LineIs t alone line line
  unfolding kinds
  line_kept l u = line_is (either (λ n. Holds (Line line) (kind_of n)) t 11 l refl (λ l. either (λ n. Holds (Line line) (kind_of n)) t 12 l refl (λ l. absurd (omega arith))))

  pub line_low : t < 11 → LineIs t alone line alone
  line_low h = line_is (kind_upto (Holds (Line alone)) t h (λ k. tt) (λ k. refl) refl refl)

  pub line_high : 12 < t → LineIs t alone line alone
  unfolding kinds
  line_high l = line_is (either (λ n. Holds (Line alone) (kind_of n)) t 13 l refl (λ l. either (λ n. Holds (Line alone) (kind_of n)) t 14 l refl
      (λ l. ends (ltb t 19) refl l)))
    where
      ends : (b : Bool) → ltb t 19 ≡ b → 15 ≤ t → Holds (Line alone) (kind_of t)
      ends true h l = let u = ltb-true t 19 h in kind_end (Holds (Line alone)) t l (omega arith) (λ k. refl)
      ends false h l = kind_late (Holds (Line alone)) t (ltb-false t 19 h) (λ k. tt)

module _ (t : ℕ) where
  abbrev Stands : Stage → Tag → Type 0
  Stands g k = stage_means g ≡ stage_behind k

  stage_is : {g : Stage} → Holds (Stands g) (kind_of t) → StageIs t g
  stage_is {g} h = record { means = tag_holds (Stands g) t h }

  pub stage_waits : 5 ≤ t → t ≤ 10 → StageIs t G.Waiting
  stage_waits l u = stage_is (kind_upto (Holds (Stands G.Waiting)) t (omega arith) (λ k. tt) (λ k. refl) refl refl)

  pub stage_low : t < 5 → StageIs t G.Filling
  stage_low h = stage_is (kind_low (Holds (Stands G.Filling)) t h (λ k. tt))

  pub stage_high : 10 < t → StageIs t G.Filling
  stage_high l = stage_is (kind_behind (Holds (Stands G.Filling)) t l refl refl refl refl (λ k. refl) (λ k. tt))

-- ---- the element and the act

pub below : {t n : ℕ} → t < suc n → t ≤ n
below h = omega arith

module _ (s : Span) (x : TagExpression) (mark ind : Bool) where
  abbrev Elements : TemplateElement → Tag → Type 0
  Elements r k = r ≡ element_for k s x mark ind

  element_is : (r : TemplateElement) → Holds (Elements r) (kind_of s.tag) → ElementIs s x mark ind r
  element_is r h = record { means = tag_holds (Elements r) s.tag h }

  element_at_lem : (n : ℕ) (j : Tag) → kind_of n ≡ tagged j → s.tag ≡ n → {r : TemplateElement} → r ≡ element_for j s x mark ind → ElementIs s x mark ind r
  element_at_lem n j e f {r} q = element_is r (holds_at (Elements r) s.tag n j e f q)

  module _ {h : HelperTemplate} (a : h ≡ helper_of x s mark) where
    pub element_block : 5 ≤ s.tag → s.tag ≤ 6 → ElementIs s x mark ind (E.HelperBlock h)
    unfolding kinds
    element_block l u = element_is (E.HelperBlock h) (either P s.tag 5 l (ap E.HelperBlock a) (λ l. either P s.tag 6 l (ap E.HelperBlock a) (λ l. absurd (omega arith))))
      where
        P : ℕ → Type 0
        P n = Holds (Elements (E.HelperBlock h)) (kind_of n)

    pub element_10 : s.tag ≡ 10 → ElementIs s x mark ind (E.HelperBlock h)
    unfolding kinds
    element_10 f = element_at_lem 10 K.invert_chain_tag refl f (ap E.HelperBlock a)

    pub element_11 : s.tag ≡ 11 → ElementIs s x mark ind (E.Expression h)
    unfolding kinds
    element_11 f = element_at_lem 11 K.expression refl f (ap E.Expression a)

    pub element_12 : s.tag ≡ 12 → ElementIs s x mark ind (E.HtmlExpression h)
    unfolding kinds
    element_12 f = element_at_lem 12 K.html_expression refl f (ap E.HtmlExpression a)

  module _ {d : DecoratorTemplate} (a : d ≡ decorator_of x s mark ind) where
    pub element_7 : s.tag ≡ 7 → ElementIs s x mark ind (E.DecoratorBlock d)
    unfolding kinds
    element_7 f = element_at_lem 7 (K.block_start K.decorator_block) refl f (ap E.DecoratorBlock a)

    pub element_8 : s.tag ≡ 8 → ElementIs s x mark ind (E.PartialBlock d)
    unfolding kinds
    element_8 f = element_at_lem 8 (K.block_start K.partial_block) refl f (ap E.PartialBlock a)

    pub element_13 : s.tag ≡ 13 → ElementIs s x mark ind (E.DecoratorExpression d)
    unfolding kinds
    element_13 f = element_at_lem 13 K.decorator_expression refl f (ap E.DecoratorExpression a)

    pub element_14 : s.tag ≡ 14 → ElementIs s x mark ind (E.PartialExpression d)
    unfolding kinds
    element_14 f = element_at_lem 14 K.partial_expression refl f (ap E.PartialExpression a)

  pub element_low : s.tag < 5 → ElementIs s x mark ind E.Empty
  element_low h = element_is E.Empty (kind_low (Holds (Elements E.Empty)) s.tag h (λ k. tt))

  -- 9, and behind 14
  late : (b : Bool) → ltb s.tag 19 ≡ b → 15 ≤ s.tag → Holds (Elements E.Empty) (kind_of s.tag)
  late true h l = let u = ltb-true s.tag 19 h in kind_end (Holds (Elements E.Empty)) s.tag l (omega arith) (λ k. refl)
  late false h l = kind_late (Holds (Elements E.Empty)) s.tag (ltb-false s.tag 19 h) (λ k. tt)

  pub element_other : 7 ≤ s.tag → (s.tag ≡ 7 → ⊥) → (s.tag ≡ 8 → ⊥) → (s.tag ≡ 10 → ⊥) → (s.tag ≡ 11 → ⊥) → (s.tag ≡ 12 → ⊥) → (s.tag ≡ 13 → ⊥) → (s.tag ≡ 14 → ⊥)
      → ElementIs s x mark ind E.Empty
  unfolding kinds
  element_other l a b c d e f g = element_is E.Empty (or_later N s.tag 7 l (λ z. absurd (a z)) (λ l. or_later N s.tag 8 l (λ z. absurd (b z)) (λ l. or_later N s.tag 9 l (λ z. nine z) (λ l. or_later N s.tag 10 l (λ z. absurd (c z))
      (λ l. or_later N s.tag 11 l (λ z. absurd (d z)) (λ l. or_later N s.tag 12 l (λ z. absurd (e z)) (λ l. or_later N s.tag 13 l (λ z. absurd (f z)) (λ l. or_later N s.tag 14 l (λ z. absurd (g z)) (λ l. late (ltb s.tag 19) refl l)))))))))
    where
      N : Type 0
      N = Holds (Elements E.Empty) (kind_of s.tag)

      nine : s.tag ≡ 9 → Holds (Elements E.Empty) (kind_of s.tag)
      nine z = holds_at (Elements E.Empty) s.tag 9 K.invert_tag refl z refl

pub last_start : {t : ℕ} → 5 ≤ t → t ≤ 8 → (t ≡ 5 → ⊥) → (t ≡ 6 → ⊥) → (t ≡ 7 → ⊥) → t ≡ 8
last_start l u a b c = omega arith

pub past_10 : {t : ℕ} → 9 ≤ t → (t ≡ 9 → ⊥) → (t ≡ 10 → ⊥) → 11 ≤ t
past_10 l a b = omega arith

module _ (t : ℕ) where
  begin_at : (n : ℕ) (j : K.BlockKind) → kind_of n ≡ tagged (K.block_start j) → t ≡ n → BeginIs t (begin_of j)
  begin_at n j e f = record {
    means = λ k u.
        let q : K.block_start j ≡ K.block_start k = (let z : tagged (K.block_start j) ≡ tagged (K.block_start k) = sym e ∙ ap kind_of (sym f) ∙ u in cc) in
        let i : j ≡ k = cc in ap begin_of i;
  }

  pub begin_5 : t ≡ 5 → BeginIs t O.Helper
  unfolding kinds
  begin_5 f = begin_at 5 K.helper_block refl f

  pub begin_6 : t ≡ 6 → BeginIs t O.Raw
  unfolding kinds
  begin_6 f = begin_at 6 K.raw_block refl f

  pub begin_7 : t ≡ 7 → BeginIs t O.Decorator
  unfolding kinds
  begin_7 f = begin_at 7 K.decorator_block refl f

  pub begin_8 : t ≡ 8 → BeginIs t O.Partial
  unfolding kinds
  begin_8 f = begin_at 8 K.partial_block refl f

  module _ (e : Element) where
    abbrev Acts : Act → Tag → Type 0
    Acts r k = r ≡ act_for k e

    act_is : (r : Act) → Holds (Acts r) (kind_of t) → ActIs t e r
    act_is r h = record { means = tag_holds (Acts r) t h }

    pub act_begin : {o : Opened} → 5 ≤ t → t ≤ 8 → BeginIs t o → ActIs t e (A.Add e (N.Block o))
    unfolding kinds
    act_begin {o} l u b = act_is (A.Add e (N.Block o)) (either P t 5 l (λ c. ap (λ o. A.Add e (N.Block o)) (c.means K.helper_block refl)) (λ l. either P t 6 l (λ c. ap (λ o. A.Add e (N.Block o)) (c.means K.raw_block refl))
        (λ l. either P t 7 l (λ c. ap (λ o. A.Add e (N.Block o)) (c.means K.decorator_block refl)) (λ l. either P t 8 l (λ c. ap (λ o. A.Add e (N.Block o)) (c.means K.partial_block refl)) (λ l. absurd (omega arith))))) b)
      where
        P : ℕ → Type 0
        P n = BeginIs n o → Holds (Acts (A.Add e (N.Block o))) (kind_of n)

    pub act_9 : t ≡ 9 → ActIs t e A.Else
    unfolding kinds
    act_9 f = act_is A.Else (holds_at (Acts A.Else) t 9 K.invert_tag refl f refl)

    pub act_10 : t ≡ 10 → ActIs t e (A.Add e N.ElseIf)
    unfolding kinds
    act_10 f = act_is (A.Add e N.ElseIf) (holds_at (Acts (A.Add e N.ElseIf)) t 10 K.invert_chain_tag refl f refl)

    pub act_add : 11 ≤ t → t ≤ 14 → ActIs t e (A.Add e N.Leaf)
    act_add l u = act_is (A.Add e N.Leaf) (kind_leaf (Holds (Acts (A.Add e N.Leaf))) t l u refl refl refl refl)

    pub act_end : 15 ≤ t → t ≤ 18 → ActIs t e A.Close
    act_end l u = act_is A.Close (kind_end (Holds (Acts A.Close)) t l u (λ k. refl))

module _ (t : ℕ) (prevent left : Bool) where
  abbrev Indents : Bool → Tag → Type 0
  Indents r k = r ≡ indent_of k prevent left

  indent_is : {r : Bool} → Holds (Indents r) (kind_of t) → IndentIs t prevent left r
  indent_is {r} h = record { means = tag_holds (Indents r) t h }

  pub indent_14 : {r : Bool} → t ≡ 14 → r ≡ (not prevent && not left) → IndentIs t prevent left r
  unfolding kinds
  indent_14 {r} f q = indent_is (holds_at (Indents r) t 14 K.partial_expression refl f q)

  pub indent_none : (t ≡ 14 → ⊥) → IndentIs t prevent left false
  unfolding kinds
  indent_none n = indent_is (go (ltb t 11) refl)
    where
      N : Kind → Type 0
      N = Holds (Indents false)

      end : (b : Bool) → ltb t 19 ≡ b → 15 ≤ t → N (kind_of t)
      end true h l = let u = ltb-true t 19 h in kind_end N t l (omega arith) (λ k. refl)
      end false h l = kind_late N t (ltb-false t 19 h) (λ k. tt)

      go : (b : Bool) → ltb t 11 ≡ b → N (kind_of t)
      go true h = kind_upto N t (ltb-true t 11 h) (λ k. tt) (λ k. refl) refl refl
      go false h = either (λ n. N (kind_of n)) t 11 (ltb-false t 11 h) refl (λ l. either (λ n. N (kind_of n)) t 12 l refl (λ l. either (λ n. N (kind_of n)) t 13 l refl
          (λ l. end (ltb t 19) refl (omega arith))))

-- ---- a skipped span

pub skipped_low : (t : ℕ) → t < 5 → (t ≡ 1 → ⊥) → (t ≡ 2 → ⊥) → (t ≡ 3 → ⊥) → (t ≡ 4 → ⊥) → kind_of t ≡ plain K.skipped
unfolding kinds
skipped_low t u a b c d = let z : t ≡ 0 = omega arith in ap kind_of z
