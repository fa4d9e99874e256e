-- By the ranges of the tag. Assumes nothing.
use native.Mathlib.Omega.{arith}
use mathlib.Core.Path.{refl}
use Rattle.template.proofs.ReasonLaws as laws
use Rattle.template.proofs.reason.nests.Goals as goal
use Rattle.template.proofs.reason.nests.Goals.{in_default-via-then-tag-lt5, in_default-via-else-tag-lt5+else-tag-lt9+else-tag-lt11+else-tag-lt15+else-tag-lt19+else-tag-lt21}

pub returns-then-waiting : goal.returns-then-waiting
returns-then-waiting c =
    let a = c.args in
    let is_waiting = c.is_waiting-waiting in
    laws.nests_template a.g a.o a.inverted a.tag a.gap is_waiting.ensures c.is_raw-raw.ensures
    c.in-1.is (rw c.if-waiting.true)

pub returns-else-waiting : goal.returns-else-waiting
returns-else-waiting c =
    let a = c.args in
    let is_waiting = c.is_waiting-waiting in
    laws.nests_template a.g a.o a.inverted a.tag a.gap is_waiting.ensures c.is_raw-raw.ensures
    c.in-1.is (rw c.if-waiting.false)

pub returns-in-2 : goal.returns-in-2
returns-in-2 c =
    let a = c.args in
    let is_filling = c.is_filling-filling in
    laws.nests_text a.g a.o a.inverted a.tag a.gap is_filling.ensures c.in-2.is

pub returns-then-waiting-2 : goal.returns-then-waiting-2
returns-then-waiting-2 c =
    let a = c.args in
    let is_waiting = c.is_waiting-waiting in
    laws.nests_raw_text a.g a.o a.inverted a.tag a.gap is_waiting.ensures c.is_raw-raw.ensures
    c.in-3.is (rw c.if-waiting-2.true)

pub returns-else-waiting-2 : goal.returns-else-waiting-2
returns-else-waiting-2 c =
    let a = c.args in
    let is_waiting = c.is_waiting-waiting in
    laws.nests_raw_text a.g a.o a.inverted a.tag a.gap is_waiting.ensures c.is_raw-raw.ensures
    c.in-3.is (rw c.if-waiting-2.false)

pub returns-in-5-to-8 : goal.returns-in-5-to-8
returns-in-5-to-8 c =
    let a = c.args in
    let is_filling = c.is_filling-filling in
    laws.nests_start a.g a.o a.inverted a.tag a.gap is_filling.ensures (omega arith) (omega arith)

pub returns-then-filling : goal.returns-then-filling
returns-then-filling c =
    let a = c.args in
    let is_filling = c.is_filling-filling in
    laws.nests_else a.g a.o a.inverted a.tag a.gap is_filling.ensures c.takes_else.ensures (omega arith) (omega arith)
    (rw c.if-filling.true)

pub returns-else-filling : goal.returns-else-filling
returns-else-filling c =
    let a = c.args in
    let is_filling = c.is_filling-filling in
    laws.nests_else_no a.g a.o a.inverted a.tag a.gap is_filling.ensures c.if-filling.false (omega arith) (omega arith)

pub returns-in-11-to-14 : goal.returns-in-11-to-14
returns-in-11-to-14 c =
    let a = c.args in
    let is_filling = c.is_filling-filling in
    laws.nests_leaf a.g a.o a.inverted a.tag a.gap is_filling.ensures (omega arith) (omega arith)

pub returns-then-is_of_kind : goal.returns-then-is_of_kind
returns-then-is_of_kind c =
    let a = c.args in
    let is_raw = c.is_raw-raw in
    laws.nests_end a.g a.o a.inverted a.tag a.gap c.is_of_kind.ensures is_raw.ensures c.may_end.ensures
    (omega arith) (omega arith) (rw c.if-is_of_kind.true)

pub returns-else-is_of_kind : goal.returns-else-is_of_kind
returns-else-is_of_kind c =
    let a = c.args in
    let is_raw = c.is_raw-raw in
    laws.nests_end a.g a.o a.inverted a.tag a.gap c.is_of_kind.ensures is_raw.ensures refl (omega arith) (omega arith)
    (rw c.if-is_of_kind.false)

pub returns-in-19-to-20 : goal.returns-in-19-to-20
returns-in-19-to-20 c =
    let a = c.args in
    let is_filling = c.is_filling-filling in
    laws.nests_comment a.g a.o a.inverted a.tag a.gap is_filling.ensures (omega arith) (omega arith)

pub returns-then-filling-2 : goal.returns-then-filling-2
returns-then-filling-2 c =
    let a = c.args in
    let is_filling = c.is_filling-filling in
    elim c.in_default.branch [
      | in_default-via-then-tag-lt5 w ↦ laws.nests_low a.g a.o a.inverted a.tag a.gap is_filling.ensures (omega arith) (λ h. omega arith) (λ h. omega arith) (λ h. omega arith) (rw c.if-filling-2.true)
      | in_default-via-else-tag-lt5+else-tag-lt9+else-tag-lt11+else-tag-lt15+else-tag-lt19+else-tag-lt21 w ↦ laws.nests_high a.g a.o a.inverted a.tag a.gap is_filling.ensures (omega arith) (rw c.if-filling-2.true)
    ]

pub returns-else-filling-2 : goal.returns-else-filling-2
returns-else-filling-2 c =
    let a = c.args in
    let is_filling = c.is_filling-filling in
    elim c.in_default.branch [
      | in_default-via-then-tag-lt5 w ↦ laws.nests_low a.g a.o a.inverted a.tag a.gap is_filling.ensures (omega arith) (λ h. omega arith) (λ h. omega arith) (λ h. omega arith) (rw c.if-filling-2.false)
      | in_default-via-else-tag-lt5+else-tag-lt9+else-tag-lt11+else-tag-lt15+else-tag-lt19+else-tag-lt21 w ↦ laws.nests_high a.g a.o a.inverted a.tag a.gap is_filling.ensures (omega arith) (rw c.if-filling-2.false)
    ]
