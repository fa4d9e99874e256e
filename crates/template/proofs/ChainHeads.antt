-- What the newest else-if node tells: by whether its number is 0. Assumes nothing.
use Rattle.std.specs.Prelude.{ℕ, ◌≡◌, Bool, true, false, Some, None, eqb}
use mathlib.Core.Path.{refl, sym, ◌∙◌}
use Rattle.support.specs.Bytes.{if}
use Rattle.template.specs.Turn.{head_of, ref_chain_head, turn_of}
use Rattle.template.specs.declared.visit.Act.{Act}
use Rattle.template.specs.declared.turn.Turn.{Turn}

-- no node
pub none_at : (n : ℕ) → head_of n ≡ None → eqb n 0 ≡ true
unfolding head_of
none_at n e = go (eqb n 0) refl
  where
    go : (b : Bool) → eqb n 0 ≡ b → eqb n 0 ≡ true
    go true q = q
    go false q = let x : if (eqb n 0) None (Some n) ≡ Some n = rw q in absurd_node (sym x ∙ e)
      where
        absurd_node : Some n ≡ None → eqb n 0 ≡ true
        absurd_node z = cc

-- a node
pub node_at : (n m : ℕ) → head_of n ≡ Some m → (eqb n 0 ≡ false) × (n ≡ m)
unfolding head_of
node_at n m e = go (eqb n 0) refl
  where
    go : (b : Bool) → eqb n 0 ≡ b → (eqb n 0 ≡ false) × (n ≡ m)
    go true q = let x : if (eqb n 0) None (Some n) ≡ None = rw q in let y = sym x ∙ e in (cc, cc)
    go false q = let x : if (eqb n 0) None (Some n) ≡ Some n = rw q in let y = sym x ∙ e in (q, cc)

pub owner_block : (b n : ℕ) → head_of n ≡ None → b ≡ ref_chain_head b n
unfolding ref_chain_head
owner_block b n e = rw (none_at n e)

pub owner_node : (b n m : ℕ) → head_of n ≡ Some m → m ≡ ref_chain_head b n
unfolding ref_chain_head
owner_node b n m e = let h = node_at n m e in rw h.0 (sym h.1)

pub turn_set : (n : ℕ) (a : Act) → head_of n ≡ None → Turn.Set ≡ turn_of true n a
unfolding turn_of
turn_set n a e = rw (none_at n e)

pub turn_revert : (n m : ℕ) (a : Act) → head_of n ≡ Some m → Turn.Revert ≡ turn_of true n a
unfolding turn_of
turn_revert n m a e = rw (node_at n m e).0
