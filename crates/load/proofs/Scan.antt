-- The loop that sums over the wires below a node: the sum so far, with what hangs past the last child found, is the load below the node.
use Prim.Native.Nat.{ℕ, zero, suc, ◌-◌, ◌<◌, ◌≤◌, ◌+◌}
use mathlib.Core.Path.{◌≡◌, refl, ap, subst, ◌∙◌}
use mathlib.Core.Bool.{Bool, true, false}
use mathlib.Core.List.{List}
use Rattle.std.specs.Prelude.{Option, Some, None}
use native.Mathlib.Omega.{arith}
use native.Mathlib.Decide.{ℕ_discrete}
use lib.Dec.{eqb}
use borrow.Author.Tests.{eq-eqb, ne_eqb}
use Rattle.rules.specs.Choose.{pick}
use Rattle.rules.specs.Net.{Net, places, parent, wire, kind, pin, polarity}
use Rattle.rules.specs.Tree.{Hanging, none, sink, branch, hung, hanging, under}
use Rattle.rules.specs.Load.{hands_up, handed_by, load_below, handed_up}
use Rattle.rules.specs.Sound.{SoundNet}
use Rattle.rules.proofs.Hanging.{hanging_skip, hanging_take, hanging_end}
use Rattle.load.specs.Next.{Searched, NoneFrom, NoneBetween, Next, NextIs}
use Rattle.load.proofs.Bound.{most_load, load_most}

-- no node from a up to j is a child of v
skip_to : (n : Net) (v a j : ℕ) → a ≤ j → j ≤ places n → ((k : ℕ) → a ≤ k → k < j → parent n k ≡ v → ⊥) → hanging n (places n - a) v ≡ hanging n (places n - j) v
skip_to n v a zero l w h = let e : a ≡ 0 = omega arith in rw e
skip_to n v a (suc j) l w h = elim (ℕ_discrete a (suc j)) [
  | yes e ↦ rw e
  | no ne ↦ skip_to n v a j (omega arith) (omega arith) (λ k g u. h k g (omega arith)) ∙ hanging_skip n j v (omega arith) (h j (omega arith) (omega arith))
]

module _ (n : Net) (offs : ℕ → List ℕ) where
  hung_by : (i : ℕ) (rest : Hanging) (z : Bool)
      → handed_by n.limits.pin offs (pick z (sink i (wire n i) (pin n i) (polarity n i) rest) (branch i (wire n i) (under n i) rest))
      ≡ hands_up n.limits.pin (wire n i) 0 (pick z (pin n i) (handed_by n.limits.pin offs (under n i))) (offs i) + handed_by n.limits.pin offs rest
  unfolding handed_by
  hung_by i rest true = refl
  hung_by i rest false = refl

  -- wire i before the rest: what it hands up, and what they do
  pub handed_hung : (i : ℕ) (rest : Hanging) → handed_by n.limits.pin offs (hung n i (under n i) rest) ≡ handed_up n offs i + handed_by n.limits.pin offs rest
  unfolding handed_up load_below
  handed_hung i rest = hung_by i rest (eqb (kind n i) 1)

  handed_none : handed_by n.limits.pin offs none ≡ 0
  unfolding handed_by
  handed_none = refl

-- at a sink: its pin (RULES 2.6)
pub load_sink : (n : Net) (offs : ℕ → List ℕ) (v : ℕ) → kind n v ≡ 1 → load_below n offs v ≡ pin n v
unfolding load_below
load_sink n offs v k = rw (eq-eqb (kind n v) 1 k)

pub record Scan (n : Net) (offs : ℕ → List ℕ) (v sum after : ℕ) : Type 0 where
  pub from : v ≤ after
  pub within : after < places n
  pub rest : sum + handed_by n.limits.pin offs (hanging n (places n - suc after) v) ≡ load_below n offs v

-- no child up to the place where the search begins
pub scan_start : {n : Net} (offs : ℕ → List ℕ) {v : ℕ} (after : ℕ) → v ≤ after → after < places n → NoneFrom n.parents v (suc v) (suc after) → (kind n v ≡ 1 → ⊥) → Scan n offs v 0 after
unfolding load_below
scan_start {n} offs {v} after l h f k = record {
  from = l;
  within = h;
  rest = rw (ne_eqb (kind n v) 1 k) (omega (arith, ap (handed_by n.limits.pin offs) (skip_to n v (suc v) (suc after) (omega arith) h f)));
}

-- the search may go on from any node
pub searched : (n : Net) {parents : List ℕ} → n.parents ≡ parents → SoundNet n → {v after : ℕ} → v < places n → after < places n → Searched parents v after
searched n column s h l = rw (← column) (record { ordered = record { some = s.some; few = s.few; lower = s.lower }; node = h; within = l })

-- what next_child answered, taken apart by its constructor, over the column that it looked at
module _ (n : Net) {parents : List ℕ} (column : n.parents ≡ parents) (v after : ℕ) (r : Option ℕ) (x : NextIs parents v after r) where
  pub found_child : (j : ℕ) → r ≡ Some j → Next n.parents v after j
  found_child j e = rw column (subst (NextIs parents v after) e x)

  pub found_none : r ≡ None → NoneBetween n.parents v after (places n)
  found_none e = rw column (subst (NextIs parents v after) e x)

module _ {n : Net} {offs : ℕ → List ℕ} {v sum after : ℕ} (s : Scan n offs v sum after) where
  scan_on : {j : ℕ} → Next n.parents v after j → handed_by n.limits.pin offs (hanging n (places n - suc after) v) ≡ handed_up n offs j + handed_by n.limits.pin offs (hanging n (places n - suc j) v)
  scan_on {j} x =
      ap (handed_by n.limits.pin offs)
      (skip_to n v (suc after) j x.later (omega (arith, x.within)) (λ k g u. x.first k g u) ∙ hanging_take n j v x.within x.mine)
      ∙ handed_hung n offs j (hanging n (places n - suc j) v)

  pub scan_next : {j : ℕ} → Next n.parents v after j → (r : ℕ) → r ≡ handed_up n offs j → Scan n offs v (sum + r) j
  scan_next {j} x r e = record { from = omega (arith, s.from, x.later); within = x.within; rest = omega (arith, s.rest, scan_on x) }

  pub scan_most : SoundNet n → sum ≤ most_load
  scan_most k = omega (arith, s.rest, load_most k offs v (omega (arith, s.from, s.within)))

  pub scan_over : NoneBetween n.parents v after (places n) → sum ≡ load_below n offs v
  scan_over none_left =
      let h : handed_by n.limits.pin offs (hanging n (places n - suc after) v) ≡ 0 =
      ap (handed_by n.limits.pin offs)
      (skip_to n v (suc after) (places n) s.within (omega arith) (λ k g u. none_left k g u) ∙ hanging_end n (places n) v (omega arith))
      ∙ handed_none n offs in
      omega (arith, s.rest)
