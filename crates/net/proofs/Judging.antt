-- The judge's steps: what each test that was met or failed makes of the answer, and what one node more makes of the counts.
use Rattle.std.specs.Prelude.{Ok, Err}
use Prim.Native.Nat.{ℕ, ◌+◌, ◌≤◌, ◌<◌}
use mathlib.Core.Path.{◌≡◌, sym, ap, subst, ◌∙◌}
use mathlib.Core.Bool.{Bool, true, false, not}
use mathlib.Core.List.{List}
use native.Mathlib.Omega.{arith}
use lib.ListN.{length, get_or, set}
use lib.Dec.{eqb, ltb, leb}
use borrow.Author.Tests.{eqb-true, ltb-true, leb-true, not-true, not-false}
use Rattle.rules.specs.declared.Refusal.{Refusal}
use Rattle.rules.specs.declared.Refusal.TheVariants.{OutOfRange, WrongColumns}
use Rattle.rules.specs.Judged.{Judged}
use Rattle.rules.specs.declared.Node.{Node}
use Rattle.rules.specs.Figures.{most_places}
use Rattle.rules.specs.Net.{Net, Within, places, parent, node}
use Rattle.rules.specs.Judge.{columns_fit, limits_in_range, source_clear, admitted, node_judged, nodes_judged, childed, judged}
use Rattle.rules.proofs.Tests.{both_met}
use Rattle.rules.proofs.SoundSays.{NodeSound, node_sound}
use Rattle.screen.specs.Screened.{Passed}
use Rattle.net.specs.Counted.{Level, Tallied, NodesJudged, tree_judged}
use Rattle.screen.proofs.Tallying.{tallied_next}
pub use Rattle.screen.proofs.Tallying.{tallied_start}

-- what `admit` answers of node i
module _ {n : Net} {counts : List ℕ} {i : ℕ} {d : Node} {r : Judged} (t : Tallied n counts i) (is : d ≡ node n i) (e : r ≡ admitted n.limits d i (get_or n.kinds d.parent 0) (get_or counts d.parent 0) i) where
  pub admit_is : r ≡ node_judged n i i
  admit_is = e ∙ rw (is, t.each (parent n i))

  -- where it is Sound the parent's place can be counted in
  pub admit_sound : (Ok tt) ≡ r → i ≤ 1025 → (d.parent < 1025) × (get_or counts d.parent 0 < 8)
  admit_sound s h =
      let f : NodeSound n i = node_sound n i i (sym (s ∙ admit_is)) in
      let p : d.parent ≡ parent n i = ap (λ (x : Node). x.parent) is in
      (omega (arith, f.fits.lower), rw (p, t.each (parent n i)) f.fits.narrow)

  -- one child more
  pub tallied_after : (Ok tt) ≡ r → 1 ≤ i → i ≤ 1025 → {more : List ℕ} → more ≡ set counts d.parent (get_or counts d.parent 0 + 1) → Tallied n more (i + 1)
  tallied_after s lo hi q =
      let f : NodeSound n i = node_sound n i i (sym (s ∙ admit_is)) in
      rw (q, is) (tallied_next t lo (omega (arith, f.fits.lower)))

-- what the pass over the nodes answers where it stops, and where it comes to the end
pub nodes_refused : {n : Net} {r : Judged} (counts : List ℕ) (x : Refusal) → r ≡ Err x → r ≡ nodes_judged n → NodesJudged n counts r
nodes_refused counts x e is = record { is = is; counted = λ s. absurd (let z : ◌≡◌ {A = ℕ} 0 1 = cc in omega arith) }

pub nodes_sound : {n : Net} {counts : List ℕ} {i : ℕ} → Level n → Tallied n counts i → places n ≤ i → i ≤ places n → (Ok tt) ≡ nodes_judged n → NodesJudged n counts (Ok tt)
nodes_sound {n} {counts} {i} v t lo hi is = record { is = is; counted = λ s. let e : i ≡ places n = omega arith in subst (Tallied n counts) e t }

-- ---- the judge, test by test

-- what a call's answer says of the test that it is
pub passed : {r t : Bool} → r ≡ t → not r ≡ false → t ≡ true
passed {r} e q = sym e ∙ not-false r q

pub failed : {r t : Bool} → r ≡ t → not r ≡ true → t ≡ false
failed {r} e q = sym e ∙ not-true r q

-- columns that are level have a place for each node
pub within : {n : Net} → Level n → (i : ℕ) → i < places n → Within n i
within v i h = record { parents = h; wires = rw v.wires h; kinds = rw v.kinds h; pins = rw v.pins h; polarities = rw v.polarities h }

module _ (n : Net) where
  pub level : columns_fit n ≡ true → Level n
  level fit =
      let (w, f₁) = both_met (eqb (length n.wires) (places n)) _ fit in
      let (k, f₂) = both_met (eqb (length n.kinds) (places n)) _ f₁ in
      let (p, f₃) = both_met (eqb (length n.pins) (places n)) _ f₂ in
      let (q, f₄) = both_met (eqb (length n.polarities) (places n)) _ f₃ in
      let (some, few) = both_met (ltb 0 (places n)) (leb (places n) most_places) f₄ in
      record {
        some = ltb-true 0 (places n) some;
        few = leb-true (places n) most_places few;
        wires = eqb-true _ _ w;
        kinds = eqb-true _ _ k;
        pins = eqb-true _ _ p;
        polarities = eqb-true _ _ q;
      }

  pub judged_columns : columns_fit n ≡ false → Err WrongColumns ≡ judged n
  unfolding judged
  judged_columns a = rw a

  pub judged_limits : columns_fit n ≡ true → limits_in_range n.limits ≡ false → Err (OutOfRange 0) ≡ judged n
  unfolding judged
  judged_limits a b = rw (a, b)

  pub judged_source : columns_fit n ≡ true → limits_in_range n.limits ≡ true → source_clear n ≡ false → Err (OutOfRange 0) ≡ judged n
  unfolding judged
  judged_source a b c = rw (a, b, c)

  pub judged_rest : columns_fit n ≡ true → limits_in_range n.limits ≡ true → source_clear n ≡ true → {r : Judged} → r ≡ tree_judged n → r ≡ judged n
  unfolding judged tree_judged
  judged_rest a b c e = rw (a, b, c) e

  -- of the nodes and the childless: none is refused, or the first refusal
  pub tree_passed : {r : Bool} → Passed n r → r ≡ true → (Ok tt) ≡ tree_judged n
  unfolding tree_judged
  tree_passed p e = rw (p.nodes e, p.children e)

  pub tree_nodes : (r : Judged) (x : Refusal) → r ≡ Err x → r ≡ nodes_judged n → r ≡ tree_judged n
  unfolding tree_judged
  tree_nodes r x e is = rw (← is, e)

  pub tree_last : (r : Judged) → (Ok tt) ≡ nodes_judged n → r ≡ childed n → r ≡ tree_judged n
  unfolding tree_judged
  tree_last r e is = rw (← e) is
