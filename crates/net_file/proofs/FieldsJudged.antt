-- Nodes judged field by field are judged as in columns: that a node is admitted says nothing of the place.
use Rattle.std.specs.Prelude.{Ok}
use Prim.Native.Nat.{ℕ, zero, suc, ◌-◌, ◌≤◌}
use native.Mathlib.Omega.{arith}
use mathlib.Core.Path.{◌≡◌, refl}
use mathlib.Core.Bool.{true}
use lib.ListN.{length}
use lib.Dec.{leb}
use Rattle.rules.specs.declared.Limits.{Limits}
use Rattle.rules.specs.declared.Node.{Node}
use Rattle.rules.specs.declared.Refusal.TheVariants.{OutOfRange, WrongParent, BytesAfterEnd}
use Rattle.rules.specs.Figures.{most_nodes}
use Rattle.rules.specs.Net.{Net, parent, kind, node}
use Rattle.rules.specs.Judge.{unless, judge_each, node_in_range, parent_fits, admitted, node_judged, children, childed}
use Rattle.rules.proofs.Tests.{never, unless_met, then_met}
use Rattle.rules.proofs.Each.{each_met}
use Rattle.rules.proofs.SoundSays.{NodeSound, node_sound}
use Rattle.net_file.specs.NetFile.{Fields, node_at, end_at, wrong, nodes_of, fields_judged}

pub admitted_fits : (l : Limits) (d : Node) (i k c place : ℕ) → admitted l d i k c place ≡ Ok tt → (node_in_range l d ≡ true) × (parent_fits i d.parent k c ≡ true)
admitted_fits l d i k c place e =
    let (r, f) = then_met (unless (node_in_range l d) (OutOfRange place)) _ e in
    (unless_met _ (OutOfRange place) r, unless_met _ (WrongParent place) f)

pub admitted_anywhere : (l : Limits) (d : Node) (i k c place place' : ℕ) → admitted l d i k c place ≡ Ok tt → admitted l d i k c place' ≡ Ok tt
admitted_anywhere l d i k c place place' e = let (r, f) = admitted_fits l d i k c place e in rw (r, f)

pub columns_judged_lem : (n : Net) (size i : ℕ) (fields : Fields) → fields_judged n size i fields ≡ Ok tt → (judge_each (λ j. node_judged n j j) (length (nodes_of fields)) i ≡ Ok tt) × (childed n ≡ Ok tt)
unfolding fields_judged nodes_of judge_each
columns_judged_lem n size i (node_at at d more) e =
    let (here, rest) = then_met (node_judged n i at) _ e in
    let (nodes, c) = columns_judged_lem n size (suc i) more rest in
    let ok : node_judged n i i ≡ Ok tt = admitted_anywhere n.limits (node n i) i (kind n (parent n i)) (children n (i - 1) (parent n i)) at i here in
    (rw ok nodes, c)
columns_judged_lem n size i (end_at next) e = (refl, (then_met (unless (leb size next) (BytesAfterEnd next)) (childed n) e).1)
columns_judged_lem n size i (wrong r) e = never (cc)

few_nodes : (n : Net) (m : ℕ) → judge_each (λ j. node_judged n j j) m 1 ≡ Ok tt → m ≤ most_nodes
few_nodes n zero e = omega arith
few_nodes n (suc m) e =
    let h : NodeSound n (suc m) = node_sound n (suc m) (suc m) (each_met (λ j. node_judged n j j) (suc m) 1 e (suc m) (omega arith) (omega arith)) in
    h.fits.few

pub fields_few : (n : Net) (size : ℕ) (fields : Fields) → fields_judged n size 1 fields ≡ Ok tt → length (nodes_of fields) ≤ most_nodes
fields_few n size fields e = few_nodes n (length (nodes_of fields)) (columns_judged_lem n size 1 fields e).0
