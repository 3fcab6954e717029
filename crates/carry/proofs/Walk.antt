-- The walk of 13 over the nodes: what is left decides the answer.
use Rattle.std.specs.Prelude.{Ok, Err}
use Prim.Native.Nat.{ℕ, ◌+◌, ◌-◌, ◌≤◌, ◌<◌}
use mathlib.Core.Path.{◌≡◌, refl, sym, ◌∙◌}
use mathlib.Core.Bool.{Bool, true, false}
use native.Mathlib.Omega.{arith}
use Rattle.rules.specs.declared.Node.{Node}
use Rattle.rules.specs.declared.Refusal.TheVariants.{NotEased}
use Rattle.rules.specs.Net.{Net, places, node}
use Rattle.rules.specs.Judge.{unless}
use Rattle.rules.specs.Ease.{node_eases, nodes_ease}
use Rattle.rules.proofs.Each.{Going, going_stop, going_next, going_end}

-- the loop has come to node i
pub record Easing (n m : Net) (i : ℕ) : Type 0 where
  pub going : Going (λ j. unless (node_eases (node n j) (node m j)) (NotEased j)) (places n - 1) 1 i

module _ {n m : Net} {i : ℕ} (g : Easing n m i) where
  module _ (h : i < places n) (a b : Node) (ea : a ≡ node n i) (eb : b ≡ node m i) (z : Bool) (ez : z ≡ node_eases a b) where
    tested : node_eases (node n i) (node m i) ≡ z
    tested = sym (ez ∙ rw (ea, eb))

    pub easing_next : z ≡ true → Easing n m (i + 1)
    easing_next t = record { going = going_next g.going (omega arith) (rw (tested, t)) }

    pub easing_stop : z ≡ false → Err (NotEased i) ≡ nodes_ease n m
    easing_stop t = going_stop g.going (omega arith) (Err (NotEased i)) (NotEased i) refl (rw (tested, t))

  pub easing_end : 1 ≤ places n → places n ≤ i → Ok tt ≡ nodes_ease n m
  easing_end o h = going_end g.going (omega arith)
