-- The definitions' one sense for all sinks and the model's polarity at each point are the same: a point's polarity is the source's, turned by the entries on the way.
use Prim.Native.Nat.{ℕ, zero, suc, ◌+◌, ◌*◌, ◌%◌, ◌≤◌, ◌<◌}
use mathlib.Core.Path.{◌≡◌, refl, sym, ◌∙◌}
use mathlib.Core.List.{List}
use lib.ListN.{length}
use native.Mathlib.Omega.{arith}
use native.Mathlib.Decide.{ℕ_discrete}
use borrow.Author.Tests.{ne_eqb}
use Rattle.rules.specs.Net.{Net, places, parent, kind, polarity}
use Rattle.rules.specs.Tree.{Hanging, none, sink, branch, tree}
use Rattle.rules.specs.Legal.{on_the_way, inverters, OneSense}
use Rattle.rules.specs.Sound.{SoundNet}
use Rattle.frontier.specs.Cell.{Kind, buf, inv, kind_of, cell_of, turn}
use Rattle.frontier.specs.Plan.{plan_of, Par}
use Rattle.rules.proofs.Counting.{Every}
use Rattle.frontier.proofs.Hangs.{WireAt, Hangs, tree_hangs, every_from, every_wire}

turn_turn : (κ : Kind) (p a b : ℕ) → turn κ (turn κ p a) b ≡ turn κ p (b + a)
turn_turn buf p a b = refl
turn_turn inv p a b = omega arith

-- ---- the sense that the source needs is its polarity
sense_is : (ρ p x s : ℕ) → ρ ≤ 1 → s ≤ ρ → p ≤ 1 → turn (kind_of ρ) p x ≡ s → (ρ * x + s) % 2 ≡ p
sense_is zero p x s h g q e = omega arith
sense_is (suc zero) p x s h g q e = omega arith
sense_is (suc (suc ρ)) p x s h g q e = absurd (omega arith)

polarity_is : (ρ p x s : ℕ) → ρ ≤ 1 → s ≤ ρ → (ρ * x + s) % 2 ≡ p → turn (kind_of ρ) (p % 2) x ≡ s
polarity_is zero p x s h g e = omega arith
polarity_is (suc zero) p x s h g e = omega arith
polarity_is (suc (suc ρ)) p x s h g e = absurd (omega arith)

module _ {n : Net} (s : SoundNet n) (offs : ℕ → List ℕ) where
  -- ---- the way to a node goes over its parent
  way_source : (k : ℕ) → on_the_way n offs k 0 ≡ 0
  unfolding on_the_way
  way_source zero = refl
  way_source (suc k) = refl

  way_step : (k i : ℕ) → 1 ≤ i → on_the_way n offs (suc k) i ≡ length (offs i) + on_the_way n offs k (parent n i)
  unfolding on_the_way
  way_step k i h = rw (ne_eqb i 0 (λ e. omega arith))

  way_enough : (k l i : ℕ) → i < places n → i ≤ k → i ≤ l → on_the_way n offs k i ≡ on_the_way n offs l i
  way_enough zero l i h a b = let e : i ≡ 0 = omega arith in rw e (way_source 0 ∙ sym (way_source l))
  way_enough (suc k) zero i h a b = let e : i ≡ 0 = omega arith in rw e (way_source (suc k) ∙ sym (way_source 0))
  way_enough (suc k) (suc l) i h a b = elim (ℕ_discrete i 0) [
    | yes e ↦ rw e (way_source (suc k) ∙ sym (way_source (suc l)))
    | no ne ↦
        let up : parent n i < i = s.lower i (omega arith) h in
        omega (arith, way_step k i (omega arith), way_step l i (omega arith), way_enough k l (parent n i) (omega arith) (omega arith) (omega arith))
  ]

  abbrev way : ℕ → ℕ
  way i = on_the_way n offs i i

  way_up : (v i w k : ℕ) → WireAt n v i w k → way i ≡ length (offs i) + way v
  way_up v i w k a =
      let up : parent n i < i = s.lower i a.above a.within in
      let step : way i ≡ length (offs i) + way (parent n i) =
      omega (arith, way_enough i (suc i) i a.within (omega arith) (omega arith), way_step i i a.above, way_enough i (parent n i) (parent n i) (omega (arith, a.within)) (omega arith) (omega arith)) in
      rw a.up at step

  -- ---- every sink
  abbrev Sees : ℕ → ℕ → Type 0
  Sees p i = kind n i ≡ 1 → turn (kind_of n.limits.repeater) p (way i) ≡ polarity n i

  below : (p q v i w k : ℕ) → WireAt n v i w k → q ≡ turn (kind_of n.limits.repeater) p (way v)
      → turn (kind_of n.limits.repeater) q (length (offs i)) ≡ turn (kind_of n.limits.repeater) p (way i)
  below p q v i w k a e = rw (e, way_up v i w k a) (turn_turn (kind_of n.limits.repeater) p (way v) (length (offs i)))

  par_every : (p q v : ℕ) (f : Hanging) → Hangs n v f → q ≡ turn (kind_of n.limits.repeater) p (way v) → Par (cell_of n.limits) q f (plan_of offs f) → Every (Sees p) f
  par_every p q v none h e g = tt
  par_every p q v (sink i w c t r) h e g = (λ k. sym (below p q v i w 1 h.0 e) ∙ (g.0 ∙ sym h.2), par_every p q v r h.3 e g.1)
  par_every p q v (branch i w f r) h e g = (
    λ k. absurd (omega (arith, h.0.end)),
    par_every p (turn (kind_of n.limits.repeater) q (length (offs i))) i f h.2 (below p q v i w 0 h.0 e) g.0,
    par_every p q v r h.3 e g.1,
  )

  every_par : (p q v : ℕ) (f : Hanging) → Hangs n v f → q ≡ turn (kind_of n.limits.repeater) p (way v) → Every (Sees p) f → Par (cell_of n.limits) q f (plan_of offs f)
  every_par p q v none h e g = tt
  every_par p q v (sink i w c t r) h e g = (below p q v i w 1 h.0 e ∙ (g.0 h.0.end ∙ h.2), every_par p q v r h.3 e g.1)
  every_par p q v (branch i w f r) h e g = (
    every_par p (turn (kind_of n.limits.repeater) q (length (offs i))) i f h.2 (below p q v i w 0 h.0 e) g.1,
    every_par p q v r h.3 e g.2,
  )

  at_source : (p : ℕ) → p ≤ 1 → p ≡ turn (kind_of n.limits.repeater) p (way 0)
  at_source p h = rw (way_source 0) (go (kind_of n.limits.repeater))
    where
      go : (κ : Kind) → p ≡ turn κ p 0
      go buf = refl
      go inv = omega arith

  pub one_sense_if_par : (p : ℕ) → p ≤ 1 → Par (cell_of n.limits) p (tree n) (plan_of offs (tree n)) → OneSense n offs
  unfolding inverters
  one_sense_if_par p h g = record {
    one = p;
    same = λ i k. sense_is n.limits.repeater p (way i) (polarity n i) s.repeater_most (s.polarity_most i) h
        (every_wire s (Sees p) (par_every p p 0 (tree n) (tree_hangs s) (at_source p h) g) i k.node k.within k.sink);
  }

  pub par_if_one_sense : (o : OneSense n offs) → Par (cell_of n.limits) (o.one % 2) (tree n) (plan_of offs (tree n))
  unfolding inverters
  par_if_one_sense o =
      every_par (o.one % 2) (o.one % 2) 0 (tree n) (tree_hangs s) (at_source (o.one % 2) (omega arith))
      (every_from n (Sees (o.one % 2))
      (λ i a b k. polarity_is n.limits.repeater o.one (way i) (polarity n i) s.repeater_most (s.polarity_most i) (o.same i (record { node = a; within = b; sink = k }))) 0 (tree n) (tree_hangs s))
