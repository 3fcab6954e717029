-- What a wire is worth is met by one of its candidates, so one of the code's tries finds it.
use Prim.Native.Nat.{ℕ, suc, ◌+◌, ◌≤◌}
use mathlib.Core.Path.{refl}
use native.Mathlib.Omega.{arith}
use Rattle.frontier.specs.Cell.{inv, Cell}
use Rattle.frontier.specs.Frontier.{State, lost, has, T, req, second, cand, via}
use Rattle.frontier.proofs.Attained.{SAtt, Up, merge_att}
use Rattle.states.specs.States.{wire_of}
use Rattle.surplus.specs.Choice.{Under, Met, Meets, even, odd}

module _ (τ : Cell) where
  met_up : (π w : ℕ) (s : State) (m m' l l' x h r : ℕ) → m ≤ m' → l ≤ l' → Met τ π w s m l x h r → Met τ π w s m' l' x h r
  met_up π w s m m' l l' x h r p q o = record { n = o.n; under = o.under; is = o.is; count = omega (arith, o.count); load = omega (arith, o.load) }

  meets_up : (w : ℕ) (s t : State) → Up (Meets τ w s t)
  meets_up w s t m m' l l' h g (even x y r o) = even x y r (met_up 0 w s m m' l l' x y r h g o)
  meets_up w s t m m' l l' h g (odd x y r o) = odd x y r (met_up 1 w t m m' l l' x y r h g o)

  -- over a node with the count n and the load h with a surplus of x
  met_by : (π w : ℕ) (s : State) (x n h : ℕ) → Under s x n h → Met τ π w s (n + req τ inv π (w + h)) (T τ (w + h) (req τ inv π (w + h))) x h (req τ inv π (w + h))
  met_by π w s x n h u = record { n = n; under = u; is = refl; count = omega arith; load = omega arith }

  -- by either parity
  module _ (w : ℕ) (s t : State) (π : ℕ) (u : State) (make : (m l x h r : ℕ) → Met τ π w u m l x h r → Meets τ w s t m l) where
    cand_met : (x n h : ℕ) → Under u x n h → SAtt (Meets τ w s t) (cand τ inv π n (w + h))
    unfolding cand second
    cand_met x n h v =
        let k : ℕ = n + req τ inv π (w + h) in
        let l : ℕ = T τ (w + h) (req τ inv π (w + h)) in
        let o = make k l x h (req τ inv π (w + h)) (met_by π w u x n h v) in
        (o, meets_up w s t k (suc k) l l (omega arith) (omega arith) o)

    via_met : (v : State) → ((x n h : ℕ) → Under v x n h → Under u x n h) → SAtt (Meets τ w s t) (via τ inv π w v)
    unfolding via
    via_met lost f = tt
    via_met (has n a b) f =
        merge_att (Meets τ w s t) (meets_up w s t) (cand τ inv π n (w + a)) (cand τ inv π (suc n) (w + b)) (cand_met 0 n a (f 0 n a (refl, refl))) (cand_met 1 (suc n) b (f 1 (suc n) b (refl, refl)))

  pub wire_met : (w : ℕ) (s t : State) → SAtt (Meets τ w s t) (wire_of τ inv w s t)
  unfolding wire_of
  wire_met w s t =
      merge_att (Meets τ w s t) (meets_up w s t) (via τ inv 0 w s) (via τ inv 1 w t)
      (via_met w s t 0 s (λ m l x h r o. even x h r o) s (λ x n h u. u)) (via_met w s t 1 t (λ m l x h r o. odd x h r o) t (λ x n h u. u))
