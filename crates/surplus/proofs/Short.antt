-- What a wire hands up fits, and a wire that takes no surplus stands without inverters where that meets its count and its load.
use Prim.Native.Nat.{ℕ, zero, suc, ◌+◌, ◌-◌, ◌≤◌}
use mathlib.Core.Path.{◌≡◌, refl, sym}
use native.Mathlib.Omega.{arith}
use Rattle.frontier.specs.Cell.{inv, Cell}
use Rattle.frontier.specs.Frontier.{State, lost, has, merge_by, merge, req, second, cand, via}
use Rattle.frontier.proofs.Lower.{Tidy, req_ok, T-fits}
use Rattle.states.specs.States.{wire_of}
use Rattle.states.proofs.Short.{req_even}
use Rattle.surplus.specs.Choice.{Met}

merge_by_tidy : (τ : Cell) (d e m a b n x y : ℕ) → Tidy τ (has m a b) → Tidy τ (has n x y) → Tidy τ (merge_by d e m a b n x y)
merge_by_tidy τ zero zero m a b n x y h g = (omega (arith, h.0), omega (arith, h.1, g.1))
merge_by_tidy τ zero (suc zero) m a b n x y h g = (g.0, omega (arith, g.1))
merge_by_tidy τ zero (suc (suc e)) m a b n x y h g = g
merge_by_tidy τ (suc zero) e m a b n x y h g = (h.0, omega (arith, h.1))
merge_by_tidy τ (suc (suc d)) e m a b n x y h g = h

merge_tidy : (τ : Cell) (s t : State) → Tidy τ s → Tidy τ t → Tidy τ (merge s t)
merge_tidy τ lost t h g = g
merge_tidy τ (has m a b) lost h g = h
merge_tidy τ (has m a b) (has n x y) h g = merge_by_tidy τ (n - m) (m - n) m a b n x y h g

module _ (τ : Cell) (eq : τ.cu ≡ τ.cb + τ.D) (pos : 1 ≤ τ.D) where
  cand_tidy : (π n v : ℕ) → Tidy τ (cand τ inv π n v)
  unfolding cand second
  cand_tidy π n v = (T-fits τ eq pos v (req τ inv π v) (req_ok τ eq pos inv π v), omega arith)

  via_tidy : (π w : ℕ) (s : State) → Tidy τ (via τ inv π w s)
  unfolding via
  via_tidy π w lost = tt
  via_tidy π w (has n a b) = merge_tidy τ (cand τ inv π n (w + a)) (cand τ inv π (suc n) (w + b)) (cand_tidy π n (w + a)) (cand_tidy π (suc n) (w + b))

  pub wire_tidy : (w : ℕ) (s t : State) → Tidy τ (wire_of τ inv w s t)
  unfolding wire_of
  wire_tidy w s t = merge_tidy τ (via τ inv 0 w s) (via τ inv 1 w t) (via_tidy 0 w s) (via_tidy 1 w t)

  pub short_met : (w n a b m l : ℕ) (s : State) → s ≡ has n a b → l ≤ τ.cu → n ≤ m → w + a ≤ l → Met τ 0 w s m l 0 a 0
  short_met w n a b m l s e k c h = rw e (record { n = n; under = (refl, refl); is = sym (req_even τ eq pos (w + a) (omega arith)); count = omega arith; load = h })
