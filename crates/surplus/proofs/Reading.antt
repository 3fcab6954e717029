-- A row read up to its last place, and one load of a row with one wire more: the definition's product is the frontier's.
use Prim.Native.Nat.{ℕ, zero, suc, ◌+◌, ◌≤◌, min}
use mathlib.Core.Path.{◌≡◌, refl}
use mathlib.Core.List.{List}
use native.Mathlib.Omega.{arith}
use lib.ListN.{get_or}
use Rattle.frontier.specs.Cell.{Cell}
use Rattle.frontier.specs.Frontier.{conv}
use Rattle.surplus.specs.Rows.{load_at, mixed}

module _ (t : List ℕ) (at last e : ℕ) where
  pub load_within : e ≤ last → get_or t (at + e) 0 ≡ load_at t at last e
  load_within h = let q : min e last ≡ e = omega arith in rw q

  pub load_past : last ≤ e → get_or t (at + last) 0 ≡ load_at t at last e
  load_past h = let q : min e last ≡ last = omega arith in rw q

pub conv_mixed : (τ : Cell) (a b : ℕ) (g : ℕ → ℕ) (e : ℕ) → mixed g a b (min a τ.cb) e ≡ conv τ a b g e
unfolding conv
conv_mixed τ a b g zero = refl
conv_mixed τ a b g (suc zero) = refl
conv_mixed τ a b g (suc (suc e)) = refl
