-- Blank tables, where only no wire has a count: nothing is joined and nothing is closed.
use Prim.Native.Nat.{ℕ, zero, suc, ◌+◌, ◌*◌, ◌≤◌}
use mathlib.Core.Path.{◌≡◌, refl}
use mathlib.Core.List.{List}
use native.Mathlib.Omega.{arith}
use lib.ListN.{get_or, set, replicate, length-set, length-replicate}
use Rattle.rules.specs.Figures.{most_places}
use Rattle.rules.specs.Net.{Net, places}
use Rattle.rules.specs.Sound.{SoundNet}
use Rattle.frontier.specs.Cell as model
use Rattle.surplus.specs.declared.Slot.{Slot}
use Rattle.surplus.specs.declared.Closed.{Closed}
use Rattle.surplus.specs.Tables.{no_slot, not_closed, count_at, zero_at, one_at, Filled}
use Rattle.surplus.proofs.Filling.{joined_none, closed_none}

-- a table of zeros holds 0 everywhere
pub get_or-zeros : (k j : ℕ) → get_or {A = ℕ} (replicate k 0) j 0 ≡ 0
get_or-zeros zero j = refl
get_or-zeros (suc k) zero = refl
get_or-zeros (suc k) (suc j) = get_or-zeros k j

abbrev counted : List Slot
counted = let x : Slot = record no_slot { count = 1 } in set (set (replicate (most_places * 2) no_slot) 0 x) 1 x

pub filled_none : (τ : model.Cell) {n : Net} → SoundNet n → Filled τ n (replicate (most_places * 2) 0) counted (replicate (most_places * 2) not_closed) (places n)
filled_none τ {n} sound = record {
  joined = joined_none τ sound (replicate (most_places * 2) 0) counted (length-replicate {A = ℕ} (most_places * 2) 0) (simp length-set (length-replicate {A = Slot} (most_places * 2) no_slot)) (λ v. get_or-zeros (most_places * 2) (v * 2 + 1)) end;
  closed = closed_none τ (replicate (most_places * 2) not_closed) (length-replicate {A = Closed} (most_places * 2) not_closed);
}
  where
    end : (p : ℕ) → p ≤ 1 → (count_at counted p 0 ≡ 1) × (zero_at counted p 0 ≡ 0) × (one_at counted p 0 ≡ 0)
    end zero l = (refl, refl, refl)
    end (suc zero) l = (refl, refl, refl)
    end (suc (suc p)) l = absurd (omega arith)
