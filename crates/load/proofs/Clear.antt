-- A table that was just made is clear.
use Prim.Native.Nat.{ℕ, zero, suc}
use mathlib.Core.Path.{◌≡◌, refl}
use lib.ListN.{get_or, replicate, length-replicate}
use Rattle.rules.specs.Figures.{most_places}
use Rattle.load.specs.Tables.{Clear}

module _ {A : Type 0} (blank : A) where
  pub none_in : (k i : ℕ) → get_or (replicate k blank) i blank ≡ blank
  none_in zero i = refl
  none_in (suc k) zero = refl
  none_in (suc k) (suc i) = none_in k i

  pub new_clear : Clear blank (replicate most_places blank)
  new_clear = record { long = length-replicate most_places blank; none = none_in most_places }
