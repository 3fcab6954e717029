-- What the code's tries say.
use Rattle.std.specs.Prelude.{ℕ, Option, Some, None, ◌+◌, ◌≤◌, ◌≡◌}
use Rattle.frontier.specs.Cell.{inv, Cell}
use Rattle.frontier.specs.Frontier.{State, T, req}
use Rattle.surplus.specs.Choice.{Met}
use Rattle.cuts.specs.declared.Stand.{Stand}
use Rattle.cuts.specs.declared.Turned.{Turned}
use Rattle.cuts.specs.declared.Turned.TheVariants.{Same, Other}

-- over a load v the count m and the load l are met with n below and r inverters of the parity π
pub record One (τ : Cell) (π v n m l r : ℕ) : Type 0 where
  pub is : r ≡ req τ inv π v
  pub count : n + r ≤ m
  pub load : T τ v r ≤ l

abbrev pub OneOk : Cell → ℕ → ℕ → ℕ → ℕ → ℕ → ℕ → ℕ → Option Stand → Type 0
OneOk τ π v n x h m l None = (r : ℕ) → One τ π v n m l r → ⊥
OneOk τ π v n x h m l (Some s) = (s.surplus ≡ x) × (s.load ≡ h) × One τ π v n m l s.count

abbrev pub PickOk : Cell → ℕ → ℕ → State → ℕ → ℕ → Option Stand → Type 0
PickOk τ π w node m l None = (x h r : ℕ) → Met τ π w node m l x h r → ⊥
PickOk τ π w node m l (Some s) = Met τ π w node m l s.surplus s.load s.count

abbrev pub TurnOk : Cell → ℕ → State → State → ℕ → ℕ → Turned → Type 0
TurnOk τ w same other m l (Same s) = Met τ 0 w same m l s.surplus s.load s.count
TurnOk τ w same other m l (Other s) = Met τ 1 w other m l s.surplus s.load s.count
