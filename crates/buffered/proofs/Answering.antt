-- The answer where nothing is given: a least completion of nothing is a least placement.
use Rattle.std.specs.Prelude.{Ok, Err}
use Prim.Native.Nat.{ℕ, ◌≤◌, ◌<◌}
use mathlib.Core.Path.{◌≡◌, refl, ap}
use mathlib.Core.List.{List, []}
use lib.ListN.{length}
use native.Mathlib.Omega.{arith}
use Rattle.rules.specs.declared.Entry.{Entry}
use Rattle.rules.specs.declared.Refusal.TheVariants.{NoLegalPlacement, NoRoom}
use Rattle.rules.specs.Net.{Net}
use Rattle.rules.specs.Load.{entries, offsets_on}
use Rattle.rules.specs.Legal.{Legal, Least, NoneLegal}
use Rattle.columns.specs.Columns.{room_in, Holds}
use Rattle.adding.specs.Given.{Stood, Leads}
use Rattle.solution.specs.Answer.{Outcome, none, full, placed}

pub none_given : (n : Net) → Stood n [] []
unfolding entries
none_given n = record { same = refl; few = omega arith; order = tt }

pub none_leads : Leads [] [] []
unfolding entries offsets_on
none_leads = record { is = λ i. refl }

module _ {n : Net} (ws os : List ℕ) where
  pub eight : NoneLegal n → Outcome n ws os ws os (Err NoLegalPlacement)
  eight h = none h refl (record { wires = refl; offsets = refl })

  pub nine : {m k : ℕ} → Least n k → m ≡ k → room_in ws os < m → Outcome n ws os ws os (Err (NoRoom m))
  nine {m} {k} l e h = full k l (omega arith) (ap (λ (j : ℕ). Err (NoRoom j)) e) (record { wires = refl; offsets = refl })

  pub written : {p : List Entry} {m : ℕ} {ws' os' : List ℕ} → Legal n p → Least n (length p) → m ≡ length p → m ≤ room_in ws os → Holds p ws os ws' os' → Outcome n ws os ws' os' (Ok m)
  written {p} g l e h w = placed p g l (omega arith) (ap Ok e) w
