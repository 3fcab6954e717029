-- What a verdict says: which judgement it came from, and what a legal one says of each entry.
use Rattle.std.specs.Prelude.{Ok, Err}
use Prim.Native.Nat.{ℕ, ◌≤◌, ◌<◌}
use mathlib.Core.Path.{◌≡◌, refl, ap}
use mathlib.Core.List.{List}
use native.Mathlib.Omega.{arith}
use lib.ListN.{length, get_or}
use Rattle.rules.specs.Judged.{Judged}
use Rattle.rules.specs.declared.Refusal.{Refusal}
use Rattle.rules.specs.declared.Refusal.TheVariants.{WrongColumns}
use Rattle.rules.specs.Figures.{most_entries}
use Rattle.rules.specs.Net.{Net, places}
use Rattle.rules.specs.Legal.{start}
use Rattle.rules.proofs.Judging.{unless_true}
use Rattle.rules.proofs.Numbers.{PlacementFits, columns_tested}
use Rattle.load.proofs.Order.{stands_at}
use Rattle.checker.specs.Verdict.{verdict_of, LegalColumns}

pub verdict_refused : (j : Judged) (count source : ℕ) (r : Refusal) → verdict_of j count source ≡ Err r → j ≡ Err r
verdict_refused (Ok _) count source r e = absurd (let z : ◌≡◌ {A = ℕ} 0 1 = cc in omega arith)
verdict_refused (Err x) count source r e = let q : x ≡ r = cc in ap Err q

pub verdict_legal : (j : Judged) (count source c s : ℕ) → verdict_of j count source ≡ Ok (record { count = c; source = s }) → j ≡ Ok tt
verdict_legal (Ok _) count source c s e = refl
verdict_legal (Err x) count source c s e = absurd (let z : ◌≡◌ {A = ℕ} 0 1 = cc in omega arith)

module _ {n : Net} {vs os : List ℕ} (l : LegalColumns n vs os) where
  columns_fit_lem : PlacementFits vs os
  columns_fit_lem = (columns_tested vs os).exactly.0 (unless_true l.fit WrongColumns)

  pub columns_even : length os ≡ length vs
  columns_even = columns_fit_lem.even

  pub columns_few : length vs ≤ most_entries
  columns_few = columns_fit_lem.few

  pub columns_within : (k : ℕ) → k < length vs → get_or vs k 0 < places n
  columns_within k h = (stands_at n start vs os l.legal.stands columns_even k h).within
