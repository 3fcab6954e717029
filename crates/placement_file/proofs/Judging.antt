-- What a file that is sound says of its count, and sound columns of their lengths; how a loop judges the entries in turn.
use Rattle.std.specs.Prelude.{Ok}
use Prim.Native.Nat.{ℕ, ◌≤◌}
use mathlib.Core.Path.{◌≡◌}
use mathlib.Core.List.{List}
use mathlib.Core.Bool.{true}
use lib.ListN.{length}
use lib.Dec.{eqb, leb}
use borrow.Author.Tests.{eqb-true, leb-true}
use Rattle.rules.specs.Figures.{most_entries}
use Rattle.rules.specs.Judge.{unless}
use Rattle.rules.specs.Checked.{placement_fits}
use Rattle.rules.specs.declared.Refusal.TheVariants.{OutOfRange, WrongColumns}
use Rattle.rules.proofs.Tests.{both_met, then_met, unless_met}
use Rattle.rules.proofs.Each.{going_stop, going_next, going_end}
use Rattle.field.specs.Format.{due_at}
use Rattle.placement_file.specs.File.{due, owed, count_judged, body_judged, file_judged, ranges_judged, columns_judged}

pub few : (s : List ℕ) → count_judged s ≡ Ok tt → owed s ≤ most_entries
unfolding count_judged
few s e =
    let (d, u) = then_met (due (due_at 17 s 0)) (unless (leb (owed s) most_entries) (OutOfRange 0)) e in
    leb-true (owed s) most_entries (unless_met (leb (owed s) most_entries) (OutOfRange 0) u)

pub sound_few : (s : List ℕ) → file_judged s ≡ Ok tt → owed s ≤ most_entries
unfolding file_judged
sound_few s e = few s (then_met (count_judged s) (body_judged s (owed s)) e).0

module _ (vs os : List ℕ) where
  pub fits : placement_fits vs os ≡ true → (length os ≡ length vs) × (length vs ≤ most_entries)
  fits e = let (a, b) = both_met (eqb (length os) (length vs)) (leb (length vs) most_entries) e in (eqb-true _ _ a, leb-true _ _ b)

  pub sound_columns : columns_judged vs os ≡ Ok tt → (placement_fits vs os ≡ true) × (ranges_judged vs os ≡ Ok tt)
  unfolding columns_judged
  sound_columns e = let (a, b) = then_met (unless (placement_fits vs os) WrongColumns) (ranges_judged vs os) e in (unless_met _ WrongColumns a, b)

-- for a loop that judges one entry after the other
pub ruleset in_turn = (going_stop, going_next, going_end)
