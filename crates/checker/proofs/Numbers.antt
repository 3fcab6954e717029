-- The checker's numbers: it answers k exactly where the cases below say so, and so no other number.
use Rattle.std.specs.Prelude.{Ok, Err}
use Prim.Native.Nat.{ℕ}
use mathlib.Core.Path.{◌≡◌, refl, sym, ◌∙◌}
use mathlib.Core.Logic.{◌↔◌}
use mathlib.Core.List.{List}
use lib.ListN.{length}
use Rattle.rules.specs.Judged.{Judged}
use Rattle.rules.specs.declared.Refusal.TheVariants.{WrongColumns}
use Rattle.rules.specs.Refusal.{judged_number}
use Rattle.rules.specs.Net.{Net}
use Rattle.rules.specs.Load.{entries, offsets_on, source_drives}
use Rattle.rules.specs.Judge.{unless, then_judge, judged}
use Rattle.rules.specs.Checked.{placement_fits, placement_judged, columns_judged, checked}
use Rattle.rules.proofs.Judging.{Tested, held, failed, tested, then_next, then_stops, exactly_where}
use Rattle.rules.proofs.Numbers.{PlacementGives, placement_numbers, PlacementFits, columns_tested, NetRefuses, NetNumber, wrong_columns as columns-number, net_number}
use Rattle.checker.specs.Verdict.{Verdict, verdict_of, verdict_number, verdict}

-- what the number k says of two columns on a net
pub data CheckGives (n : Net) (vs os : List ℕ) (k : ℕ) : Type 0 where
  of_net : NetRefuses n k → CheckGives n vs os k
  wrong_columns : k ≡ 7 → judged n ≡ Ok tt → (PlacementFits vs os → ⊥) → CheckGives n vs os k
  of_placement : judged n ≡ Ok tt → PlacementFits vs os → PlacementGives n (entries vs os) k → CheckGives n vs os k

-- the verdict as a number
pub verdict_number_lem : (n : Net) (vs os : List ℕ) → verdict_number (verdict n vs os) ≡ judged_number (checked n vs os)
verdict_number_lem n vs os = by (checked n vs os)
  where
    by : (j : Judged) → verdict_number (verdict_of j (length vs) (source_drives n (offsets_on (entries vs os)))) ≡ judged_number j
    by (Ok _) = refl
    by (Err x) = refl

module _ (n : Net) (vs os : List ℕ) where
  given : CheckGives n vs os (judged_number (then_judge (judged n) (columns_judged n vs os)))
  given = by_net (judged n) refl
    where
      by_columns : judged n ≡ Ok tt → Tested (unless (placement_fits vs os) WrongColumns) (PlacementFits vs os) 7 → CheckGives n vs os (judged_number (columns_judged n vs os))
      by_columns s (held e fit) = rw e (of_placement s fit ((placement_numbers n (entries vs os) (judged_number (placement_judged n (entries vs os)))).0 refl))
      by_columns s (failed e c not) = rw e (wrong_columns c s not)

      by_net : (j : Judged) → judged n ≡ j → CheckGives n vs os (judged_number (then_judge j (columns_judged n vs os)))
      by_net (Ok _) e = by_columns e (tested (columns_tested vs os))
      by_net (Err x) e = of_net (record { refusal = x; refused = e; number = refl })

  alone : (k : ℕ) → CheckGives n vs os k → judged_number (then_judge (judged n) (columns_judged n vs os)) ≡ k
  alone k (of_net r) = rw r.refused (sym r.number)
  alone k (wrong_columns e s not) = rw s (then_stops (columns_tested vs os) not (placement_judged n (entries vs os)) ∙ sym e)
  alone k (of_placement s fit g) = rw s (then_next (columns_tested vs os) fit (placement_judged n (entries vs os)) ∙ (placement_numbers n (entries vs os) k).1 g)

  pub checked_numbers : (k : ℕ) → (judged_number (checked n vs os) ≡ k) ↔ CheckGives n vs os k
  unfolding checked
  checked_numbers = exactly_where (CheckGives n vs os) (judged_number (then_judge (judged n) (columns_judged n vs os))) given alone

  pub check_numbers : {r : Verdict} → r ≡ verdict n vs os → (k : ℕ) → (verdict_number r ≡ k) ↔ CheckGives n vs os k
  check_numbers e k = rw (e, verdict_number_lem n vs os) (checked_numbers k)

  -- 3, 4, 5 and 7 may be the net's: any other number is given exactly where the net is sound, the columns fit and the placement gives it
  pub check_other_numbers : {r : Verdict} → r ≡ verdict n vs os → (k : ℕ) → (NetNumber k → ⊥) → (verdict_number r ≡ k) ↔ ((judged n ≡ Ok tt) × PlacementFits vs os × PlacementGives n (entries vs os) k)
  check_other_numbers e k other = (λ q. says ((check_numbers e k).0 q), λ p. (check_numbers e k).1 (of_placement p.0 p.1 p.2))
    where
      says : CheckGives n vs os k → (judged n ≡ Ok tt) × PlacementFits vs os × PlacementGives n (entries vs os) k
      says (of_net x) = absurd (other (net_number x))
      says (wrong_columns q s not) = absurd (other (columns-number q))
      says (of_placement s fit g) = (s, fit, g)
