-- The numbers of the list of loads: it answers k exactly where the cases below say so, and so no other number.
use Rattle.std.specs.Prelude.{Ok, Err}
use Prim.Native.Nat.{ℕ, ◌≤◌, ◌<◌}
use mathlib.Core.Path.{◌≡◌, refl, sym, ap, ◌∙◌}
use mathlib.Core.Logic.{◌↔◌}
use mathlib.Core.List.{List}
use native.Mathlib.Omega.{arith}
use lib.Dec.{leb}
use lib.ListN.{length}
use borrow.Author.Tests.{le-leb, leb-true}
use Rattle.rules.specs.Judged.{Judged}
use Rattle.rules.specs.declared.Refusal.TheVariants.{WrongColumns, NoRoom}
use Rattle.rules.specs.Refusal.{judged_number}
use Rattle.rules.specs.Net.{Net}
use Rattle.rules.specs.Load.{entries, offsets_on, source_drives}
use Rattle.rules.specs.Legal.{InOrder, start}
use Rattle.rules.specs.Judge.{unless, then_judge, judged}
use Rattle.rules.specs.Checked.{placement_fits, placed_from}
use Rattle.rules.proofs.Tests.{unless_met}
use Rattle.rules.proofs.Judging.{unless_true, unless_only, then_assoc, Tests, Tested, held, failed, tested, stops, then_next, then_stops, exactly_where}
use Rattle.rules.proofs.LegalJudged.{order_tested}
use Rattle.rules.proofs.Numbers.{PlacementFits, columns_tested, NetRefuses}
use Rattle.standing.specs.Stands.{stood}
use Rattle.listing.specs.Listing.{Listed, list_judged, listed_of, listed_number, ListedIs}

-- what the number k says of two columns on a net, and of the room for their loads
pub data ListGives (n : Net) (vs os : List ℕ) (room k : ℕ) : Type 0 where
  of_net : NetRefuses n k → ListGives n vs os room k
  wrong_columns : k ≡ 7 → judged n ≡ Ok tt → (PlacementFits vs os → ⊥) → ListGives n vs os room k
  misplaced : k ≡ 10 → judged n ≡ Ok tt → PlacementFits vs os → (InOrder n start (entries vs os) → ⊥) → ListGives n vs os room k
  no_room : k ≡ 9 → judged n ≡ Ok tt → PlacementFits vs os → InOrder n start (entries vs os) → room < length vs → ListGives n vs os room k
  listed : k ≡ 0 → judged n ≡ Ok tt → PlacementFits vs os → InOrder n start (entries vs os) → length vs ≤ room → ListGives n vs os room k

room_tested : (vs : List ℕ) (room : ℕ) → Tests (unless (leb (length vs) room) (NoRoom (length vs))) (length vs ≤ room) 9
room_tested vs room = record {
  exactly = (λ e. leb-true (length vs) room (unless_met (leb (length vs) room) (NoRoom (length vs)) e), λ l. unless_true (le-leb (length vs) room l) (NoRoom (length vs)));
  by = unless_only (leb (length vs) room) (NoRoom (length vs)) refl;
}

module _ (n : Net) (vs os : List ℕ) (room : ℕ) where
  -- the four judgements, one after the other
  last : Judged
  last = unless (leb (length vs) room) (NoRoom (length vs))

  third : Judged
  third = then_judge (placed_from n start 0 (entries vs os)) last

  second : Judged
  second = then_judge (unless (placement_fits vs os) WrongColumns) third

  in_a_row : list_judged n vs os room ≡ then_judge (judged n) second
  unfolding last third second
  in_a_row =
      then_assoc (judged n) (stood n vs os) (unless (leb (length vs) room) (NoRoom (length vs)))
      ∙ ap (then_judge (judged n)) (then_assoc (unless (placement_fits vs os) WrongColumns) (placed_from n start 0 (entries vs os)) (unless (leb (length vs) room) (NoRoom (length vs))))

  room_test : Tests last (length vs ≤ room) 9
  unfolding last
  room_test = room_tested vs room

  given : ListGives n vs os room (judged_number (then_judge (judged n) second))
  unfolding third second
  given = by_net (judged n) refl
    where
      by_room : judged n ≡ Ok tt → PlacementFits vs os → InOrder n start (entries vs os) → Tested last (length vs ≤ room) 9 → ListGives n vs os room (judged_number last)
      by_room s fit o (held e l) = rw e (listed refl s fit o l)
      by_room s fit o (failed e c not) = rw e (no_room c s fit o (omega arith))

      by_order : judged n ≡ Ok tt → PlacementFits vs os → Tested (placed_from n start 0 (entries vs os)) (InOrder n start (entries vs os)) 10 → ListGives n vs os room (judged_number third)
      by_order s fit (held e o) = rw e (by_room s fit o (tested room_test))
      by_order s fit (failed e c not) = rw e (misplaced c s fit not)

      by_columns : judged n ≡ Ok tt → Tested (unless (placement_fits vs os) WrongColumns) (PlacementFits vs os) 7 → ListGives n vs os room (judged_number second)
      by_columns s (held e fit) = rw e (by_order s fit (tested (order_tested n (entries vs os))))
      by_columns s (failed e c not) = rw e (wrong_columns c s not)

      by_net : (j : Judged) → judged n ≡ j → ListGives n vs os room (judged_number (then_judge j second))
      by_net (Ok _) e = by_columns e (tested (columns_tested vs os))
      by_net (Err x) e = of_net (record { refusal = x; refused = e; number = refl })

  alone : (k : ℕ) → ListGives n vs os room k → judged_number (then_judge (judged n) second) ≡ k
  unfolding third second
  alone k (of_net r) = rw r.refused (sym r.number)
  alone k (wrong_columns e s not) = rw s (then_stops (columns_tested vs os) not third ∙ sym e)
  alone k (misplaced e s fit not) = rw s (then_next (columns_tested vs os) fit third ∙ then_stops (order_tested n (entries vs os)) not last ∙ sym e)
  alone k (no_room e s fit o l) =
      rw s (then_next (columns_tested vs os) fit third ∙ then_next (order_tested n (entries vs os)) o last ∙ stops room_test (λ h. omega arith) ∙ sym e)
  alone k (listed e s fit o l) =
      rw s (then_next (columns_tested vs os) fit third ∙ then_next (order_tested n (entries vs os)) o last ∙ ap judged_number (room_test.exactly.1 l) ∙ sym e)

  -- the answer as a number
  answer_number : listed_number (listed_of (list_judged n vs os room) (length vs) (source_drives n (offsets_on (entries vs os)))) ≡ judged_number (list_judged n vs os room)
  answer_number = by (list_judged n vs os room)
    where
      by : (j : Judged) → listed_number (listed_of j (length vs) (source_drives n (offsets_on (entries vs os)))) ≡ judged_number j
      by (Ok _) = refl
      by (Err x) = refl

pub list_drives_numbers : (n : Net) (vs os before : List ℕ) {r : Listed} {after : List ℕ} → ListedIs n vs os before r after → (k : ℕ) → (listed_number r ≡ k) ↔ ListGives n vs os (length before) k
list_drives_numbers n vs os before {r} e k =
    rw (e.answer, answer_number n vs os (length before), in_a_row n vs os (length before))
    (exactly_where (ListGives n vs os (length before)) (judged_number (then_judge (judged n) (second n vs os (length before)))) (given n vs os (length before)) (alone n vs os (length before)) k)
