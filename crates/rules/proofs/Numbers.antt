-- The numbers of a placement's judgement on a sound net, each exactly where its fault stands first; and the numbers that a net's own judgement can give.
use Rattle.std.specs.Prelude.{Ok, Err}
use Prim.Native.Nat.{ℕ, ◌≤◌}
use mathlib.Core.Path.{◌≡◌, refl, sym, ap, ◌∙◌}
use mathlib.Core.Bool.{true}
use mathlib.Core.Logic.{◌↔◌}
use mathlib.Core.List.{List}
use lib.Dec.{eqb, leb}
use lib.ListN.{length}
use borrow.Author.Tests.{eqb-true, leb-true, eq-eqb, le-leb}
use Rattle.rules.specs.declared.Entry.{Entry}
use Rattle.rules.specs.declared.Refusal.{Refusal}
use Rattle.rules.specs.declared.Refusal.TheVariants.{WrongColumns}
use Rattle.rules.specs.Judged.{Judged}
use Rattle.rules.specs.Figures.{most_entries}
use Rattle.rules.specs.Refusal.{number_of, place_of, judged_number, judged_place}
use Rattle.rules.specs.Net.{Net}
use Rattle.rules.specs.Load.{offsets_on, drivers}
use Rattle.rules.specs.Legal.{Each, InOrder, start, OneSense, Legal}
use Rattle.rules.specs.Judge.{unless, then_judge, judged}
use Rattle.rules.specs.Checked.{placement_fits, placed_from, within_limit, one_sense, placement_judged}
use Rattle.rules.proofs.Tests.{both_met, both_true, unless_met}
use Rattle.rules.proofs.Judging.{unless_true, unless_only, sound_refused, Tests, Tested, held, failed, tested, stops, then_next, then_stops, exactly_where}
use Rattle.rules.proofs.JudgedNumbers.{Row, row_is}
use Rattle.rules.proofs.JudgedNumbers as row
use Rattle.rules.proofs.LegalJudged.{order_tested, loads_tested, senses_tested}

-- every driver's load is at most C_U
abbrev pub Within : Net → List Entry → Type 0
Within n p = Each (λ load. load ≤ n.limits.limit) (drivers n p)

-- what the number k says of a placement of a sound net
pub data PlacementGives (n : Net) (p : List Entry) (k : ℕ) : Type 0 where
  misplaced : k ≡ 10 → (InOrder n start p → ⊥) → PlacementGives n p k
  overloaded : k ≡ 11 → InOrder n start p → (Within n p → ⊥) → PlacementGives n p k
  wrong_parity : k ≡ 12 → InOrder n start p → Within n p → (OneSense n (offsets_on p) → ⊥) → PlacementGives n p k
  legal : k ≡ 0 → Legal n p → PlacementGives n p k

module _ (n : Net) (p : List Entry) where
  loads : Judged
  loads = within_limit n.limits.limit 0 (drivers n p)

  senses : Judged
  senses = one_sense n (offsets_on p)

  order_test : Tests (placed_from n start 0 p) (InOrder n start p) 10
  order_test = order_tested n p

  loads_test : Tests loads (Within n p) 11
  unfolding loads
  loads_test = loads_tested n.limits.limit (drivers n p)

  senses_test : Tests senses (OneSense n (offsets_on p)) 12
  unfolding senses
  senses_test = senses_tested n (offsets_on p)

  number : ℕ
  number = judged_number (then_judge (placed_from n start 0 p) (then_judge loads senses))

  given : PlacementGives n p number
  unfolding number
  given = by_order (tested order_test)
    where
      by_senses : InOrder n start p → Within n p → Tested senses (OneSense n (offsets_on p)) 12 → PlacementGives n p (judged_number senses)
      by_senses o w (held e s) = rw e (legal refl (record { stands = o; loads = w; parity = s }))
      by_senses o w (failed e c not) = rw e (wrong_parity c o w not)

      by_loads : InOrder n start p → Tested loads (Within n p) 11 → PlacementGives n p (judged_number (then_judge loads senses))
      by_loads o (held e w) = rw e (by_senses o w (tested senses_test))
      by_loads o (failed e c not) = rw e (overloaded c o not)

      by_order : Tested (placed_from n start 0 p) (InOrder n start p) 10 → PlacementGives n p (judged_number (then_judge (placed_from n start 0 p) (then_judge loads senses)))
      by_order (held e o) = rw e (by_loads o (tested loads_test))
      by_order (failed e c not) = rw e (misplaced c not)

  alone : (k : ℕ) → PlacementGives n p k → number ≡ k
  unfolding number
  alone k (misplaced e not) = then_stops order_test not (then_judge loads senses) ∙ sym e
  alone k (overloaded e o not) = then_next order_test o (then_judge loads senses) ∙ then_stops loads_test not senses ∙ sym e
  alone k (wrong_parity e o w not) = then_next order_test o (then_judge loads senses) ∙ then_next loads_test w senses ∙ stops senses_test not ∙ sym e
  alone k (legal e l) = then_next order_test l.stands (then_judge loads senses) ∙ then_next loads_test l.loads senses ∙ ap judged_number (senses_test.exactly.1 l.parity) ∙ sym e

  pub placement_numbers : (k : ℕ) → (judged_number (placement_judged n p) ≡ k) ↔ PlacementGives n p k
  unfolding placement_judged number loads senses
  placement_numbers = exactly_where (PlacementGives n p) number given alone

-- ---- the two columns of a placement

-- as long as each other, and no longer than a placement may be
pub record PlacementFits (vs os : List ℕ) : Type 0 where
  pub even : length os ≡ length vs
  pub few : length vs ≤ most_entries

pub columns_tested : (vs os : List ℕ) → Tests (unless (placement_fits vs os) WrongColumns) (PlacementFits vs os) 7
columns_tested vs os = record { exactly = (λ e. says (unless_met (placement_fits vs os) WrongColumns e), back); by = unless_only (placement_fits vs os) WrongColumns refl }
  where
    says : placement_fits vs os ≡ true → PlacementFits vs os
    says e =
        let (a, b) = both_met (eqb (length os) (length vs)) (leb (length vs) most_entries) e in
        record { even = eqb-true (length os) (length vs) a; few = leb-true (length vs) most_entries b }

    back : PlacementFits vs os → unless (placement_fits vs os) WrongColumns ≡ (Ok tt)
    back f = unless_true (both_true (eq-eqb (length os) (length vs) f.even) (le-leb (length vs) most_entries f.few)) WrongColumns

-- ---- the net

-- k is the number by which the net's own judgement refuses
pub record NetRefuses (n : Net) (k : ℕ) : Type 0 where
  pub refusal : Refusal
  pub refused : judged n ≡ Err refusal
  pub number : k ≡ number_of refusal

-- so it is one of four
pub data NetNumber (k : ℕ) : Type 0 where
  out_of_range : k ≡ 3 → NetNumber k
  wrong_parent : k ≡ 4 → NetNumber k
  childless : k ≡ 5 → NetNumber k
  wrong_columns : k ≡ 7 → NetNumber k

pub net_number : {n : Net} {k : ℕ} → NetRefuses n k → NetNumber k
net_number {n} {k} r = by ((row_is n k (place_of r.refusal)).1 (ap judged_number r.refused ∙ sym r.number, ap judged_place r.refused))
  where
    by : {p : ℕ} → Row n k p → NetNumber k
    by (row.sound e q s) = sound_refused e r.refused
    by (row.columns e q s) = wrong_columns q
    by (row.limits a e q s) = out_of_range q
    by (row.source a b e q s) = out_of_range q
    by (row.range b h e q) = out_of_range q
    by (row.child b h e f q) = wrong_parent q
    by (row.childless b all h q) = childless q
