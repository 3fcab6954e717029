-- The carry's numbers: it answers k, and names a net or neither, exactly where the cases below say so, and so no other number.
use Rattle.std.specs.Prelude.{Ok, Err}
use Prim.Native.Nat.{ℕ}
use mathlib.Core.Path.{◌≡◌, refl, sym, ◌∙◌}
use mathlib.Core.Logic.{◌↔◌}
use mathlib.Core.List.{List}
use lib.ListN.{length}
use Rattle.rules.specs.Judged.{Judged}
use Rattle.rules.specs.Refusal.{judged_number}
use Rattle.rules.specs.Net.{Net}
use Rattle.rules.specs.Judge.{then_judge, judged}
use Rattle.rules.specs.Checked.{checked}
use Rattle.rules.specs.Ease.{Eases, ease_judged}
use Rattle.rules.proofs.Judging.{Tested, held, failed, tested, then_next, then_stops}
use Rattle.rules.proofs.Eased.{ease_tested}
use Rattle.rules.proofs.Numbers.{NetRefuses}
use Rattle.checker.proofs.Numbers.{CheckGives, checked_numbers}
use Rattle.carry.specs.Carry.{Outcome, outcome_number, which_net, first_net, second_net, placement_of, outcome, CarriedIs}

-- what the number k says, and which of the two nets it is of: 1, 2, or 0 for neither
pub data CarryGives (n m : Net) (vs os : List ℕ) (which k : ℕ) : Type 0 where
  of_first : which ≡ 1 → NetRefuses n k → CarryGives n m vs os which k
  of_second : which ≡ 2 → judged n ≡ Ok tt → NetRefuses m k → CarryGives n m vs os which k
  not_eased : which ≡ 0 → k ≡ 13 → judged n ≡ Ok tt → judged m ≡ Ok tt → (Eases n m → ⊥) → CarryGives n m vs os which k
  -- the checker's numbers on the first net, and 0 where it says 0
  of_placement : which ≡ 0 → judged n ≡ Ok tt → judged m ≡ Ok tt → Eases n m → CheckGives n vs os k → CarryGives n m vs os which k

-- what is of neither net: the answer by its judgement
neither : (j : Judged) (count : ℕ) → which_net (placement_of j count) ≡ 0
neither (Ok _) count = refl
neither (Err r) count = refl

by_judgement : (j : Judged) (count : ℕ) → outcome_number (placement_of j count) ≡ judged_number j
by_judgement (Ok _) count = refl
by_judgement (Err r) count = refl

module _ (n m : Net) (vs os : List ℕ) where
  -- 13, and then the placement
  rest : Judged
  rest = then_judge (ease_judged n m) (checked n vs os)

  given_by : Outcome → Type 0
  given_by o = CarryGives n m vs os (which_net o) (outcome_number o)

  given : given_by (first_net (judged n) (second_net (judged m) (placement_of rest (length vs))))
  unfolding given_by rest
  given = by_first (judged n) refl
    where
      by_ease : judged n ≡ Ok tt → judged m ≡ Ok tt → Tested (ease_judged n m) (Eases n m) 13
          → CarryGives n m vs os 0 (judged_number (then_judge (ease_judged n m) (checked n vs os)))
      by_ease s t (held e eased) = rw e (of_placement refl s t eased ((checked_numbers n vs os (judged_number (checked n vs os))).0 refl))
      by_ease s t (failed e c not) = rw e (not_eased refl c s t not)

      by_second : judged n ≡ Ok tt → (j : Judged) → judged m ≡ j → given_by (second_net j (placement_of rest (length vs)))
      by_second s (Ok _) t = rw (neither rest (length vs), by_judgement rest (length vs)) (by_ease s t (tested (ease_tested n m s t)))
      by_second s (Err x) t = of_second refl s (record { refusal = x; refused = t; number = refl })

      by_first : (j : Judged) → judged n ≡ j → given_by (first_net j (second_net (judged m) (placement_of rest (length vs))))
      by_first (Ok _) s = by_second s (judged m) refl
      by_first (Err x) s = of_first refl (record { refusal = x; refused = s; number = refl })

  alone : (which k : ℕ) → CarryGives n m vs os which k → (which_net (outcome n m vs os) ≡ which) × (outcome_number (outcome n m vs os) ≡ k)
  alone which k (of_first w r) = rw r.refused (sym w, sym r.number)
  alone which k (of_second w s r) = rw (s, r.refused) (sym w, sym r.number)
  alone which k (not_eased w e s t not) =
      rw (s, t, neither (then_judge (ease_judged n m) (checked n vs os)) (length vs), by_judgement (then_judge (ease_judged n m) (checked n vs os)) (length vs))
      (sym w, then_stops (ease_tested n m s t) not (checked n vs os) ∙ sym e)
  alone which k (of_placement w s t eased g) =
      rw (s, t, neither (then_judge (ease_judged n m) (checked n vs os)) (length vs), by_judgement (then_judge (ease_judged n m) (checked n vs os)) (length vs))
      (sym w, then_next (ease_tested n m s t) eased (checked n vs os) ∙ (checked_numbers n vs os k).1 g)

  pub carry_numbers : {r : Outcome} {after : List ℕ} → CarriedIs n m vs os r after → (which k : ℕ) → ((which_net r ≡ which) × (outcome_number r ≡ k)) ↔ CarryGives n m vs os which k
  unfolding given_by rest
  carry_numbers {r} e which k = rw e.answer (λ q. rw (← q.0, ← q.1) given, alone which k)
