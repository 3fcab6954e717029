-- The finisher's numbers: it answers k exactly where the cases below say so, and so no other number (RULES 8.4, 8.5, 8.7).
use Rattle.std.specs.Prelude.{Ok, Err, Result}
use Rattle.rules.specs.declared.Refusal.{Refusal}
use Prim.Native.Nat.{ℕ, ◌≤◌, ◌<◌}
use mathlib.Core.Path.{◌≡◌, refl, sym, ap, ◌∙◌}
use mathlib.Core.Logic.{◌↔◌, ◌⊎◌, inl, inr}
use mathlib.Core.List.{List}
use native.Mathlib.Omega.{arith}
use lib.Dec.{eqb}
use borrow.Author.Tests.{eq-eqb, eqb-true}
use Rattle.rules.specs.declared.Refusal.TheVariants.{OutOfRange, WrongColumns}
use Rattle.rules.specs.Judged.{Judged}
use Rattle.rules.specs.Net.{Net}
use Rattle.rules.specs.Load.{entries}
use Rattle.rules.specs.Legal.{InOrder, start}
use Rattle.rules.specs.Complete.{LeastAdded, NoneCompletes}
use Rattle.rules.specs.Refusal.{number_of, judged_number}
use Rattle.rules.specs.Judge.{unless, then_judge, judged}
use Rattle.rules.specs.Checked.{placement_fits, placed_from}
use Rattle.rules.proofs.Tests.{unless_met}
use Rattle.rules.proofs.Refusals.{numbered, none_given}
use Rattle.rules.proofs.Completing.{one_least_added}
use Rattle.rules.proofs.Judging.{unless_true, unless_only, Tests, Tested, held, failed, tested, stops, then_next, then_stops, exactly_where}
use Rattle.rules.proofs.LegalJudged.{order_tested}
use Rattle.rules.proofs.Numbers.{PlacementFits, columns_tested, NetRefuses, NetNumber, net_number}
use Rattle.rules.proofs.Numbers as rules
use Rattle.columns.specs.Columns.{room_in}
use Rattle.standing.specs.Stands.{stood}
use Rattle.finish.specs.Answer as answer
use Rattle.finish.specs.Answer.{half_judged, Outcome, Answered, finished_number, finished_count}

-- a sound net of buffers, and given entries that stand on it in order
pub record Half (n : Net) (gw go : List ℕ) : Type 0 where
  pub sound : judged n ≡ Ok tt
  pub buffers : n.limits.repeater ≡ 0
  pub fit : PlacementFits gw go
  pub order : InOrder n start (entries gw go)

-- what the number k says of a net and given entries before anything is searched
pub data HalfGives (n : Net) (gw go : List ℕ) (k : ℕ) : Type 0 where
  of_net : NetRefuses n k → HalfGives n gw go k
  inverters : k ≡ 3 → judged n ≡ Ok tt → (n.limits.repeater ≡ 0 → ⊥) → HalfGives n gw go k
  wrong_columns : k ≡ 7 → judged n ≡ Ok tt → n.limits.repeater ≡ 0 → (PlacementFits gw go → ⊥) → HalfGives n gw go k
  misplaced : k ≡ 10 → judged n ≡ Ok tt → n.limits.repeater ≡ 0 → PlacementFits gw go → (InOrder n start (entries gw go) → ⊥) → HalfGives n gw go k
  ready : k ≡ 0 → Half n gw go → HalfGives n gw go k

buffers_tested : (n : Net) → Tests (unless (eqb n.limits.repeater 0) (OutOfRange 0)) (n.limits.repeater ≡ 0) 3
buffers_tested n = record {
  exactly = (λ e. eqb-true n.limits.repeater 0 (unless_met _ (OutOfRange 0) e), λ z. unless_true (eq-eqb n.limits.repeater 0 z) (OutOfRange 0));
  by = unless_only (eqb n.limits.repeater 0) (OutOfRange 0) refl;
}

module _ (n : Net) (gw go : List ℕ) where
  third : Judged
  third = stood n gw go

  second : Judged
  second = then_judge (unless (eqb n.limits.repeater 0) (OutOfRange 0)) third

  given_half : HalfGives n gw go (judged_number (then_judge (judged n) second))
  unfolding third second
  given_half = by_net (judged n) refl
    where
      by_order : judged n ≡ Ok tt → n.limits.repeater ≡ 0 → PlacementFits gw go → Tested (placed_from n start 0 (entries gw go)) (InOrder n start (entries gw go)) 10 → HalfGives n gw go (judged_number (placed_from n start 0 (entries gw go)))
      by_order s b fit (held e o) = rw e (ready refl (record { sound = s; buffers = b; fit = fit; order = o }))
      by_order s b fit (failed e c not) = rw e (misplaced c s b fit not)

      by_columns : judged n ≡ Ok tt → n.limits.repeater ≡ 0 → Tested (unless (placement_fits gw go) WrongColumns) (PlacementFits gw go) 7 → HalfGives n gw go (judged_number third)
      by_columns s b (held e fit) = rw e (by_order s b fit (tested (order_tested n (entries gw go))))
      by_columns s b (failed e c not) = rw e (wrong_columns c s b not)

      by_type : judged n ≡ Ok tt → Tested (unless (eqb n.limits.repeater 0) (OutOfRange 0)) (n.limits.repeater ≡ 0) 3 → HalfGives n gw go (judged_number second)
      by_type s (held e b) = rw e (by_columns s b (tested (columns_tested gw go)))
      by_type s (failed e c not) = rw e (inverters c s not)

      by_net : (j : Judged) → judged n ≡ j → HalfGives n gw go (judged_number (then_judge j second))
      by_net (Ok _) e = by_type e (tested (buffers_tested n))
      by_net (Err x) e = of_net (record { refusal = x; refused = e; number = refl })

  alone_half : (k : ℕ) → HalfGives n gw go k → judged_number (then_judge (judged n) second) ≡ k
  unfolding third second
  alone_half k (of_net r) = rw r.refused (sym r.number)
  alone_half k (inverters e s not) = rw s (then_stops (buffers_tested n) not third ∙ sym e)
  alone_half k (wrong_columns e s b not) = rw s (then_next (buffers_tested n) b third ∙ then_stops (columns_tested gw go) not (placed_from n start 0 (entries gw go)) ∙ sym e)
  alone_half k (misplaced e s b fit not) =
      rw s (then_next (buffers_tested n) b third ∙ then_next (columns_tested gw go) fit (placed_from n start 0 (entries gw go)) ∙ stops (order_tested n (entries gw go)) not ∙ sym e)
  alone_half k (ready e h) =
      rw h.sound
      (then_next (buffers_tested n) h.buffers third ∙ then_next (columns_tested gw go) h.fit (placed_from n start 0 (entries gw go)) ∙ ap judged_number ((order_tested n (entries gw go)).exactly.1 h.order) ∙ sym e)

  pub half_numbers : (k : ℕ) → (judged_number (half_judged n gw go) ≡ k) ↔ HalfGives n gw go k
  unfolding half_judged third second
  half_numbers = exactly_where (HalfGives n gw go) (judged_number (then_judge (judged n) second)) given_half alone_half

  half_sound : Half n gw go → half_judged n gw go ≡ Ok tt
  half_sound h = none_given (half_judged n gw go) ((half_numbers 0).1 (ready refl h))

  sound_half : half_judged n gw go ≡ Ok tt → Half n gw go
  sound_half e = by ((half_numbers 0).0 (ap judged_number e))
    where
      by : HalfGives n gw go 0 → Half n gw go
      by (of_net r) = absurd (omega (arith, r.number, numbered r.refusal))
      by (inverters q s not) = absurd (omega arith)
      by (wrong_columns q s b not) = absurd (omega arith)
      by (misplaced q s b fit not) = absurd (omega arith)
      by (ready q h) = h

-- what the number k says, where so many added entries have room
pub data FinishGives (n : Net) (gw go : List ℕ) (room k : ℕ) : Type 0 where
  refused : (k ≡ 0 → ⊥) → HalfGives n gw go k → FinishGives n gw go room k
  none : k ≡ 8 → Half n gw go → NoneCompletes n (entries gw go) → FinishGives n gw go room k
  full : k ≡ 9 → Half n gw go → (m : ℕ) → LeastAdded n (entries gw go) m → room < m → FinishGives n gw go room k
  added : k ≡ 0 → Half n gw go → (m : ℕ) → LeastAdded n (entries gw go) m → m ≤ room → FinishGives n gw go room k

-- what is refused before is none of 8 and 9
half_other : {n : Net} {gw go : List ℕ} {k : ℕ} → HalfGives n gw go k → (k ≡ 8 → ⊥) × (k ≡ 9 → ⊥)
half_other (of_net r) = by (net_number r)
  where
    by : {k : ℕ} → NetNumber k → (k ≡ 8 → ⊥) × (k ≡ 9 → ⊥)
    by (rules.out_of_range q) = (λ e. omega arith, λ e. omega arith)
    by (rules.wrong_parent q) = (λ e. omega arith, λ e. omega arith)
    by (rules.childless q) = (λ e. omega arith, λ e. omega arith)
    by (rules.wrong_columns q) = (λ e. omega arith, λ e. omega arith)
half_other (inverters q s not) = (λ e. omega arith, λ e. omega arith)
half_other (wrong_columns q s b not) = (λ e. omega arith, λ e. omega arith)
half_other (misplaced q s b fit not) = (λ e. omega arith, λ e. omega arith)
half_other (ready q h) = (λ e. omega arith, λ e. omega arith)

-- no two cases differ
not_half : {A : Type 0} {n : Net} {gw go : List ℕ} {k : ℕ} → (k ≡ 0 → ⊥) → HalfGives n gw go k → Half n gw go → A
not_half {n = n} {gw} {go} {k} some x h = absurd (some (sym ((half_numbers n gw go k).1 x) ∙ (half_numbers n gw go 0).1 (ready refl h)))

one : {n : Net} {gw go : List ℕ} {room k j : ℕ} → FinishGives n gw go room k → FinishGives n gw go room j → k ≡ j
one {n} {gw} {go} {room} {k} {j} (refused some x) (refused more y) = sym ((half_numbers n gw go k).1 x) ∙ (half_numbers n gw go j).1 y
one (refused some x) (none e h c) = not_half some x h
one (refused some x) (full e h m l o) = not_half some x h
one (refused some x) (added e h m l o) = not_half some x h
one (none e h c) (refused some x) = not_half some x h
one (none e h c) (none f i d) = e ∙ sym f
one (none e h c) (full f i m l o) = absurd (c l.entries l.completes)
one (none e h c) (added f i m l o) = absurd (c l.entries l.completes)
one (full e h m l o) (refused some x) = not_half some x h
one (full e h m l o) (none f i d) = absurd (d l.entries l.completes)
one (full e h m l o) (full f i p g u) = e ∙ sym f
one (full e h m l o) (added f i p g u) = absurd (omega (arith, one_least_added l g))
one (added e h m l o) (refused some x) = not_half some x h
one (added e h m l o) (none f i d) = absurd (d l.entries l.completes)
one (added e h m l o) (full f i p g u) = absurd (omega (arith, one_least_added l g))
one (added e h m l o) (added f i p g u) = e ∙ sym f

-- r is an answer as the contract of `finish` has it
pub record Conforms (n : Net) (gw go ws os ws' os' : List ℕ) (r : Result ℕ Refusal) : Type 0 where
  pub answered : Answered (half_judged n gw go) n (entries gw go) ws os ws' os' r

module _ {n : Net} {gw go ws os ws' os' : List ℕ} {r : Result ℕ Refusal} (a : Conforms n gw go ws os ws' os' r) where
  given : FinishGives n gw go (room_in ws os) (finished_number r)
  given = by (half_judged n gw go) refl a.answered
    where
      by : (j : Judged) → half_judged n gw go ≡ j → Answered j n (entries gw go) ws os ws' os' r → FinishGives n gw go (room_in ws os) (finished_number r)
      by (Err x) e b =
          let q : finished_number r ≡ number_of x = ap finished_number b.0 in
          refused (λ z. omega (arith, numbered x)) ((half_numbers n gw go (finished_number r)).0 (ap judged_number e ∙ sym q))
      by (Ok _) e (answer.none h q k) = none (ap finished_number q) (sound_half n gw go e) h
      by (Ok _) e (answer.full m l o q k) = full (ap finished_number q) (sound_half n gw go e) m l o
      by (Ok _) e (answer.finished p c l o q k) = added (ap finished_number q) (sound_half n gw go e) _ l o

  pub finish_numbers : (k : ℕ) → (finished_number r ≡ k) ↔ FinishGives n gw go (room_in ws os) k
  finish_numbers = exactly_where (FinishGives n gw go (room_in ws os)) (finished_number r) given (λ k x. one given x)

  -- ---- number by number
  pub eight : (finished_number r ≡ 8) ↔ (Half n gw go × NoneCompletes n (entries gw go))
  eight = (λ e. by ((finish_numbers 8).0 e), λ h. (finish_numbers 8).1 (none refl h.0 h.1))
    where
      by : FinishGives n gw go (room_in ws os) 8 → Half n gw go × NoneCompletes n (entries gw go)
      by (refused some x) = absurd ((half_other x).0 refl)
      by (none e h c) = (h, c)
      by (full e h m l o) = absurd (omega arith)
      by (added e h m l o) = absurd (omega arith)

  pub nine : (finished_number r ≡ 9) ↔ (Half n gw go × (m : ℕ) × LeastAdded n (entries gw go) m × (room_in ws os < m))
  nine = (λ e. by ((finish_numbers 9).0 e), λ h. (finish_numbers 9).1 (full refl h.0 h.1 h.2 h.3))
    where
      by : FinishGives n gw go (room_in ws os) 9 → Half n gw go × (m : ℕ) × LeastAdded n (entries gw go) m × (room_in ws os < m)
      by (refused some x) = absurd ((half_other x).1 refl)
      by (none e h c) = absurd (omega arith)
      by (full e h m l o) = (h, m, l, o)
      by (added e h m l o) = absurd (omega arith)

  pub nought : (finished_number r ≡ 0) ↔ (Half n gw go × (m : ℕ) × LeastAdded n (entries gw go) m × (m ≤ room_in ws os))
  nought = (λ e. by ((finish_numbers 0).0 e), λ h. (finish_numbers 0).1 (added refl h.0 h.1 h.2 h.3))
    where
      by : FinishGives n gw go (room_in ws os) 0 → Half n gw go × (m : ℕ) × LeastAdded n (entries gw go) m × (m ≤ room_in ws os)
      by (refused some x) = absurd (some refl)
      by (none e h c) = absurd (omega arith)
      by (full e h m l o) = absurd (omega arith)
      by (added e h m l o) = (h, m, l, o)

  -- with 9 the place, and with 0 the count, is the least number to add
  pub counted : (finished_number r ≡ 0) ⊎ (finished_number r ≡ 9) → LeastAdded n (entries gw go) (finished_count r)
  counted e = by (other e) (rw (half_sound n gw go (half e)) at a.answered)
    where
      half : (finished_number r ≡ 0) ⊎ (finished_number r ≡ 9) → Half n gw go
      half (inl q) = (nought.0 q).0
      half (inr q) = (nine.0 q).0

      other : (finished_number r ≡ 0) ⊎ (finished_number r ≡ 9) → finished_number r ≡ 8 → ⊥
      other (inl q) f = omega arith
      other (inr q) f = omega arith

      by : (finished_number r ≡ 8 → ⊥) → Outcome n (entries gw go) ws os ws' os' r → LeastAdded n (entries gw go) (finished_count r)
      by not (answer.none h q k) = absurd (not (ap finished_number q))
      by not (answer.full m l o q k) = rw (ap finished_count q) l
      by not (answer.finished p c l o q k) = rw (ap finished_count q) l
