-- What is judged before a net is finished, in its order.
use Rattle.std.specs.Prelude.{Ok, Err, Result}
use Prim.Native.Nat.{ℕ}
use mathlib.Core.Path.{◌≡◌, refl, sym, subst}
use mathlib.Core.List.{List}
use lib.ListN.{length}
use lib.Dec.{eqb, leb}
use borrow.Author.Tests.{eq-eqb, ne_eqb, eqb-true, leb-true}
use Rattle.rules.specs.declared.Entry.{Entry}
use Rattle.rules.specs.declared.Refusal.{Refusal}
use Rattle.rules.specs.declared.Refusal.TheVariants.{OutOfRange, WrongColumns}
use Rattle.rules.specs.Judged.{Judged}
use Rattle.rules.specs.Figures.{most_entries}
use Rattle.rules.specs.Net.{Net}
use Rattle.rules.specs.Load.{entries}
use Rattle.rules.specs.Legal.{start}
use Rattle.rules.specs.Judge.{unless, then_judge, judged}
use Rattle.rules.specs.Checked.{placement_fits, placed_from}
use Rattle.rules.specs.Sound.{SoundNet}
use Rattle.rules.proofs.SoundSays.{sound_says}
use Rattle.rules.proofs.Tests.{both_met, unless_met, then_met}
use Rattle.rules.proofs.LegalJudged.{placed_order}
use Rattle.standing.specs.Stands.{stood}
use Rattle.adding.specs.Given.{Stood}
use Rattle.finish.specs.Answer.{half_judged, Outcome, Answered}

module _ (n : Net) (ws os : List ℕ) where
  pub half_own : {x : Refusal} → judged n ≡ Err x → Err x ≡ half_judged n ws os
  unfolding half_judged
  half_own e = rw e

  pub half_type : judged n ≡ Ok tt → (n.limits.repeater ≡ 0 → ⊥) → Err (OutOfRange 0) ≡ half_judged n ws os
  unfolding half_judged
  half_type e ne = rw (e, ne_eqb n.limits.repeater 0 ne)

  pub half_rest : (r : Judged) → judged n ≡ Ok tt → n.limits.repeater ≡ 0 → r ≡ stood n ws os → r ≡ half_judged n ws os
  unfolding half_judged
  half_rest r e z q = rw (e, eq-eqb n.limits.repeater 0 z) q

  pub record Ready : Type 0 where
    pub sound : SoundNet n
    pub buffers : n.limits.repeater ≡ 0
    pub stood : Stood n ws os

  pub half_sound : half_judged n ws os ≡ Ok tt → Ready
  unfolding half_judged
  half_sound e =
      let (s, x) = then_met (judged n) (then_judge (unless (eqb n.limits.repeater 0) (OutOfRange 0)) (stood n ws os)) e in
      let (t, y) = then_met (unless (eqb n.limits.repeater 0) (OutOfRange 0)) (stood n ws os) x in
      let (f, p) = then_met (unless (placement_fits ws os) WrongColumns) (placed_from n start 0 (entries ws os)) y in
      let (a, b) = both_met (eqb (length os) (length ws)) (leb (length ws) most_entries) (unless_met (placement_fits ws os) WrongColumns f) in
      record {
        sound = sound_says n s;
        buffers = eqb-true n.limits.repeater 0 (unless_met (eqb n.limits.repeater 0) (OutOfRange 0) t);
        stood = record { same = eqb-true (length os) (length ws) a; few = leb-true (length ws) most_entries b; order = placed_order n start 0 (entries ws os) p };
      }

pub refused : (j : Judged) (n : Net) (g : List Entry) (ws os : List ℕ) {x : Refusal} → j ≡ Err x → Answered j n g ws os ws os (Err x)
refused j n g ws os {x} e = subst (λ (j : Judged). Answered j n g ws os ws os (Err x)) (sym e) (refl, record { wires = refl; offsets = refl })

pub answered : (j : Judged) {n : Net} {g : List Entry} {ws os ws' os' : List ℕ} {r : Result ℕ Refusal} → j ≡ Ok tt → Outcome n g ws os ws' os' r → Answered j n g ws os ws' os' r
answered j {n} {g} {ws} {os} {ws'} {os'} {r} e o = subst (λ (j : Judged). Answered j n g ws os ws' os' r) (sym e) o
