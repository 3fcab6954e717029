-- An answer's file, where the whole has at most 4,096 entries, is read as the whole: it has the given entries, it is legal, and the checker finds it so.
use Rattle.std.specs.Prelude.{Ok, Err}
use Prim.Native.Nat.{ℕ, ◌≤◌}
use native.Mathlib.Omega.{arith}
use mathlib.Core.Path.{◌≡◌, refl, sym, ap, ◌∙◌}
use mathlib.Core.List.{List, map}
use lib.ListN.{length, length-map}
use lib.Dec.{eqb}
use borrow.Author.Tests.{eq-eqb, le-leb}
use Rattle.rules.specs.declared.Entry.{Entry}
use Rattle.rules.specs.Judged.{Judged}
use Rattle.rules.specs.declared.Refusal.TheVariants.{OutOfRange}
use Rattle.rules.specs.Figures.{most_entries}
use Rattle.rules.specs.Net.{Net}
use Rattle.rules.specs.Load.{entries}
use Rattle.rules.specs.Legal.{start, Legal}
use Rattle.rules.specs.Complete.{Joins}
use Rattle.rules.specs.Judge.{unless, then_judge, judged}
use Rattle.rules.specs.Checked.{checked}
use Rattle.rules.proofs.Tests.{then_met}
use Rattle.rules.proofs.LegalJudged.{legal_judged}
use Rattle.standing.specs.Stands.{stood}
use Rattle.placement_file.specs.File.{wire, offset, placement, placement_of}
use Rattle.placement_file.proofs.RoundTrip.{bytes_file, entries_back}
use Rattle.finish.specs.Answer.{half_judged}
use Rattle.finish.proofs.Judging.{half_sound}
use Rattle.reply.specs.Said.{Said}
use Rattle.reply.proofs.Writing.{stands_placed}
use Rattle.finish_reply.specs.Finishes.{file_of, FinishesNet, none, full, finished, FinishesBy, Finishes}
use Rattle.finish_reply.proofs.Whole.{file_some}

pub record ReadsBack (n : Net) (g : List Entry) (s : Said) : Type 0 where
  pub whole : List Entry
  pub added : List Entry
  pub joins : Joins g added whole
  pub legal : Legal n whole
  pub file : s.file ≡ file_of whole
  pub read : length whole ≤ most_entries → placement_of s.file ≡ placement whole
  pub checks : length whole ≤ most_entries → checked n (map wire whole) (map offset whole) ≡ Ok tt

own : (n : Net) (ws os : List ℕ) → half_judged n ws os ≡ Ok tt → judged n ≡ Ok tt
unfolding half_judged
own n ws os e = (then_met (judged n) (then_judge (unless (eqb n.limits.repeater 0) (OutOfRange 0)) (stood n ws os)) e).0

legal_checked : (n : Net) (p : List Entry) → judged n ≡ Ok tt → Legal n p → length p ≤ most_entries → checked n (map wire p) (map offset p) ≡ Ok tt
unfolding checked
legal_checked n p sound legal few =
    let w = length-map p wire in
    let o = length-map p offset in
    rw (sound, eq-eqb (length (map offset p)) (length (map wire p)) (o ∙ sym w), le-leb (length (map wire p)) most_entries (omega arith), entries_back p) (legal_judged n p legal)

module _ (n : Net) (ws os : List ℕ) {s : Said} (answer : s.status ≡ 48) where
  by_net : half_judged n ws os ≡ Ok tt → FinishesNet n (entries ws os) s → ReadsBack n (entries ws os) s
  by_net j (none h e) = absurd (omega (arith, ap (λ (s : Said). s.status) e))
  by_net j (full k l m e) = absurd (omega (arith, ap (λ (s : Said). s.status) e))
  by_net j (finished a w joins legal l m e) = record {
    whole = w;
    added = a;
    joins = joins;
    legal = legal;
    file = ap (λ (s : Said). s.file) e;
    read = λ few. ap placement_of (ap (λ (s : Said). s.file) e ∙ file_some w few) ∙ bytes_file w (stands_placed start w (half_sound n ws os j).sound legal.stands few);
    checks = legal_checked n w (own n ws os j) legal;
  }

  pub reads_back : Finishes n ws os s → ReadsBack n (entries ws os) s
  reads_back f = by (half_judged n ws os) refl f
    where
      by : (j : Judged) → half_judged n ws os ≡ j → FinishesBy j n (entries ws os) s → ReadsBack n (entries ws os) s
      by (Ok _) q x = by_net q x
      by (Err r) q x = absurd (omega (arith, ap (λ (s : Said). s.status) x))
