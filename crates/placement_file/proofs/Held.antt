-- What the reader's answer says of a placement file where the lent columns are as long as any file needs: 9 is never given, and the columns' first places hold
-- what was read.
use Rattle.std.specs.Prelude.{Ok, Err, Result}
use Prim.Native.Nat.{ℕ, ◌≤◌, min}
use mathlib.Core.Path.{◌≡◌, refl, sym, ap, ◌∙◌}
use mathlib.Core.Bool.{Bool, true, false}
use mathlib.Core.List.{List, map}
use lib.ListN.{length, take, length-map}
use lib.Seq.{sets, length-sets}
use lib.Dec.{ltb}
use native.Mathlib.Omega.{arith}
use borrow.Author.Tests.{le-ltb, ltb-false}
use Rattle.rules.specs.declared.Entry.{Entry}
use Rattle.rules.specs.declared.Refusal.{Refusal}
use Rattle.rules.specs.declared.Refusal.TheVariants.{NoRoom}
use Rattle.rules.specs.Judged.{Judged}
use Rattle.rules.specs.Figures.{most_entries}
use Rattle.rules.proofs.Tests.{never}
use Rattle.field.specs.Listed.{listed}
use Rattle.field.proofs.Listing.{length_listed}
use Rattle.placement_file.specs.File.{Outcome, placement, refused, outcome, owed, entry_at, file_judged, placement_of, wire, offset, answer, ReadAs}
use Rattle.placement_file.proofs.Judging.{sound_few}
use Rattle.placement_file.proofs.SamePlacement.{stored}

pub few_entries : (s : List ℕ) (es : List Entry) → placement_of s ≡ placement es → length es ≤ most_entries
unfolding placement_of
few_entries s es e = by (file_judged s) refl e
  where
    by : (j : Judged) → file_judged s ≡ j → outcome j (listed (entry_at s) (owed s) 0) ≡ placement es → length es ≤ most_entries
    by (Ok _) sound h =
        let same : listed (entry_at s) (owed s) 0 ≡ es = cc in
        omega (arith, sound_few s sound, ap length same, length_listed (entry_at s) (owed s) 0)
    by (Err x) sound h = never (cc)

pub record Entries (s : List ℕ) (n : ℕ) (vs os : List ℕ) : Type 0 where
  pub es : List Entry
  pub is : placement_of s ≡ placement es
  pub in_wires : n ≤ length vs
  pub in_offsets : n ≤ length os
  pub wires : take n vs ≡ map wire es
  pub offsets : take n os ≡ map offset es

module _ (s : List ℕ) {vs os vs' os' : List ℕ} {r : Result ℕ Refusal} (a : ReadAs (placement_of s) vs os vs' os' r) where
  pub placement_read : {n : ℕ} → r ≡ Ok n → Entries s n vs' os'
  placement_read {n} e = told (placement_of s) refl
    where
      told : (o : Outcome) → placement_of s ≡ o → Entries s n vs' os'
      told (refused y) o = let z : Ok n ≡ Err y = sym e ∙ a.answered ∙ ap (answer (min (length vs) (length os))) o in never (cc)
      told (placement es) o = by (ltb (min (length vs) (length os)) (length es)) refl
        where
          by : (b : Bool) → ltb (min (length vs) (length os)) (length es) ≡ b → Entries s n vs' os'
          by true t = let z : Ok n ≡ Err (NoRoom (length es)) = sym e ∙ a.answered ∙ rw (o, t) in never (cc)
          by false t =
              let z : Ok n ≡ Ok (length es) = sym e ∙ a.answered ∙ rw (o, t) in
              let k : length es ≡ n = cc in
              let most : length es ≤ min (length vs) (length os) = ltb-false (min (length vs) (length os)) (length es) t in
              let v : vs' ≡ sets vs 0 (map wire es) = a.wires ∙ rw (o, t) in
              let w : os' ≡ sets os 0 (map offset es) = a.offsets ∙ rw (o, t) in
              record {
                es = es;
                is = o;
                in_wires = rw v (simp length-sets (omega arith));
                in_offsets = rw w (simp length-sets (omega arith));
                wires = stored vs (map wire es) v (sym (length-map es wire ∙ k)) (omega (arith, length-map es wire));
                offsets = stored os (map offset es) w (sym (length-map es offset ∙ k)) (omega (arith, length-map es offset));
              }

  pub placement_refused : {x : Refusal} → most_entries ≤ min (length vs) (length os) → r ≡ Err x → placement_of s ≡ refused x
  placement_refused {x} long e = told (placement_of s) refl
    where
      told : (o : Outcome) → placement_of s ≡ o → o ≡ refused x
      told (refused y) o = let z : Err x ≡ Err y = sym e ∙ a.answered ∙ ap (answer (min (length vs) (length os))) o in cc
      told (placement es) o =
          let few : length es ≤ most_entries = few_entries s es o in
          let f : ltb (min (length vs) (length os)) (length es) ≡ false = le-ltb (min (length vs) (length os)) (length es) (omega arith) in
          let z : Err x ≡ Ok (length es) = sym e ∙ a.answered ∙ rw (o, f) in
          never (cc)
