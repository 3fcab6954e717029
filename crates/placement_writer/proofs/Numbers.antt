-- The writer's numbers: for an answer that meets the contract each is given, with its bytes or place, exactly where its row says.
use Rattle.std.specs.Prelude.{Ok, Err, Result}
use Prim.Native.Nat.{ℕ, ◌<◌}
use native.Mathlib.Omega.{arith}
use mathlib.Core.Path.{◌≡◌, refl, sym, subst, ◌∙◌}
use mathlib.Core.Logic.{◌↔◌}
use mathlib.Core.List.{List, map}
use mathlib.Core.Bool.{Bool, true, false}
use lib.ListN.{length}
use Rattle.rules.specs.Load.{entries}
use Rattle.rules.specs.Checked.{placement_fits}
use Rattle.rules.specs.Judge.{unless}
use Rattle.rules.specs.declared.Entry.{Entry}
use Rattle.rules.specs.declared.Refusal.{Refusal}
use Rattle.rules.specs.declared.Refusal.TheVariants.{OutOfRange}
use Rattle.rules.specs.Judged.{Judged}
use Rattle.rules.proofs.Tests.{never, unless_met}
use Rattle.rules.proofs.Each.{first_refused, refused_first}
use Rattle.field.specs.Format.{wrote, wrote_number, wrote_count}
use Rattle.field.proofs.Writing.{WroteRow, wrote_row}
use Rattle.placement_file.specs.File.{placement, wire, offset, entry_in_range, column_entry, range_judged, ranges_judged, columns_judged, columns_of, placement_bytes, written, WroteAs}
use Rattle.placement_file.proofs.RoundTrip.{Placed, columns_back, columns_placed}

-- one row a reason: the number k, with the bytes written or needed, or the entry
pub data WriteRow (vs os out : List ℕ) (k p : ℕ) : Type 0 where
  columns : placement_fits vs os ≡ false → k ≡ 7 → p ≡ 0 → WriteRow vs os out k p
  range : placement_fits vs os ≡ true → p < length vs → ((j : ℕ) → j < p → entry_in_range (column_entry vs os j) ≡ true) → entry_in_range (column_entry vs os p) ≡ false → k ≡ 3 → WriteRow vs os out k p
  file : (es : List Entry) → Placed es → vs ≡ map wire es → os ≡ map offset es → WroteRow (placement_bytes es) out k p → WriteRow vs os out k p

module _ (vs os out : List ℕ) where
  abbrev Answered : ℕ → ℕ → Type 0
  Answered k p = (wrote_number (written (columns_of vs os) out) ≡ k) × (wrote_count (written (columns_of vs os) out) ≡ p)

  in_range : (j : ℕ) {b : Bool} → entry_in_range (column_entry vs os j) ≡ b → range_judged vs os j ≡ unless b (OutOfRange j)
  unfolding range_judged
  in_range j e = rw e

  given : {k p : ℕ} → WriteRow vs os out k p → Answered k p
  unfolding columns_of columns_judged
  given (columns e q z) = rw e (sym q, sym z)
  given {k} {p} (range e h before here q) =
      let first : ranges_judged vs os ≡ Err (OutOfRange p) = first_refused (range_judged vs os) (length vs) 0 p (record { low = omega arith; high = omega arith; before = λ j lo hi. in_range j (before j hi); here = in_range p here }) in
      rw (e, first) (sym q, refl)
  given {k} {p} (file es h v o w) =
      let is : columns_of vs os ≡ placement es = rw (v, o) (columns_back es h) in
      rw is ((wrote_row (placement_bytes es) out k p).0 w)

  -- some row always holds
  abbrev Some : Type 0
  Some = (k : ℕ) × (p : ℕ) × WriteRow vs os out k p

  at_entry : placement_fits vs os ≡ true → (i : ℕ) {r : Refusal} → i < length vs → ((j : ℕ) → j < i → range_judged vs os j ≡ Ok tt) → (b : Bool) → entry_in_range (column_entry vs os i) ≡ b → unless b (OutOfRange i) ≡ Err r → Some
  unfolding range_judged
  at_entry e i h before true t f = never (cc)
  at_entry e i h before false t f = (3, i, range e h (λ j l. unless_met _ (OutOfRange j) (before j l)) t refl)

  at_ranges : placement_fits vs os ≡ true → (j : Judged) → ranges_judged vs os ≡ j → Some
  unfolding columns_of columns_judged
  at_ranges e (Ok _) f =
      let (h, v, o) = columns_placed vs os (entries vs os) (rw (e, f)) in
      let bs = placement_bytes (entries vs os) in
      (_, _, file (entries vs os) h v o ((wrote_row bs out (wrote_number (wrote bs out)) (wrote_count (wrote bs out))).1 (refl, refl)))
  at_ranges e (Err r) f =
      let (i, x) = refused_first (range_judged vs os) (length vs) 0 f in
      at_entry e i (omega (arith, x.high)) (λ j l. x.before j (omega arith) l) (entry_in_range (column_entry vs os i)) refl (sym (in_range i refl) ∙ x.here)

  some : (b : Bool) → placement_fits vs os ≡ b → Some
  some true e = at_ranges e (ranges_judged vs os) refl
  some false e = (7, 0, columns e refl refl)

  exactly : (k p : ℕ) → WriteRow vs os out k p ↔ Answered k p
  exactly k p =
      (given, λ a. let (x, y, r) = some (placement_fits vs os) refl in let g = given r in subst (λ (z : ℕ). WriteRow vs os out z p) (sym g.0 ∙ a.0) (subst (WriteRow vs os out x) (sym g.1 ∙ a.1) r))

pub write_placement_numbers : (vs os out : List ℕ) {out' : List ℕ} {r : Result ℕ Refusal} → WroteAs (columns_of vs os) out out' r
    → (k p : ℕ) → WriteRow vs os out k p ↔ ((wrote_number r ≡ k) × (wrote_count r ≡ p))
write_placement_numbers vs os out a k p =
    subst (λ (x : Result ℕ Refusal). WriteRow vs os out k p ↔ ((wrote_number x ≡ k) × (wrote_count x ≡ p))) (sym a.answered) (exactly vs os out k p)
