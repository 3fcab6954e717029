-- The topmost given offset of each wire, entry after entry: what is left decides.
use Rattle.std.specs.Prelude.{Option, Some, None}
use Prim.Native.Nat.{ℕ, suc, ◌+◌, ◌≤◌, ◌<◌}
use mathlib.Core.Path.{◌≡◌, refl, sym, subst, ap, ◌∙◌}
use mathlib.Core.List.{List, [], ◌∷◌}
use lib.ListN.{length, get_or, set, length-set}
use lib.Seq.{get_or-set_same, get_or-set_other}
use native.Mathlib.Omega.{arith}
use native.Mathlib.Decide.{ℕ_discrete}
use Rattle.rules.specs.declared.Entry.{Entry}
use Rattle.rules.specs.Load.{entries, offsets_on}
use Rattle.relief.specs.Pieces.{topmost, lead_of}
use Rattle.relief.specs.Runs.{from}
use Rattle.relief.proofs.Runs.{here, elsewhere}
use Rattle.buffers.specs.Going.{lead_from, leads_in}
use Rattle.adding.proofs.Walking.{entry_at, entry_none}
use Rattle.adding.specs.Given.{Leads}
use Rattle.finish.specs.Given.{Fresh}

-- the lead that comes of x once the offsets are passed
abbrev then : ℕ → List ℕ → ℕ
then x [] = x
then x (o ∷ os) = suc (topmost o os)

then_next : (x o : ℕ) (os : List ℕ) → then x (o ∷ os) ≡ then (suc o) os
unfolding topmost
then_next x o [] = refl
then_next x o (p ∷ os) = refl

then_all : (os : List ℕ) → then 0 os ≡ lead_of os
then_all [] = refl
then_all (o ∷ os) = refl

pub record Leading (ws os : List ℕ) (leads₀ leads : List (Option ℕ)) (e : ℕ) : Type 0 where
  pub within : e ≤ length ws
  pub long : length leads ≡ length leads₀
  pub left : (i : ℕ) → then (leads_in leads i) (offsets_on (from ws os e) i) ≡ lead_of (offsets_on (entries ws os) i)

pub leading_start : {ws os : List ℕ} {leads : List (Option ℕ)} → Fresh ws os leads → Leading ws os leads leads 0
leading_start {ws} {os} {leads} c = record { within = omega arith; long = refl; left = λ i. ap (λ (x : Option ℕ). then (lead_from x) (offsets_on (entries ws os) i)) (c.clear i) ∙ then_all (offsets_on (entries ws os) i) }

module _ {ws os : List ℕ} {leads₀ leads : List (Option ℕ)} {e : ℕ} (s : Leading ws os leads₀ leads e) (same : length os ≡ length ws) (h : e < length ws) (low : get_or ws e 0 < length leads₀) where
  abbrev v : ℕ
  v = get_or ws e 0

  abbrev o : ℕ
  o = get_or os e 0

  one : e + 1 ≡ suc e
  one = omega arith

  split : (i : ℕ) → offsets_on (from ws os e) i ≡ offsets_on (record { wire = v; offset = o } ∷ from ws os (suc e)) i
  split i = ap (λ (es : List Entry). offsets_on es i) (entry_at ws os e same h)

  pub leading_more : Leading ws os leads₀ (set leads (get_or ws e 0) (Some (get_or os e 0))) (e + 1)
  leading_more = record {
    within = omega arith;
    long = length-set leads v (Some o) ∙ s.long;
    left = λ i. elim (ℕ_discrete v i) [
      | yes q ↦ (
          let z : get_or (set leads v (Some o)) i None ≡ Some o = subst (λ (i : ℕ). get_or (set leads v (Some o)) i None ≡ Some o) q (get_or-set_same leads v (Some o) None (omega (arith, s.long))) in
          ap (λ (x : Option ℕ). then (lead_from x) (offsets_on (from ws os (e + 1)) i)) z ∙ ap (λ (k : ℕ). then (suc o) (offsets_on (from ws os k) i)) one
          ∙ sym (then_next (leads_in leads i) o (offsets_on (from ws os (suc e)) i)) ∙ ap (then (leads_in leads i)) (sym (split i ∙ here i (record { wire = v; offset = o }) (from ws os (suc e)) q)) ∙ s.left i
          )
      | no ne ↦ (
          ap (λ (x : Option ℕ). then (lead_from x) (offsets_on (from ws os (e + 1)) i)) (get_or-set_other leads v i (Some o) None (λ q. ne (sym q))) ∙ ap (λ (k : ℕ). then (leads_in leads i) (offsets_on (from ws os k) i)) one
          ∙ ap (then (leads_in leads i)) (sym (split i ∙ elsewhere i (record { wire = v; offset = o }) (from ws os (suc e)) ne)) ∙ s.left i
          )
    ];
  }

pub leading_end : {ws os : List ℕ} {leads₀ leads : List (Option ℕ)} {e : ℕ} → Leading ws os leads₀ leads e → length ws ≤ e → Leads ws os leads
unfolding offsets_on
leading_end {ws} {os} {leads₀} {leads} {e} s h = record { is = λ i. let z = entry_none ws os e h in sym (ap (λ (es : List Entry). then (leads_in leads i) (offsets_on es i)) z) ∙ s.left i }
