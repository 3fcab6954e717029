-- Bytes that begin alike are read alike. Any field is decided by its first 14 bytes, and what stands where one tag is due by as many bytes as a field of that tag has;
-- so what a file says whose fields end within some bytes is decided by those.
use Prim.Native.Nat.{ℕ, zero, suc, ◌+◌, ◌-◌, ◌≤◌, ◌<◌}
use native.Mathlib.Omega.{arith}
use mathlib.Core.Path.{◌≡◌, refl, sym, ap, ◌∙◌}
use mathlib.Core.Bool.{Bool, true, false}
use mathlib.Core.List.{List, [], ◌∷◌}
use lib.ListN.{length, get_or, take, drop, length-drop}
use lib.Seq.{get_or-take, get_or-drop, length-take-le, take_all}
use lib.Dec.{eqb}
use borrow.Author.Tests.{eqb-true, eqb-false}
use Rattle.field.specs.declared.Value.{Value}
use Rattle.field.specs.declared.Value.TheVariants.{Limits, Branch, Sink, Count, Entry, End}
use Rattle.field.specs.Format.{number_at, numbers_at, sum, widths_of, length_of, tag_of, value_in, field_in, field_at, due_in, due_at}
use Rattle.field.proofs.Numbers.{AreBytes}
use Rattle.field.proofs.Reading.{not_due, got}
use Rattle.field.proofs.RoundTrip.{kept}
use Rattle.field.proofs.Due.{other_due}

-- ---- one field

-- bytes from a place on that are alike in the first w
record Begins (w : ℕ) (l m : List ℕ) : Type 0 where
  pub bytes : AreBytes l
  pub bytes' : AreBytes m
  pub alike : (j : ℕ) → j < w → get_or l j 0 ≡ get_or m j 0
  pub here : w ≤ length l
  pub there : w ≤ length m

module _ {w : ℕ} {l m : List ℕ} (b : Begins w l m) where
  same_number : (v k : ℕ) → k + v ≤ w → number_at v l k ≡ number_at v m k
  same_number zero k h = refl
  same_number (suc zero) k h = b.alike k (omega arith)
  same_number (suc (suc v)) k h = rw (same_number (suc v) k (omega arith), b.alike (k + suc v) (omega arith))

  same_numbers : (vs : List ℕ) (k : ℕ) → k + sum vs ≤ w → numbers_at vs l k ≡ numbers_at vs m k
  same_numbers [] k h = refl
  same_numbers (v ∷ vs) k h = rw (same_number v k (omega arith), same_numbers vs (k + v) (omega arith))

  -- where they are alike as far as the field goes that stands there
  same_in : 3 ≤ w → (number_at 2 l 1 ≡ length_of (get_or l 0 0) → 3 + length_of (get_or l 0 0) ≤ w) → (at : ℕ) → field_in at l ≡ field_in at m
  same_in three far at = by (eqb (number_at 2 l 1) (length_of (get_or l 0 0))) refl
    where
      tag : get_or l 0 0 ≡ get_or m 0 0
      tag = b.alike 0 (omega arith)

      said : number_at 2 l 1 ≡ number_at 2 m 1
      said = same_number 2 1 (omega arith)

      by : (q : Bool) → eqb (number_at 2 l 1) (length_of (get_or l 0 0)) ≡ q → field_in at l ≡ field_in at m
      by false e =
          let no : number_at 2 l 1 ≡ length_of (get_or l 0 0) → ⊥ = eqb-false _ _ e in
          sym (not_due at l (omega (arith, b.here)) refl refl no) ∙ not_due at m (omega (arith, b.there)) said (ap length_of tag) no
      by true e =
          let is : number_at 2 l 1 ≡ length_of (get_or l 0 0) = eqb-true _ _ e in
          let few : 3 + length_of (get_or l 0 0) ≤ w = far is in
          sym (got at l (omega (arith, b.here)) refl refl is (omega (arith, b.here)) refl)
          ∙ got at m (omega (arith, b.there)) said (ap length_of tag) is (omega (arith, b.there)) (rw (same_numbers (widths_of (get_or l 0 0)) 3 few, tag))

field_size : (v : Value) → length_of (tag_of v) ≤ 11
field_size (Limits l) = omega arith
field_size (Branch p w) = omega arith
field_size (Sink p w c q) = omega arith
field_size (Count n) = omega arith
field_size (Entry e) = omega arith
field_size End = omega arith

same_field : {l m : List ℕ} → Begins 14 l m → (at : ℕ) → field_in at l ≡ field_in at m
same_field {l} {m} b at = same_in b (omega arith) few at
  where
    few : number_at 2 l 1 ≡ length_of (get_or l 0 0) → 3 + length_of (get_or l 0 0) ≤ 14
    few is =
        let small : length_of (get_or l 0 0) < 65536 = omega (arith, b.bytes 1, b.bytes 2) in
        let size : length_of (get_or l 0 0) ≤ 11 = rw (kept (get_or l 0 0) small l).0 at (field_size (value_in (get_or l 0 0) l)) in
        omega arith

same_due : {l m : List ℕ} (tag : ℕ) → Begins (3 + length_of tag) l m → (at : ℕ) → due_in tag (field_in at l) ≡ due_in tag (field_in at m)
same_due {l} {m} tag b at = by (eqb (get_or l 0 0) tag) refl
  where
    by : (q : Bool) → eqb (get_or l 0 0) tag ≡ q → due_in tag (field_in at l) ≡ due_in tag (field_in at m)
    by true e =
        let is : get_or l 0 0 ≡ tag = eqb-true _ _ e in
        ap (due_in tag) (same_in b (omega arith) (λ q. omega (arith, ap length_of is)) at)
    by false e =
        let no : get_or l 0 0 ≡ tag → ⊥ = eqb-false _ _ e in
        sym (other_due at l b.bytes (omega (arith, b.here)) no) ∙ other_due at m b.bytes' (omega (arith, b.there)) (λ is. no (b.alike 0 (omega arith) ∙ is))

-- ---- a file

-- two files that are alike in their first bytes, and longer
pub record Alike (most : ℕ) (s u : List ℕ) : Type 0 where
  pub bytes : AreBytes s
  pub bytes' : AreBytes u
  pub alike : (j : ℕ) → j < most → get_or s j 0 ≡ get_or u j 0
  pub here : most < length s
  pub there : most < length u

module _ {most : ℕ} {s u : List ℕ} (a : Alike most s u) where
  from : (at w : ℕ) → at + w ≤ most → Begins w (drop at s) (drop at u)
  from at w h =
      record {
        bytes = λ k. rw get_or-drop (a.bytes (at + k));
        bytes' = λ k. rw get_or-drop (a.bytes' (at + k));
        alike = λ j i. get_or-drop at s j 0 ∙ a.alike (at + j) (omega arith) ∙ sym (get_or-drop at u j 0);
        here = simp length-drop (omega (arith, a.here));
        there = simp length-drop (omega (arith, a.there));
      }

  pub same_field_at : (at : ℕ) → at + 14 ≤ most → field_at s at ≡ field_at u at
  same_field_at at h = same_field (from at 14 h) at

  pub same_due_at : (tag at : ℕ) → at + (3 + length_of tag) ≤ most → due_at tag s at ≡ due_at tag u at
  same_due_at tag at h = same_due tag (from at (3 + length_of tag) h) at

take_bytes : (n : ℕ) (s : List ℕ) → AreBytes s → AreBytes (take n s)
take_bytes zero s by k = omega arith
take_bytes (suc n) [] by k = omega arith
take_bytes (suc n) (x ∷ s) by zero = by 0
take_bytes (suc n) (x ∷ s) by (suc k) = take_bytes n s (λ j. by (suc j)) k

-- what is said alike of such files is said by their first bytes, whatever comes after
pub by_first : {A : Type 0} (says : List ℕ → A) (most : ℕ) → ((s u : List ℕ) → Alike most s u → says s ≡ says u) → (s : List ℕ) (n : ℕ) → AreBytes s → most < n → says (take n s) ≡ says s
by_first says most same s n by h = cases (length s - n) refl
  where
    cases : (more : ℕ) → length s - n ≡ more → says (take n s) ≡ says s
    cases zero e = ap says (take_all n s (omega arith))
    cases (suc more) e =
        sym (same s (take n s) (record {
          bytes = by;
          bytes' = take_bytes n s by;
          alike = λ j i. sym (get_or-take n s j 0 (omega arith));
          here = omega arith;
          there = omega (arith, length-take-le n s (omega arith));
        }))
