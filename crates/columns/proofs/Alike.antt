-- Two calls on the same columns agree in everything but the first k places of what they leave.
use Prim.Native.Nat.{ℕ, suc, ◌+◌, ◌≤◌}
use mathlib.Core.Path.{◌≡◌, refl, sym, ap, ◌∙◌}
use mathlib.Core.List.{List, [], ◌∷◌, map}
use native.Mathlib.Omega.{arith}
use lib.ListN.{length, get_or, set}
use lib.Seq.{sets, length-sets, get_or-set_other}
use Rattle.rules.specs.declared.Entry.{Entry}
use Rattle.columns.specs.Columns.{Kept, Holds}
use Rattle.columns.proofs.Listing.{column_length}

-- the same answer, the same lengths, and the same content of every place from k on
pub record Alike {A : Type 0} (r r' : A) (k : ℕ) (ws os ws' os' : List ℕ) : Type 0 where
  pub answer : r ≡ r'
  pub wires_long : length ws ≡ length ws'
  pub offsets_long : length os ≡ length os'
  pub wires : (j : ℕ) → k ≤ j → get_or ws j 0 ≡ get_or ws' j 0
  pub offsets : (j : ℕ) → k ≤ j → get_or os j 0 ≡ get_or os' j 0

sets_beyond : (l : List ℕ) (i : ℕ) (vs : List ℕ) (j : ℕ) → i + length vs ≤ j → get_or (sets l i vs) j 0 ≡ get_or l j 0
sets_beyond l i [] j h = refl
sets_beyond l i (v ∷ vs) j h = sets_beyond (set l i v) (suc i) vs j (omega arith) ∙ get_or-set_other l i j v 0 (λ e. omega arith)

-- what an answer leaves of one column, from k on
record Left (k : ℕ) (l l' : List ℕ) : Type 0 where
  long : length l' ≡ length l
  beyond : (j : ℕ) → k ≤ j → get_or l' j 0 ≡ get_or l j 0

left_kept : (k : ℕ) {l l' : List ℕ} → l' ≡ l → Left k l l'
left_kept k e = record { long = ap length e; beyond = λ j h. ap (λ (x : List ℕ). get_or x j 0) e }

left_sets : (f : Entry → ℕ) (p : List Entry) (k : ℕ) {l l' : List ℕ} → length p ≡ k → l' ≡ sets l 0 (map f p) → Left k l l'
left_sets f p k {l} {l'} q e = record {
  long = ap length e ∙ length-sets l 0 (map f p);
  beyond = λ j h. ap (λ (x : List ℕ). get_or x j 0) e ∙ sets_beyond l 0 (map f p) j (omega (arith, column_length f p));
}

alike : {A : Type 0} {r r' : A} {k : ℕ} {ws os ws₁ os₁ ws₂ os₂ : List ℕ} → r ≡ r' → Left k ws ws₁ → Left k os os₁ → Left k ws ws₂ → Left k os os₂ → Alike r r' k ws₁ os₁ ws₂ os₂
alike e a b c d = record {
  answer = e;
  wires_long = a.long ∙ sym c.long;
  offsets_long = b.long ∙ sym d.long;
  wires = λ j h. a.beyond j h ∙ sym (c.beyond j h);
  offsets = λ j h. b.beyond j h ∙ sym (d.beyond j h);
}

pub alike_kept : {A : Type 0} {r r' : A} (k : ℕ) {ws os ws₁ os₁ ws₂ os₂ : List ℕ} → r ≡ r' → Kept ws os ws₁ os₁ → Kept ws os ws₂ os₂ → Alike r r' k ws₁ os₁ ws₂ os₂
alike_kept k e a b = alike e (left_kept k a.wires) (left_kept k a.offsets) (left_kept k b.wires) (left_kept k b.offsets)

pub alike_holds : {A : Type 0} {r r' : A} (k : ℕ) {p q : List Entry} {ws os ws₁ os₁ ws₂ os₂ : List ℕ} → r ≡ r' → length p ≡ k → length q ≡ k → Holds p ws os ws₁ os₁ → Holds q ws os ws₂ os₂
    → Alike r r' k ws₁ os₁ ws₂ os₂
alike_holds k {p} {q} e x y a b =
    alike e (left_sets (λ z. z.wire) p k x a.wires) (left_sets (λ z. z.offset) p k x a.offsets) (left_sets (λ z. z.wire) q k y b.wires) (left_sets (λ z. z.offset) q k y b.offsets)
