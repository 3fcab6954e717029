-- From offsets by wire number to a list: `placed` gives a list in order with those offsets.
use Prim.Native.Nat.{ℕ, zero, suc, ◌+◌, ◌-◌, ◌≤◌, ◌<◌}
use mathlib.Core.Path.{◌≡◌, refl, ap, ◌∙◌}
use mathlib.Core.List.{List, [], ◌∷◌, ◌++◌, append-nil}
use lib.ListN.{length, length-append}
use native.Mathlib.Omega.{arith}
use native.Mathlib.Decide.{ℕ_discrete}
use borrow.Author.Tests.{eq-eqb, ne_eqb}
use Rattle.rules.specs.declared.Entry.{Entry}
use Rattle.rules.specs.Net.{Net, places, wire}
use Rattle.rules.specs.Load.{offsets_on}
use Rattle.rules.specs.Legal.{After, higher, further, InOrder, start}
use Rattle.rules.specs.Sum.{sum_from}
use Rattle.frontier.specs.Placed.{on_wire, on_wires, placed}
use Rattle.rules.proofs.Order.{Rising}

on_same : (i : ℕ) (os : List ℕ) (rest : List Entry) → offsets_on (on_wire i os ++ rest) i ≡ os ++ offsets_on rest i
unfolding on_wire offsets_on
on_same i [] rest = refl
on_same i (o ∷ os) rest = rw (eq-eqb i i refl) (ap (λ (l : List ℕ). o ∷ l) (on_same i os rest))

on_other : (i j : ℕ) → (j ≡ i → ⊥) → (os : List ℕ) (rest : List Entry) → offsets_on (on_wire j os ++ rest) i ≡ offsets_on rest i
unfolding on_wire offsets_on
on_other i j ne [] rest = refl
on_other i j ne (o ∷ os) rest = rw (ne_eqb j i ne) (on_other i j ne os rest)

on_before : (offs : ℕ → List ℕ) (k j i : ℕ) → i < j → offsets_on (on_wires offs k j) i ≡ []
unfolding on_wires offsets_on
on_before offs zero j i h = refl
on_before offs (suc k) j i h = on_other i j (λ e. omega arith) (offs j) (on_wires offs k (suc j)) ∙ on_before offs k (suc j) i (omega arith)

on_wires_lem : (offs : ℕ → List ℕ) (k j i : ℕ) → j ≤ i → i < j + k → offsets_on (on_wires offs k j) i ≡ offs i
unfolding on_wires
on_wires_lem offs zero j i h g = absurd (omega arith)
on_wires_lem offs (suc k) j i h g = elim (ℕ_discrete j i) [
  | yes e ↦ rw e (on_same i (offs i) (on_wires offs k (suc i)) ∙ rw (on_before offs k (suc i) i (omega arith)) (append-nil (offs i)))
  | no ne ↦ on_other i j ne (offs j) (on_wires offs k (suc j)) ∙ on_wires_lem offs k (suc j) i (omega arith) (omega arith)
]

pub placed_offsets : (n : Net) (offs : ℕ → List ℕ) (i : ℕ) → 1 ≤ i → i < places n → offsets_on (placed n offs) i ≡ offs i
placed_offsets n offs i h g = on_wires_lem offs (places n - 1) 1 i h (omega arith)

wire_length : (i : ℕ) (os : List ℕ) → length (on_wire i os) ≡ length os
unfolding on_wire
wire_length i [] = refl
wire_length i (o ∷ os) = ap suc (wire_length i os)

pub wires_length : (offs : ℕ → List ℕ) (k i : ℕ) → length (on_wires offs k i) ≡ sum_from (λ j. length (offs j)) k i
unfolding on_wires sum_from
wires_length offs zero i = refl
wires_length offs (suc k) i = omega (arith, length-append (on_wire i (offs i)) (on_wires offs k (suc i)), wire_length i (offs i), wires_length offs k (suc i))

wire_in_order : (n : Net) (i at : ℕ) (os : List ℕ) (rest : List Entry) (d : Entry) → 1 ≤ i → i < places n → Rising (wire n i) at os
    → ((o : ℕ) → at ≤ o → After d (record { wire = i; offset = o })) → ((e : Entry) → e.wire ≤ i → InOrder n e rest) → d.wire ≤ i → InOrder n d (on_wire i os ++ rest)
unfolding on_wire
wire_in_order n i at [] rest d above within r from next le = next d le
wire_in_order n i at (o ∷ os) rest d above within r from next le = (
  from o r.0,
  record { above = above; within = within; offset = top o os r.1 },
  wire_in_order n i o os rest (record { wire = i; offset = o }) above within r.1 (λ o' h. further refl h) next (omega arith),
)
  where
    top : (o : ℕ) (os : List ℕ) → Rising (wire n i) o os → o ≤ wire n i
    top o [] r = r
    top o (o' ∷ os) r = omega (arith, r.0, top o' os r.1)

wires_in_order : (n : Net) (offs : ℕ → List ℕ) (k i : ℕ) (d : Entry) → 1 ≤ i → i + k ≤ places n → ((j : ℕ) → 1 ≤ j → j < places n → Rising (wire n j) 0 (offs j)) → d.wire < i
    → InOrder n d (on_wires offs k i)
unfolding on_wires
wires_in_order n offs zero i d above within r lt = tt
wires_in_order n offs (suc k) i d above within r lt =
    wire_in_order n i 0 (offs i) (on_wires offs k (suc i)) d above (omega arith) (r i above (omega arith)) (λ o h. higher lt)
    (λ e le. wires_in_order n offs k (suc i) e (omega arith) (omega arith) r (omega arith)) (omega arith)

pub placed_in_order : (n : Net) (offs : ℕ → List ℕ) → 1 ≤ places n → ((j : ℕ) → 1 ≤ j → j < places n → Rising (wire n j) 0 (offs j)) → InOrder n start (placed n offs)
placed_in_order n offs some r = wires_in_order n offs (places n - 1) 1 start (omega arith) (omega arith) r (omega arith)
