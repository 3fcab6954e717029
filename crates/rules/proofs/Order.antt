-- A placement as a list and as offsets by wire number: what order in the list means on each wire, and that each entry is on one wire, so that a placement's length is the tree's count of entries.
use Prim.Native.Nat.{ℕ, zero, suc, ◌+◌, ◌-◌, ◌≤◌}
use mathlib.Core.Path.{◌≡◌, refl, sym, ◌∙◌}
use mathlib.Core.List.{List, [], ◌∷◌}
use lib.ListN.{length}
use native.Mathlib.Omega.{arith}
use native.Mathlib.Decide.{ℕ_discrete}
use borrow.Author.Tests.{eq-eqb, ne_eqb}
use Rattle.rules.specs.declared.Entry.{Entry}
use Rattle.rules.specs.Net.{Net, places, wire}
use Rattle.rules.specs.Tree.{tree}
use Rattle.rules.specs.Load.{offsets_on}
use Rattle.rules.specs.Legal.{After, higher, further, InOrder, start}
use Rattle.rules.specs.Sound.{SoundNet}
use Rattle.rules.specs.Sum.{sum_from, sum_over}
use Rattle.rules.proofs.EachWireOnce.{each_wire_once}
use Rattle.rules.proofs.Counting.{hit, hit_same, hit_other, hits_one}

-- the offsets rise from `at` on, to at most w
abbrev pub Rising : ℕ → ℕ → List ℕ → Type 0
Rising w at [] = at ≤ w
Rising w at (o ∷ os) = (at ≤ o) × Rising w o os

pub after_after : {c d e : Entry} → After c d → After d e → After c e
after_after (higher x) (higher y) = higher (omega arith)
after_after (higher x) (further y o) = higher (omega arith)
after_after (further x o) (higher y) = higher (omega arith)
after_after (further x o) (further y o') = further (omega arith) (omega arith)

same_wire : {d e : Entry} → After d e → d.wire ≡ e.wire → d.offset ≤ e.offset
same_wire (higher x) q = omega arith
same_wire (further x o) q = o

rising : (n : Net) (i : ℕ) (d : Entry) (es : List Entry) → InOrder n d es → (at : ℕ) → at ≤ wire n i → ((e : Entry) → After d e → e.wire ≡ i → at ≤ e.offset)
    → Rising (wire n i) at (offsets_on es i)
unfolding offsets_on
rising n i d [] h at w from = w
rising n i d (e ∷ es) h at w from = elim (ℕ_discrete e.wire i) [
  | yes q ↦ rw (eq-eqb e.wire i q)
      (from e h.0 q, rising n i e es h.2 e.offset (rw q at h.1.offset) (λ e' a q'. same_wire a (q ∙ sym q')))
  | no ne ↦ rw (ne_eqb e.wire i ne) (rising n i e es h.2 at w (λ e' a q. from e' (after_after h.0 a) q))
]

pub in_order_rises : (n : Net) (p : List Entry) → InOrder n start p → (i : ℕ) → Rising (wire n i) 0 (offsets_on p i)
in_order_rises n p h i = rising n i start p h 0 (omega arith) (λ e a q. omega arith)

-- each entry is on one wire
sum_split : (f g h : ℕ → ℕ) → ((i : ℕ) → f i ≡ g i + h i) → (k i : ℕ) → sum_from f k i ≡ sum_from g k i + sum_from h k i
unfolding sum_from
sum_split f g h e zero i = refl
sum_split f g h e (suc k) i = omega (arith, e i, sum_split f g h e k (suc i))

sum_none : (k i : ℕ) → sum_from (λ j. 0) k i ≡ 0
unfolding sum_from
sum_none zero i = refl
sum_none (suc k) i = omega (arith, sum_none k (suc i))

one_more : (e : Entry) (es : List Entry) (i : ℕ) → length (offsets_on (e ∷ es) i) ≡ hit e.wire i + length (offsets_on es i)
unfolding offsets_on
one_more e es i = elim (ℕ_discrete e.wire i) [
  | yes q ↦ rw (eq-eqb e.wire i q) (omega (arith, hit_same e.wire i (sym q)))
  | no ne ↦ rw (ne_eqb e.wire i ne) (omega (arith, hit_other e.wire i (λ q. ne (sym q))))
]

pub entries_counted : (n : Net) (d : Entry) (p : List Entry) → InOrder n d p → sum_from (λ i. length (offsets_on p i)) (places n - 1) 1 ≡ length p
unfolding offsets_on
entries_counted n d [] h = sum_none (places n - 1) 1
entries_counted n d (e ∷ es) h =
    omega (
      arith,
      sum_split (λ i. length (offsets_on (e ∷ es) i)) (hit e.wire) (λ i. length (offsets_on es i)) (one_more e es) (places n - 1) 1,
      hits_one e.wire (places n - 1) 1 h.1.above (omega (arith, h.1.above, h.1.within)),
      entries_counted n e es h.2,
    )

-- a placement's length is the tree's count of entries
pub length_is_count : {n : Net} → SoundNet n → (p : List Entry) → InOrder n start p → length p ≡ sum_over (λ i. length (offsets_on p i)) (tree n)
length_is_count {n} s p h = sym (each_wire_once s (λ i. length (offsets_on p i)) ∙ entries_counted n start p h)
