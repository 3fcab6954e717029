-- A wire hung before the slot of the wires after it, at one polarity: each return of the code.
use Prim.Native.Nat.{ℕ, ◌+◌, ◌≤◌, ◌<◌, min}
use mathlib.Core.Path.{◌≡◌, refl, sym, subst}
use mathlib.Core.List.{List}
use native.Mathlib.Omega.{arith}
use lib.ListN.{length, get_or, set, length-set}
use lib.Seq.{get_or-set_same, get_or-set_other}
use Rattle.frontier.specs.Frontier.{State, lost, has, Acc, fail, all, join}
use Rattle.surplus.specs.Rows.{SmallAcc}
use Rattle.surplus.specs.declared.Slot.{Slot}
use Rattle.surplus.specs.Tables.{side, no_slot, slot_of, count_at, zero_at, one_at, SlotOf, SlotIs, SlotSmall, Loads, Hung}
use Rattle.surplus.proofs.Pairs.{pair_lost, pair_dead, pair_join}

pub slot_same : (slots slots' : List Slot) (p k : ℕ) (z : Acc) → slot_of slots' p k ≡ slot_of slots p k → SlotIs slots p k z → SlotIs slots' p k z
slot_same slots slots' p k z e h = subst (λ (x : Slot). SlotOf x z) (sym e) h

pub slot_small : (slots : List Slot) (p k : ℕ) (z : Acc) → SlotIs slots p k z → SmallAcc z → SlotSmall slots p k
slot_small slots p k fail h s ne = absurd (ne h)
slot_small slots p k (all m g) h s ne = (omega (arith, h.0, s.0), omega (arith, h.1, s.1 0), omega (arith, h.2, s.1 1))

pub count_small : (slots : List Slot) (p k : ℕ) (z : Acc) → SlotIs slots p k z → SmallAcc z → count_at slots p k ≤ 100000000001
count_small slots p k fail h s = omega arith
count_small slots p k (all m g) h s = omega (arith, h.0, s.0)

module _ (p from i : ℕ) (s : State) (slots : List Slot) (here : side p i < length slots) where
  own : (x : Slot) → slot_of (set slots (side p i) x) p i ≡ x
  own x = get_or-set_same slots (side p i) x no_slot here

  others : (x : Slot) (k : ℕ) → (k ≡ side p i → ⊥) → get_or (set slots (side p i) x) k no_slot ≡ get_or slots k no_slot
  others x k ne = get_or-set_other slots (side p i) k x no_slot ne

  pub hung_lost : s ≡ lost → (x : Slot) → x.count ≡ 0 → Hung p from i s slots (set slots (side p i) x)
  hung_lost e x q = record {
    slots_long = simp length-set;
    slots_kept = others x;
    kept = rw e tt;
    slot = λ τ z h. subst (λ (y : Slot). SlotOf y (join τ s z)) (sym (own x)) (rw q (pair_lost τ x.all_load x.all_more s z e));
  }

  module _ (m a b : ℕ) (e : s ≡ has m a b) where
    pub hung_dead : count_at slots p from ≡ 0 → (x : Slot) → x.count ≡ 0 → x.load ≡ a → x.more ≡ b → Hung p from i s slots (set slots (side p i) x)
    hung_dead z₀ x q ea eb = record {
      slots_long = simp length-set;
      slots_kept = others x;
      kept = rw e (subst (Loads (has m a b)) (sym (own x)) (ea, eb));
      slot = λ τ z h. subst (λ (y : Slot). SlotOf y (join τ s z)) (sym (own x)) (rw q (pair_dead τ (count_at slots p from) (zero_at slots p from) (one_at slots p from) _ _ s z h z₀));
    }

    pub hung_more : (c x y : ℕ) → count_at slots p from ≡ c → zero_at slots p from ≡ x → one_at slots p from ≡ y → (c ≡ 0 → ⊥)
        → Hung p from i s slots (set slots (side p i) (record { count = m + c; load = a; more = b; all_load = a + x; all_more = min (a + y) (b + x) }))
    hung_more c x y ec ex ey ne =
        let r : Slot = record { count = m + c; load = a; more = b; all_load = a + x; all_more = min (a + y) (b + x) } in
        record {
          slots_long = simp length-set;
          slots_kept = others r;
          kept = rw e (subst (Loads (has m a b)) (sym (own r)) (refl, refl));
          slot = λ τ z h. subst (λ (y : Slot). SlotOf y (join τ s z)) (sym (own r)) (pair_join τ c x y m a b s z (rw (ec, ex, ey) at h) ne e);
        }
