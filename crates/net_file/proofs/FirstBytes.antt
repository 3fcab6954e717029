-- The first bytes of an input decide what it says. A file's limits take 12 bytes and at most 1,025 fields are read after them, each of at most 14: inputs
-- that are longer than that and alike so far are read alike, and neither is a net.
use Rattle.std.specs.Prelude.{Some, Option, None, Ok, Err, Result}
use Rattle.field.specs.declared.Field.{Field}
use Prim.Native.Nat.{ℕ, zero, suc, ◌+◌, ◌*◌, ◌≤◌, ◌<◌}
use native.Mathlib.Omega.{arith}
use mathlib.Core.Path.{◌≡◌, refl, ap, ◌∙◌}
use mathlib.Core.List.{List}
use lib.ListN.{length, take}
use lib.Dec.{leb}
use borrow.Author.Tests.{lt-leb, leb-true}
use Rattle.rules.specs.declared.Limits.{Limits}
use Rattle.rules.specs.declared.Node.{Node}
use Rattle.rules.specs.declared.Refusal.{Refusal}
use Rattle.rules.specs.declared.Refusal.TheVariants.{BytesAfterEnd}
use Rattle.rules.specs.Judged.{Judged}
use Rattle.rules.specs.Net.{Net}
use Rattle.rules.specs.Judge.{unless, then_judge, node_judged, childed}
use Rattle.rules.proofs.Tests.{never, unless_met, then_met}
use Rattle.field.specs.declared.Value.{Value}
use Rattle.field.specs.declared.Value.TheVariants.{Limits as LimitsField, Branch, Sink, Count, Entry, End}
use Rattle.field.specs.declared.NoField.{NoField}
use Rattle.field.specs.declared.NoField.TheVariants.{Cut, Refused as Unfound}
use Rattle.field.specs.Format.{field_at, due_in, read_place}
use Rattle.field.proofs.Numbers.{AreBytes}
use Rattle.field.proofs.Reading.{read_place_lem}
use Rattle.field.proofs.Alike.{Alike, same_field_at, by_first}
use Rattle.net_file.specs.declared.Taken.{Taken}
use Rattle.net_file.specs.NetFile.{one_node, front_of, taken_value, taken_of, taken_at, Fields, node_at, follow, fields_from, fields_judged, Outcome, read, refused, when_sound, net_with, fields_of, net_from, from_front, net_of}
use Rattle.net_file.proofs.Said.{same_node}
use Rattle.net_file.proofs.WasRead.{was_read}

-- ---- a node's field, and the place after it

node_next : (at : ℕ) (d : Node) (next : ℕ) (v : Value) → taken_value at v ≡ one_node d next → next ≤ at + 14
node_next at d next (Branch p w) e = omega (arith, (same_node e).1)
node_next at d next (Sink p w c q) e = omega (arith, (same_node e).1)
node_next at d next (LimitsField l) e = never (cc)
node_next at d next (Count n) e = never (cc)
node_next at d next (Entry x) e = never (cc)
node_next at d next End e = never (cc)

next_of : (at : ℕ) (d : Node) (next : ℕ) (g : Result Field NoField) → read_place g ≡ at → taken_of g ≡ one_node d next → next ≤ at + 14
next_of at d next (Ok f) p e = rw p at (node_next f.at d next f.value e)
next_of at d next (Err (Cut t place)) p e = never (cc)
next_of at d next (Err (Unfound r)) p e = never (cc)

near : (s : List ℕ) (at : ℕ) (d : Node) (next : ℕ) → taken_at s at ≡ one_node d next → next ≤ at + 14
unfolding taken_at
near s at d next e = next_of at d next (field_at s at) (read_place_lem s at) e

-- ---- a file's fields

-- 12 bytes of limits and 1,025 fields of 14
abbrev pub most_bytes : ℕ
most_bytes = 14362

module _ {s u : List ℕ} (a : Alike most_bytes s u) where
  same_taken : (at : ℕ) → at + 14 ≤ most_bytes → taken_at s at ≡ taken_at u at
  unfolding taken_at
  same_taken at h = ap taken_of (same_field_at a at h)

  same_fields : (k at : ℕ) → at + 14 * k ≤ most_bytes → fields_from k s at ≡ fields_from k u at
  unfolding fields_from
  same_fields zero at h = refl
  same_fields (suc k) at h = ap (λ (t : Result (Option Taken) Refusal). follow at t (fields_from k s)) (same_taken at (omega arith)) ∙ on (taken_at u at) refl (λ next. same_fields k next)
    where
      on : (t : Result (Option Taken) Refusal) → taken_at u at ≡ t → ((next : ℕ) → next + 14 * k ≤ most_bytes → fields_from k s next ≡ fields_from k u next) → follow at t (fields_from k s) ≡ follow at t (fields_from k u)
      on (Ok (Some t)) e later = ap (node_at at t.node) (later t.next (omega (arith, near u at t.node t.next e)))
      on (Ok None) e later = refl
      on (Err r) e later = refl

  -- the end, where there is one, comes long before either's last byte
  same_judged : (n : Net) (k at i : ℕ) → at + 14 * k ≤ most_bytes → fields_judged n (length s) i (fields_from k u at) ≡ fields_judged n (length u) i (fields_from k u at)
  unfolding fields_from fields_judged
  same_judged n zero at i h = refl
  same_judged n (suc k) at i h = on (taken_at u at) refl (λ next. same_judged n k next (suc i))
    where
      on : (t : Result (Option Taken) Refusal) → taken_at u at ≡ t
          → ((next : ℕ) → next + 14 * k ≤ most_bytes → fields_judged n (length s) (suc i) (fields_from k u next) ≡ fields_judged n (length u) (suc i) (fields_from k u next))
          → fields_judged n (length s) i (follow at t (fields_from k u)) ≡ fields_judged n (length u) i (follow at t (fields_from k u))
      on (Ok (Some t)) e later = ap (then_judge (node_judged n i at)) (later t.next (omega (arith, near u at t.node t.next e)))
      on (Ok None) e later = rw (lt-leb (length s) (at + 3) (omega (arith, a.here)), lt-leb (length u) (at + 3) (omega (arith, a.there)))
      on (Err r) e later = refl

  same_net : (l : Limits) → net_from s l ≡ net_from u l
  unfolding net_from
  same_net l =
      ap (λ (fields : Fields). when_sound (fields_judged (net_with l fields) (length s) 1 fields) (net_with l fields)) (same_fields 1025 12 (omega arith))
      ∙ ap (λ (j : Judged). when_sound j (net_with l (fields_of u))) (same_judged (net_with l (fields_of u)) 1025 12 1 (omega arith))

  alike_read : net_of s ≡ net_of u
  unfolding net_of
  alike_read = ap (λ (r : Result Field NoField). from_front s (front_of (due_in 1 r))) (same_field_at a 0 (omega arith)) ∙ on (front_of (due_in 1 (field_at u 0)))
    where
      on : (f : Result Limits Refusal) → from_front s f ≡ from_front u f
      on (Ok l) = same_net l
      on (Err r) = refl

-- ---- the law

pub first_bytes : (s : List ℕ) (n : ℕ) → AreBytes s → most_bytes < n → net_of (take n s) ≡ net_of s
first_bytes s n by h = by_first net_of most_bytes (λ u v a. alike_read a) s n by h

-- a net's file ends within those bytes
sound_ends : (s : List ℕ) (n : Net) (size k at i : ℕ) → fields_judged n size i (fields_from k s at) ≡ Ok tt → size ≤ at + 14 * k
unfolding fields_from fields_judged
sound_ends s n size zero at i e = never (cc)
sound_ends s n size (suc k) at i e = on (taken_at s at) refl e (λ next. sound_ends s n size k next (suc i))
  where
    on : (t : Result (Option Taken) Refusal) → taken_at s at ≡ t → fields_judged n size i (follow at t (fields_from k s)) ≡ Ok tt → ((next : ℕ) → fields_judged n size (suc i) (fields_from k s next) ≡ Ok tt → size ≤ next + 14 * k)
        → size ≤ at + 14 * suc k
    on (Ok (Some t)) q j later = omega (arith, near s at t.node t.next q, later t.next (then_met (node_judged n i at) _ j).1)
    on (Ok None) q j later = omega (arith, leb-true size (at + 3) (unless_met _ (BytesAfterEnd (at + 3)) (then_met (unless (leb size (at + 3)) (BytesAfterEnd (at + 3))) (childed n) j).0))
    on (Err r) q j later = never (cc)

pub longer_refused : (s : List ℕ) → most_bytes < length s → (r : Refusal) × (net_of s ≡ refused r)
longer_refused s h = on (net_of s) refl
  where
    on : (o : Outcome) → net_of s ≡ o → (r : Refusal) × (o ≡ refused r)
    on (read n) e = absurd (omega (arith, sound_ends s n (length s) 1025 12 1 (was_read s n e).sound))
    on (refused r) e = (r, refl)
