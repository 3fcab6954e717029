-- The first bytes of a placement file decide it. Its count takes 5 bytes, and at most 4,096 entries of 9 and an end of 3 come after it: inputs that are longer than that
-- and alike so far say the same.
use Rattle.std.specs.Prelude.{Ok, Err}
use Prim.Native.Nat.{ℕ, ◌+◌, ◌*◌, ◌≤◌, ◌<◌}
use native.Mathlib.Omega.{arith}
use mathlib.Core.Path.{◌≡◌, refl, ap}
use mathlib.Core.List.{List}
use lib.ListN.{length, take}
use borrow.Author.Tests.{lt-leb}
use Rattle.rules.specs.Judged.{Judged}
use Rattle.rules.specs.Figures.{most_entries}
use Rattle.rules.proofs.Each.{each_same}
use Rattle.field.specs.Format.{due_at}
use Rattle.field.proofs.Numbers.{AreBytes}
use Rattle.field.proofs.Listing.{listed_same}
use Rattle.field.proofs.Alike.{Alike, same_due_at, by_first}
use Rattle.placement_file.specs.File.{count_in, entry_in, owed, count_judged, start_of, entry_at, entry_judged, end_judged, body_judged, file_judged, placement_of}
use Rattle.placement_file.proofs.Judging.{few}

abbrev pub most_file_bytes : ℕ
most_file_bytes = 8 + 9 * most_entries

module _ {s u : List ℕ} (a : Alike most_file_bytes s u) where
  same_count_field : due_at 17 s 0 ≡ due_at 17 u 0
  same_count_field = same_due_at a 17 0 (omega arith)

  same_owed : owed s ≡ owed u
  unfolding owed
  same_owed = ap count_in same_count_field

  same_count : count_judged s ≡ count_judged u
  unfolding count_judged
  same_count = rw (same_count_field, same_owed)

  same_entry_field : (i : ℕ) → i < most_entries → due_at 18 s (start_of i) ≡ due_at 18 u (start_of i)
  same_entry_field i h = same_due_at a 18 (start_of i) (omega arith)

  same_entry_lem : (i : ℕ) → i < most_entries → entry_at s i ≡ entry_at u i
  unfolding entry_at
  same_entry_lem i h = ap entry_in (same_entry_field i h)

  same_entry_judged : (i : ℕ) → i < most_entries → entry_judged s i ≡ entry_judged u i
  unfolding entry_judged
  same_entry_judged i h = rw (same_entry_field i h, same_entry_lem i h)

  -- the end, where there is one, comes before either's last byte
  same_end : (k : ℕ) → k ≤ most_entries → end_judged s (start_of k) ≡ end_judged u (start_of k)
  unfolding end_judged
  same_end k h =
      let e : due_at 127 s (start_of k) ≡ due_at 127 u (start_of k) = same_due_at a 127 (start_of k) (omega arith) in
      rw (e, lt-leb (length s) (start_of k + 3) (omega (arith, a.here)), lt-leb (length u) (start_of k + 3) (omega (arith, a.there)))

  same_body : (k : ℕ) → k ≤ most_entries → body_judged s k ≡ body_judged u k
  unfolding body_judged
  same_body k h = rw (each_same (entry_judged s) (entry_judged u) k 0 (λ j lo hi. same_entry_judged j (omega arith)), same_end k h)

  same_file : placement_of s ≡ placement_of u
  unfolding placement_of file_judged
  same_file = by (count_judged u) refl
    where
      by : (j : Judged) → count_judged u ≡ j → placement_of s ≡ placement_of u
      by (Ok _) e =
          let h : owed u ≤ most_entries = few u e in
          rw (same_count, same_owed, e, same_body (owed u) h, listed_same (entry_at s) (entry_at u) (owed u) 0 (λ j lo hi. same_entry_lem j (omega arith)))
      by (Err r) e = rw (same_count, e)

pub first_bytes : (s : List ℕ) (n : ℕ) → AreBytes s → most_file_bytes < n → placement_of (take n s) ≡ placement_of s
first_bytes s n by h = by_first placement_of most_file_bytes (λ u v a. same_file a) s n by h
