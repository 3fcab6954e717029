-- The reader's numbers: for an answer that meets the contract each is given, with its count or place, exactly where its row says.
use Rattle.std.specs.Prelude.{Result}
use Rattle.rules.specs.declared.Refusal.{Refusal}
use Prim.Native.Nat.{ℕ, ◌<◌, ◌≤◌, min}
use mathlib.Core.Path.{◌≡◌, refl, sym, ap, subst, ◌∙◌}
use mathlib.Core.Logic.{◌↔◌}
use mathlib.Core.List.{List}
use mathlib.Core.Bool.{Bool, true, false}
use lib.ListN.{length}
use lib.Dec.{ltb}
use borrow.Author.Tests.{lt-ltb, le-ltb, ltb-true, ltb-false}
use Rattle.rules.specs.declared.Entry.{Entry}
use Rattle.field.specs.Listed.{listed}
use Rattle.field.proofs.Numbers.{AreBytes}
use Rattle.placement_file.specs.File.{placement, owed, entry_at, placement_of, placement_bytes, answer, ReadAs, read_number, read_count}
use Rattle.placement_file.proofs.RoundTrip.{Placed, file_bytes, bytes_file}
use Rattle.placement_file.proofs.FileNumbers.{FileRow, Told, sound, row, row_refuses, told}

-- one row a reason: the number k, with the entries read or needed, or the place in the file
pub data ReadRow (s : List ℕ) (room k p : ℕ) : Type 0 where
  read : (es : List Entry) → Placed es → s ≡ placement_bytes es → length es ≤ room → k ≡ 0 → p ≡ length es → ReadRow s room k p
  no_room : (es : List Entry) → Placed es → s ≡ placement_bytes es → room < length es → k ≡ 9 → p ≡ length es → ReadRow s room k p
  no_placement : FileRow s k p → ReadRow s room k p

module _ (s : List ℕ) (by : AreBytes s) (room : ℕ) where
  abbrev Answered : ℕ → ℕ → Type 0
  Answered k p = (read_number (answer room (placement_of s)) ≡ k) × (read_count (answer room (placement_of s)) ≡ p)

  is_file : (es : List Entry) → Placed es → s ≡ placement_bytes es → placement_of s ≡ placement es
  is_file es h e = ap placement_of e ∙ bytes_file es h

  given : {k p : ℕ} → ReadRow s room k p → Answered k p
  unfolding placement_of
  given (read es h e l q c) = rw (is_file es h e, le-ltb room (length es) l) (sym q, sym c)
  given (no_room es h e l q c) = rw (is_file es h e, lt-ltb room (length es) l) (sym q, sym c)
  given (no_placement f) = let r = row_refuses s by f in rw r.is (r.number, r.place)

  -- some row always holds
  of_file : (es : List Entry) → Placed es × (s ≡ placement_bytes es) → (b : Bool) → ltb room (length es) ≡ b → (k : ℕ) × (p : ℕ) × ReadRow s room k p
  of_file es (h, e) true l = (9, length es, no_room es h e (ltb-true _ _ l) refl refl)
  of_file es (h, e) false l = (0, length es, read es h e (ltb-false _ _ l) refl refl)

  some : Told s → (k : ℕ) × (p : ℕ) × ReadRow s room k p
  unfolding placement_of
  some (sound e) = let es = listed (entry_at s) (owed s) 0 in of_file es (file_bytes s es by (rw e)) (ltb room (length es)) refl
  some (row f) = (_, _, no_placement f)

  exactly : (k p : ℕ) → ReadRow s room k p ↔ Answered k p
  exactly k p =
      (given, λ a. let (x, y, r) = some (told s by) in let g = given r in subst (λ (z : ℕ). ReadRow s room z p) (sym g.0 ∙ a.0) (subst (ReadRow s room x) (sym g.1 ∙ a.1) r))

-- the shorter of the two columns is the room
pub read_placement_numbers : (s vs os : List ℕ) {vs' os' : List ℕ} {r : Result ℕ Refusal} → AreBytes s → ReadAs (placement_of s) vs os vs' os' r
    → (k p : ℕ) → ReadRow s (min (length vs) (length os)) k p ↔ ((read_number r ≡ k) × (read_count r ≡ p))
read_placement_numbers s vs os by a k p =
    subst (λ (x : Result ℕ Refusal). ReadRow s (min (length vs) (length os)) k p ↔ ((read_number x ≡ k) × (read_count x ≡ p))) (sym a.answered) (exactly s by (min (length vs) (length os)) k p)
