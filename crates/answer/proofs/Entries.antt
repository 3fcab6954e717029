-- The lines of the first k + 1 entries are those of the first k and one more.
use Prim.Native.Nat.{ℕ, zero, suc, ◌+◌, ◌<◌}
use native.Mathlib.Numerals.{add-one}
use native.Mathlib.Omega.{arith}
use mathlib.Core.Path.{◌≡◌}
use mathlib.Core.List.{List, [], ◌∷◌, ◌++◌, append-nil, append_assoc}
use lib.ListN.{length, get_or, take}
use Rattle.rules.specs.declared.Entry.{Entry}
use Rattle.rules.specs.Load.{column_entry}
use Rattle.answer.specs.Text.{entry_line, entry_lines, place_line, place_lines}

one_after : (ws os ls : List ℕ) (k : ℕ) → k < length ws → k < length os → k < length ls
    → entry_lines (take (suc k) ws) (take (suc k) os) (take (suc k) ls) ≡ entry_lines (take k ws) (take k os) (take k ls) ++ entry_line (get_or ws k 0) (get_or os k 0) (get_or ls k 0)
unfolding entry_lines
one_after [] os ls k a b c = absurd (omega arith)
one_after (w ∷ ws) [] ls k a b c = absurd (omega arith)
one_after (w ∷ ws) (o ∷ os) [] k a b c = absurd (omega arith)
one_after (w ∷ ws) (o ∷ os) (l ∷ ls) zero a b c = append-nil (entry_line w o l)
one_after (w ∷ ws) (o ∷ os) (l ∷ ls) (suc k) a b c = rw (one_after ws os ls k (omega arith) (omega arith) (omega arith), append_assoc)

pub one_entry_more : (ws os ls : List ℕ) (k : ℕ) {e : Entry} → e ≡ column_entry ws os k → k < length ws → length os ≡ length ws → length ls ≡ length ws
    → entry_lines (take (k + 1) ws) (take (k + 1) os) (take (k + 1) ls) ≡ entry_lines (take k ws) (take k os) (take k ls) ++ entry_line e.wire e.offset (get_or ls k 0)
one_entry_more ws os ls k is h b c = rw (add-one, is) (one_after ws os ls k h (omega arith) (omega arith))

-- and without their loads
place_after : (ws os : List ℕ) (k : ℕ) → k < length ws → k < length os → place_lines (take (suc k) ws) (take (suc k) os) ≡ place_lines (take k ws) (take k os) ++ place_line (get_or ws k 0) (get_or os k 0)
unfolding place_lines
place_after [] os k a b = absurd (omega arith)
place_after (w ∷ ws) [] k a b = absurd (omega arith)
place_after (w ∷ ws) (o ∷ os) zero a b = append-nil (place_line w o)
place_after (w ∷ ws) (o ∷ os) (suc k) a b = rw (place_after ws os k (omega arith) (omega arith), append_assoc)

pub one_place_more : (ws os : List ℕ) (k : ℕ) {e : Entry} → e ≡ column_entry ws os k → k < length ws → length os ≡ length ws
    → place_lines (take (k + 1) ws) (take (k + 1) os) ≡ place_lines (take k ws) (take k os) ++ place_line e.wire e.offset
one_place_more ws os k is h b = rw (add-one, is) (place_after ws os k h (omega arith))
