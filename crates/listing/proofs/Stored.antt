-- A column that is filled from the front, one load a turn.
use Prim.Native.Nat.{ℕ, ◌≤◌, ◌<◌, ◌+◌}
use mathlib.Core.Path.{◌≡◌, sym, ap, ◌∙◌}
use mathlib.Core.List.{List}
use native.Mathlib.Omega.{arith}
use native.Mathlib.Numerals.{add-one}
use native.Mathlib.Nat.{zero-add}
use lib.ListN.{length, get_or, set, length-set}
use lib.Seq.{take-length, paste, paste-suc, sets, sets-eq}

-- the first k places hold the first k loads
pub record Stored (loads before : List ℕ) (k : ℕ) (out : List ℕ) : Type 0 where
  pub long : length out ≡ length before
  pub stored : out ≡ paste before 0 loads k

module _ {loads before out : List ℕ} {k : ℕ} (f : Stored loads before k out) where
  pub stored_more : k < length before → k < length loads → (x : ℕ) → x ≡ get_or loads k 0 → Stored loads before (k + 1) (set out k x)
  stored_more h l x e = record {
    long = simp length-set f.long;
    stored = ap (λ (y : List ℕ). set y k x) f.stored ∙ rw (e, add-one) (ap (λ (j : ℕ). set (paste before 0 loads k) j (get_or loads k 0)) (sym (zero-add k)) ∙ paste-suc before 0 loads k 0 (omega arith) l);
  }

  pub stored_all : k ≡ length loads → length loads ≤ length before → out ≡ sets before 0 loads
  stored_all e l = f.stored ∙ rw (e, take-length) (sym (sets-eq loads before 0 (omega arith)))
