-- A column filled entry by entry: what is still to be stored decides what it is to hold.
use Prim.Native.Nat.{ℕ, ◌+◌, ◌-◌, ◌<◌, ◌≤◌}
use native.Mathlib.Omega.{arith}
use native.Mathlib.Numerals.{add-one}
use mathlib.Core.Path.{◌≡◌, refl, sym, ap, ◌∙◌}
use mathlib.Core.List.{List, map}
use lib.ListN.{length, set, length-set}
use lib.Seq.{sets}
use Rattle.rules.specs.declared.Entry.{Entry}
use Rattle.placement_reader.proofs.Judging.{entry_there}
use Rattle.field.specs.Listed.{listed}
use Rattle.field.proofs.Listing.{listed_next, listed_end}

pub record Column (f : Entry → ℕ) (g : ℕ → Entry) (n : ℕ) (col₀ col : List ℕ) (i : ℕ) : Type 0 where
  pub kept : length col ≡ length col₀
  pub rest : sets col₀ 0 (map f (listed g n 0)) ≡ sets col i (map f (listed g (n - i) i))

pub column_start : {f : Entry → ℕ} {g : ℕ → Entry} {n : ℕ} {col : List ℕ} → Column f g n col col 0
column_start {f} {g} {n} {col} = record { kept = refl; rest = ap (λ (k : ℕ). sets col 0 (map f (listed g k 0))) (omega arith) }

module _ {f : Entry → ℕ} {g : ℕ → Entry} {n : ℕ} {col₀ col : List ℕ} {i : ℕ} (c : Column f g n col₀ col i) where
  pub column_next : i < n → {x : ℕ} → x ≡ f (g i) → Column f g n col₀ (set col i x) (i + 1)
  column_next h {x} e =
      record {
        kept = length-set col i x ∙ c.kept;
        rest = c.rest ∙ ap (λ (es : List Entry). sets col i (map f es)) (listed_next g h) ∙ rw (← e, add-one);
      }

  pub column_end : n ≤ i → col ≡ sets col₀ 0 (map f (listed g n 0))
  column_end h = sym (c.rest ∙ ap (λ (es : List Entry). sets col i (map f es)) (listed_end g h))

-- for the loop that fills
pub ruleset filling = (entry_there, column_start, column_next, column_end)
