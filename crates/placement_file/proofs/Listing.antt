-- The columns' entries are a list of entries by their numbers.
use Prim.Native.Nat.{ℕ, zero, suc}
use native.Mathlib.Omega.{arith}
use mathlib.Core.Path.{◌≡◌, refl, sym, ap, ◌∙◌}
use mathlib.Core.List.{List, [], ◌∷◌}
use lib.ListN.{length}
use Rattle.rules.specs.Load.{entries}
use Rattle.rules.specs.declared.Entry.{Entry}
use Rattle.field.specs.Listed.{listed}
use Rattle.field.proofs.Listing.{length_listed}
use Rattle.placement_file.specs.File.{column_entry}

later : (v o : ℕ) (vs os : List ℕ) (k i : ℕ) → listed (column_entry (v ∷ vs) (o ∷ os)) k (suc i) ≡ listed (column_entry vs os) k i
unfolding listed
later v o vs os zero i = refl
later v o vs os (suc k) i = ap (λ (es : List Entry). column_entry vs os i ∷ es) (later v o vs os k (suc i))

pub entries_listed : (vs os : List ℕ) → length os ≡ length vs → entries vs os ≡ listed (column_entry vs os) (length vs) 0
unfolding entries listed
entries_listed [] os h = refl
entries_listed (v ∷ vs) [] h = absurd (omega arith)
entries_listed (v ∷ vs) (o ∷ os) h =
    ap (λ (es : List Entry). record { wire = v; offset = o } ∷ es) (entries_listed vs os (omega arith) ∙ sym (later v o vs os (length vs) 0))

pub length_entries : (vs os : List ℕ) → length os ≡ length vs → length (entries vs os) ≡ length vs
length_entries vs os h = ap length (entries_listed vs os h) ∙ length_listed (column_entry vs os) (length vs) 0
