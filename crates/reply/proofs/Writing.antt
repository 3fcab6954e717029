-- A placement that stands on a sound net can be written, and its file says it.
use Rattle.std.specs.Prelude.{Ok, Result, IsOk}
use Prim.Native.Nat.{ℕ, ◌*◌, ◌+◌, ◌≤◌}
use native.Mathlib.Omega.{arith}
use mathlib.Core.Path.{◌≡◌}
use mathlib.Core.Bool.{true}
use mathlib.Core.List.{List, [], ◌∷◌, map}
use lib.ListN.{length}
use borrow.Author.Tests.{lt-ltb, le-leb}
use Rattle.rules.specs.declared.Entry.{Entry}
use Rattle.rules.specs.declared.Refusal.{Refusal}
use Rattle.rules.specs.Figures.{most_entries}
use Rattle.rules.specs.Net.{Net}
use Rattle.rules.specs.Load.{entries}
use Rattle.rules.specs.Legal.{InOrder, Stands}
use Rattle.rules.specs.Sound.{SoundNet}
use Rattle.rules.proofs.Tests.{both_true}
use Rattle.placement_file.specs.File.{entry_in_range, wire, offset, placement, columns_of, placement_bytes, WroteAs}
use Rattle.placement_file.proofs.RoundTrip.{Ranged, Placed, columns_back, entries_back}
use Rattle.placement_file.proofs.SamePlacement.{wrote_as}
use Rattle.placement_writer.proofs.Writing.{length_bytes}
use Rattle.reply.specs.Said.{Shows}
use Rattle.reply.proofs.Showing.{laid_shows}

in_range : {n : Net} (e : Entry) → SoundNet n → Stands n e → entry_in_range e ≡ true
in_range e sound s =
    both_true (lt-ltb 0 e.wire (omega (arith, s.above)))
    (both_true (le-leb e.wire 1024 (omega (arith, s.within, sound.few))) (le-leb e.offset 10000000 (omega (arith, s.offset, sound.wire_most e.wire))))

ranged : {n : Net} (d : Entry) (p : List Entry) → SoundNet n → InOrder n d p → Ranged p
ranged d [] sound o = tt
ranged d (e ∷ es) sound o = (in_range e sound o.1, ranged e es sound o.2)

pub stands_placed : {n : Net} (d : Entry) (p : List Entry) → SoundNet n → InOrder n d p → length p ≤ most_entries → Placed p
stands_placed d p sound o few = record { few = few; ranged = ranged d p sound o }

-- the two columns of entries that a file can hold
pub columns_fit_lem : (ws os : List ℕ) (p : List Entry) → ws ≡ map wire p → os ≡ map offset p → Placed p → (entries ws os ≡ p) × (columns_of ws os ≡ placement p)
columns_fit_lem ws os p w o fit = (rw (w, o) (entries_back p), rw (w, o) (columns_back p fit))

module _ (ws os : List ℕ) {out left : List ℕ} {r : Result ℕ Refusal} (p : List Entry) (is : columns_of ws os ≡ placement p) (few : length p ≤ most_entries) (room : 8 + 9 * most_entries ≤ length out) (a : WroteAs (columns_of ws os) out left r) where
  fits : length (placement_bytes p) ≤ length out
  fits = omega (arith, length_bytes p)

  pub wrote_shows : (k : ℕ) → r ≡ Ok k → Shows (placement_bytes p) left k
  wrote_shows k e =
      let (b, l) = wrote_as is a fits in
      let n : k ≡ length (placement_bytes p) = cc in
      rw n (laid_shows out (placement_bytes p) l fits)

  pub never_refused : IsOk r
  never_refused = rw (wrote_as is a fits).0
