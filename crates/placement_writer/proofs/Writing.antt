-- The bytes of a placement, and how a buffer comes to hold them: each field laid where the last one ended.
use Rattle.std.specs.Prelude.{Ok, Result}
use Prim.Native.Nat.{ℕ, ◌+◌, ◌-◌, ◌*◌, ◌<◌, ◌≤◌}
use native.Mathlib.Omega.{arith}
use mathlib.Core.Path.{◌≡◌, refl, sym, ap, ◌∙◌}
use mathlib.Core.List.{List, [], ◌∷◌, ◌++◌}
use lib.ListN.{length, take, drop, length-drop}
use lib.Seq.{sets, length-sets, length-take-le}
use borrow.Author.Tests.{le-ltb}
use Rattle.rules.specs.Load.{entries}
use Rattle.rules.specs.declared.Entry.{Entry}
use Rattle.rules.specs.declared.Refusal.{Refusal}
use Rattle.rules.specs.Figures.{most_entries}
use Rattle.field.specs.Format.{bytes_of, wrote}
use Rattle.field.specs.declared.Value.TheVariants.{Count, Entry as AnEntry, End}
use Rattle.field.proofs.Numbers.{sets_append}
use Rattle.field.specs.Listed.{listed}
use Rattle.placement_file.specs.File.{column_entry, columns_judged, entries_bytes, placement_bytes}
use Rattle.placement_file.proofs.Judging.{fits, sound_columns}
use Rattle.field.proofs.Listing.{listed_next, listed_end}
use Rattle.placement_file.proofs.Listing.{entries_listed, length_entries}

length_body : (es : List Entry) → length (entries_bytes es) ≡ 3 + 9 * length es
unfolding entries_bytes
length_body [] = refl
length_body (e ∷ es) = omega (arith, length_body es)

pub length_bytes : (es : List Entry) → length (placement_bytes es) ≡ 8 + 9 * length es
unfolding placement_bytes
length_bytes es = omega (arith, length_body es)

-- with room for it, what a written field answers is its length
pub written_size : (bs out : List ℕ) {w : Result ℕ Refusal} {n : ℕ} → w ≡ wrote bs out → w ≡ Ok n → length bs ≤ length out → n ≡ length bs
written_size bs out {w} {n} e q h = let z : ◌≡◌ {A = Result ℕ Refusal} (Ok n) (Ok (length bs)) = sym q ∙ e ∙ rw (le-ltb (length out) (length bs) h) in cc

-- also behind what was written before
pub written_behind : (bs out : List ℕ) (at : ℕ) {w : Result ℕ Refusal} {n : ℕ} → w ≡ wrote bs (take (length out - at) (drop at out)) → w ≡ Ok n → at + length bs ≤ length out → n ≡ length bs
written_behind bs out at e q h =
    written_size bs (take (length out - at) (drop at out)) e q (omega (arith, length-take-le (length out - at) (drop at out) (omega (arith, length-drop at out))))

-- the writer's loop: what is still to be written decides what the buffer is to hold
pub record Putting (vs os out₀ out : List ℕ) (at i : ℕ) : Type 0 where
  pub high : i ≤ length vs
  pub kept : length out ≡ length out₀
  pub place : at ≡ 5 + 9 * i
  pub rest : sets out₀ 5 (entries_bytes (entries vs os)) ≡ sets out at (entries_bytes (listed (column_entry vs os) (length vs - i) i))

pub putting_start : {vs os out : List ℕ} {at : ℕ} → length os ≡ length vs → at ≡ 5 → Putting vs os out out at 0
putting_start {vs} {os} {out} {at} same place =
    let z : length vs ≡ length vs - 0 = omega arith in
    record {
      high = omega arith;
      kept = refl;
      place = omega arith;
      rest = ap (λ (es : List Entry). sets out 5 (entries_bytes es)) (entries_listed vs os same ∙ ap (λ (k : ℕ). listed (column_entry vs os) k 0) z) ∙ rw (← place);
    }

module _ {vs os out₀ out : List ℕ} {at i : ℕ} (p : Putting vs os out₀ out at i) where
  pub putting_next : i < length vs → {e : Entry} {out' : List ℕ} {at' : ℕ} → e ≡ column_entry vs os i → (at' ≡ at + 9) × (out' ≡ sets out at (bytes_of (AnEntry e))) → Putting vs os out₀ out' at' (i + 1)
  unfolding entries_bytes
  putting_next h {e} {out'} {at'} here (place, q) =
      let more = entries_bytes (listed (column_entry vs os) (length vs - (i + 1)) (i + 1)) in
      record {
        high = omega arith;
        kept = ap length q ∙ length-sets out at (bytes_of (AnEntry e)) ∙ p.kept;
        place = omega (arith, p.place);
        rest = p.rest
            ∙ ap (λ (es : List Entry). sets out at (entries_bytes es)) (listed_next (column_entry vs os) h)
            ∙ ap (λ (x : Entry). sets out at (bytes_of (AnEntry x) ++ more)) (sym here)
            ∙ sets_append out at (bytes_of (AnEntry e)) more
            ∙ rw (← q, ← place);
      }

  pub putting_end : length os ≡ length vs → length vs ≤ i → (out₁ : List ℕ) {out' : List ℕ} → out₀ ≡ sets out₁ 0 (bytes_of (Count (length vs))) → out' ≡ sets out at (bytes_of End)
      → out' ≡ sets out₁ 0 (placement_bytes (entries vs os))
  unfolding entries_bytes placement_bytes
  putting_end same h out₁ front q =
      q
      ∙ sym (p.rest ∙ ap (λ (es : List Entry). sets out at (entries_bytes es)) (listed_end (column_entry vs os) h))
      ∙ ap (λ (o : List ℕ). sets o 5 (entries_bytes (entries vs os))) front
      ∙ sym (sets_append out₁ 0 (bytes_of (Count (length vs))) (entries_bytes (entries vs os)))
      ∙ ap (λ (k : ℕ). sets out₁ 0 (bytes_of (Count k) ++ entries_bytes (entries vs os))) (sym (length_entries vs os same))

-- ---- the whole writer

pub columns_level : (vs os : List ℕ) → columns_judged vs os ≡ Ok tt → (length os ≡ length vs) × (length vs ≤ most_entries)
columns_level vs os sound = fits vs os (sound_columns vs os sound).0

pub file_size : (vs os : List ℕ) → length os ≡ length vs → length (placement_bytes (entries vs os)) ≡ 8 + 9 * length vs
file_size vs os same = length_bytes (entries vs os) ∙ ap (λ (k : ℕ). 8 + 9 * k) (length_entries vs os same)

-- what `write_placement` asks of the columns and of the room
pub ruleset writing = (columns_level, file_size)
