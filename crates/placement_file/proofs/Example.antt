-- A file of two entries on both sides of its lines, by computation.
use Prim.Native.Nat.{ℕ}
use mathlib.Core.Path.{◌≡◌, refl}
use mathlib.Core.List.{List, [], ◌∷◌, ◌++◌}
use lib.ListN.{take}
use Rattle.rules.specs.Judge.{judge_each}
use Rattle.rules.specs.declared.Refusal.TheVariants.{FileEnds, NotDue, OutOfRange, BytesAfterEnd}
use Rattle.rules.specs.declared.Entry.{Entry}
use Rattle.field.specs.Format.{field_in}
use Rattle.field.specs.Listed.{listed}
use Rattle.placement_file.specs.File.{owed, count_judged, entry_at, entry_judged, end_judged, body_judged, file_judged, placement, refused, placement_of, entries_bytes, placement_bytes}

abbrev at : ℕ → ℕ → Entry
at v o = record { wire = v; offset = o }

abbrev file : List ℕ
file =
    17 ∷ 0 ∷ 2 ∷ 0 ∷ 2
    ∷ 18 ∷ 0 ∷ 6 ∷ 0 ∷ 1 ∷ 0 ∷ 0 ∷ 0 ∷ 6
    ∷ 18 ∷ 0 ∷ 6 ∷ 4 ∷ 0 ∷ 0 ∷ 152 ∷ 150 ∷ 128
    ∷ 127 ∷ 0 ∷ 0 ∷ []

written : placement_bytes (at 1 6 ∷ at 1024 10000000 ∷ []) ≡ file
unfolding placement_bytes entries_bytes
written = refl

whole : placement_of file ≡ placement (at 1 6 ∷ at 1024 10000000 ∷ [])
unfolding placement_of file_judged body_judged count_judged owed entry_at entry_judged end_judged listed judge_each field_in
whole = refl

cut : placement_of (take 25 file) ≡ refused (FileEnds 23)
unfolding placement_of file_judged body_judged count_judged owed entry_at entry_judged end_judged listed judge_each field_in
cut = refl

one_more : placement_of (file ++ (0 ∷ [])) ≡ refused (BytesAfterEnd 26)
unfolding placement_of file_judged body_judged count_judged owed entry_at entry_judged end_judged listed judge_each field_in
one_more = refl

too_early : placement_of (take 14 file ++ (127 ∷ 0 ∷ 0 ∷ [])) ≡ refused (NotDue 14)
unfolding placement_of file_judged body_judged count_judged owed entry_at entry_judged end_judged listed judge_each field_in
too_early = refl

no_wire : placement_of (17 ∷ 0 ∷ 2 ∷ 0 ∷ 1 ∷ 18 ∷ 0 ∷ 6 ∷ 0 ∷ 0 ∷ 0 ∷ 0 ∷ 0 ∷ 6 ∷ []) ≡ refused (OutOfRange 5)
unfolding placement_of file_judged body_judged count_judged owed entry_at entry_judged end_judged listed judge_each field_in
no_wire = refl
