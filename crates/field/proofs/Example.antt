-- The three fields of RULES 7.7's file of 29 bytes, and the last of them cut, by computation.
use Rattle.std.specs.Prelude.{Ok, Err}
use Prim.Native.Nat.{ℕ}
use mathlib.Core.Path.{◌≡◌, refl}
use mathlib.Core.List.{List, [], ◌∷◌}
use lib.ListN.{take}
use Rattle.rules.specs.declared.Refusal.TheVariants.{FileEnds}
use Rattle.field.specs.declared.Value.TheVariants.{Limits, Sink, End}
use Rattle.field.specs.declared.NoField.TheVariants.{Refused}
use Rattle.field.specs.Format.{field_in, field_at}

abbrev file : List ℕ
file =
    1 ∷ 0 ∷ 9 ∷ 0 ∷ 0 ∷ 0 ∷ 10 ∷ 0 ∷ 0 ∷ 0 ∷ 2 ∷ 0
    ∷ 3 ∷ 0 ∷ 11 ∷ 0 ∷ 0 ∷ 0 ∷ 0 ∷ 0 ∷ 14 ∷ 0 ∷ 0 ∷ 0 ∷ 4 ∷ 0
    ∷ 127 ∷ 0 ∷ 0 ∷ []

first : field_at file 0 ≡ Ok (record { at = 0; value = Limits (record { limit = 10; pin = 2; repeater = 0 }) })
unfolding field_in
first = refl

second : field_at file 12 ≡ Ok (record { at = 12; value = Sink 0 14 4 0 })
unfolding field_in
second = refl

third : field_at file 26 ≡ Ok (record { at = 26; value = End })
unfolding field_in
third = refl

third_cut : field_at (take 28 file) 26 ≡ Err (Refused (FileEnds 26))
unfolding field_in
third_cut = refl
