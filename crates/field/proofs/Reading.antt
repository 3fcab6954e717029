-- What a file says at a place, from what was read of the header; and what a field that was got says of the file.
use Rattle.std.specs.Prelude.{Ok, Err}
use Prim.Native.Nat.{ℕ, ◌+◌, ◌<◌, ◌≤◌}
use native.Mathlib.Omega.{arith}
use mathlib.Core.Path.{◌≡◌, refl, sym, ◌∙◌}
use mathlib.Core.List.{List}
use mathlib.Core.Bool.{Bool, true, false}
use lib.ListN.{length, get_or, drop}
use lib.Dec.{ltb, eqb}
use borrow.Author.Tests.{lt-ltb, le-ltb, eq-eqb, ne_eqb}
use Rattle.rules.specs.declared.Refusal.TheVariants.{FileEnds, NotDue}
use Rattle.field.specs.declared.Value.{Value}
use Rattle.field.specs.declared.NoField.TheVariants.{Cut, Refused}
use Rattle.rules.specs.Choose.{pick}
use Rattle.field.proofs.Numbers.{AreBytes}
use Rattle.field.specs.Format.{number_at, length_of, value_in, field_in, field_at, read_place}

pub short : (at : ℕ) (l : List ℕ) → length l < 3 → Err (Refused (FileEnds at)) ≡ field_in at l
unfolding field_in
short at l h = simp (lt-ltb _ _ h)

module _ (at : ℕ) (l : List ℕ) {said body : ℕ} (room : 3 ≤ length l) (s : said ≡ number_at 2 l 1) (b : body ≡ length_of (get_or l 0 0)) where
  pub not_due : (said ≡ body → ⊥) → Err (Refused (NotDue at)) ≡ field_in at l
  unfolding field_in
  not_due n = simp (le-ltb _ _ room, ne_eqb _ _ (λ e. n (s ∙ e ∙ sym b)))

  pub cut : said ≡ body → length l < 3 + body → Err (Cut (get_or l 0 0) at) ≡ field_in at l
  unfolding field_in
  cut e h = simp (le-ltb _ _ room, eq-eqb _ _ (sym s ∙ e ∙ b), lt-ltb _ _ (rw b at h))

  pub got : said ≡ body → 3 + body ≤ length l → {v : Value} → v ≡ value_in (get_or l 0 0) l → Ok (record { at = at; value = v }) ≡ field_in at l
  unfolding field_in
  got e h q = simp (le-ltb _ _ room, eq-eqb _ _ (sym s ∙ e ∙ b), le-ltb _ _ (rw b at h), q)

-- a tag that is not in the table: no two bytes say the length that goes with it
pub unknown : (at : ℕ) (l : List ℕ) → AreBytes l → 3 ≤ length l → length_of (get_or l 0 0) ≡ 65536 → Err (Refused (NotDue at)) ≡ field_in at l
unknown at l by room none = not_due at l room refl refl (λ q. omega (arith, by 1, by 2, q, none))

-- RULES 4.3: the place is where the field begins, whatever is answered
pub read_place_lem : (s : List ℕ) (at : ℕ) → read_place (field_at s at) ≡ at
unfolding field_in
read_place_lem s at =
    let l = drop at s in
    by (get_or l 0 0) (value_in (get_or l 0 0) l) (ltb (length l) 3) (eqb (number_at 2 l 1) (length_of (get_or l 0 0))) (ltb (length l) (3 + length_of (get_or l 0 0)))
  where
    by : (t : ℕ) (v : Value) (a b c : Bool) → read_place (pick a (Err (Refused (FileEnds at))) (pick b (pick c (Err (Cut t at)) (Ok (record { at = at; value = v }))) (Err (Refused (NotDue at))))) ≡ at
    by t v true b c = refl
    by t v false true true = refl
    by t v false true false = refl
    by t v false false c = refl
