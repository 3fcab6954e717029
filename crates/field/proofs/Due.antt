-- What stands where one tag is due, by the byte that stands there: a field that was got or cut has the tag of its first byte.
use Rattle.std.specs.Prelude.{Ok, Err, Result}
use Rattle.rules.specs.declared.Refusal.{Refusal}
use Prim.Native.Nat.{ℕ, ◌+◌, ◌≤◌}
use native.Mathlib.Omega.{arith}
use mathlib.Core.Path.{◌≡◌, refl, ap, ◌∙◌}
use mathlib.Core.List.{List}
use mathlib.Core.Bool.{Bool, true, false}
use lib.ListN.{length, get_or}
use lib.Dec.{ltb, eqb}
use borrow.Author.Tests.{eqb-true, eq-eqb, ne_eqb, le-ltb}
use Rattle.rules.specs.declared.Refusal.TheVariants.{FileEnds, NotDue}
use Rattle.rules.specs.Refusal.{place_of}
use Rattle.rules.specs.Choose.{pick}
use Rattle.rules.proofs.Tests.{never}
use Rattle.field.specs.declared.Value.{Value}
use Rattle.field.specs.declared.Field.{Field}
use Rattle.field.specs.declared.NoField.{NoField}
use Rattle.field.specs.declared.NoField.TheVariants.{Cut, Refused}
use Rattle.field.specs.Format.{number_at, length_of, tag_of, value_in, field_in, field_at, cut_at, when_due, due_in, due_at, read_place, due_place}
use Rattle.field.proofs.Numbers.{AreBytes}
use Rattle.field.proofs.Reading.{read_place_lem}
use Rattle.field.proofs.RoundTrip.{kept}

-- what is found where the tag that stands there is the one that is due
abbrev pub as_due : Result Field NoField → Result Field Refusal
as_due (Ok f) = Ok f
as_due (Err none) = Err (when_due none)

module _ (at : ℕ) (l : List ℕ) (by : AreBytes l) where
  tagged : eqb (number_at 2 l 1) (length_of (get_or l 0 0)) ≡ true → tag_of (value_in (get_or l 0 0) l) ≡ get_or l 0 0
  tagged e = let q : number_at 2 l 1 ≡ length_of (get_or l 0 0) = eqb-true _ _ e in (kept (get_or l 0 0) (omega (arith, by 1, by 2)) l).0

  pub this_due : {tag : ℕ} → get_or l 0 0 ≡ tag → as_due (field_in at l) ≡ due_in tag (field_in at l)
  unfolding field_in
  this_due {tag} is = go (ltb (length l) 3) (eqb (number_at 2 l 1) (length_of (get_or l 0 0))) (ltb (length l) (3 + length_of (get_or l 0 0))) (get_or l 0 0) (value_in (get_or l 0 0) l) tagged (eq-eqb _ _ is)
    where
      go : (a b c : Bool) (t : ℕ) (v : Value) → (b ≡ true → tag_of v ≡ t) → eqb t tag ≡ true
          → as_due (pick a (Err (Refused (FileEnds at))) (pick b (pick c (Err (Cut t at)) (Ok (record { at = at; value = v }))) (Err (Refused (NotDue at))))) ≡ due_in tag (pick a (Err (Refused (FileEnds at))) (pick b (pick c (Err (Cut t at)) (Ok (record { at = at; value = v }))) (Err (Refused (NotDue at)))))
      go true b c t v k e = refl
      go false false c t v k e = refl
      go false true true t v k e = rw e
      go false true false t v k e = let q : eqb (tag_of v) tag ≡ true = ap (λ (x : ℕ). eqb x tag) (k refl) ∙ e in rw q

  pub other_due : {tag : ℕ} → 3 ≤ length l → (get_or l 0 0 ≡ tag → ⊥) → Err (NotDue at) ≡ due_in tag (field_in at l)
  unfolding field_in
  other_due {tag} room not = simp (le-ltb _ _ room) (go (eqb (number_at 2 l 1) (length_of (get_or l 0 0))) (ltb (length l) (3 + length_of (get_or l 0 0))) (get_or l 0 0) (value_in (get_or l 0 0) l) tagged (ne_eqb _ _ not))
    where
      go : (b c : Bool) (t : ℕ) (v : Value) → (b ≡ true → tag_of v ≡ t) → eqb t tag ≡ false → Err (NotDue at) ≡ due_in tag (pick b (pick c (Err (Cut t at)) (Ok (record { at = at; value = v }))) (Err (Refused (NotDue at))))
      go false c t v k e = refl
      go true true t v k e = rw e
      go true false t v k e = let q : eqb (tag_of v) tag ≡ false = ap (λ (x : ℕ). eqb x tag) (k refl) ∙ e in rw q

-- what was found is what was read, and of the tag that is due
pub found : (tag : ℕ) (r : Result Field NoField) {f : Field} → due_in tag r ≡ Ok f → (r ≡ Ok f) × (tag_of f.value ≡ tag)
found tag (Ok g) {f} e = by (eqb (tag_of g.value) tag) refl e
  where
    by : (b : Bool) → eqb (tag_of g.value) tag ≡ b → pick b (Ok g) (Err (NotDue g.at)) ≡ Ok f → ◌≡◌ {A = Result Field NoField} (Ok g) (Ok f) × (tag_of f.value ≡ tag)
    by true t h = let same : g ≡ f = cc in (ap Ok same, rw same at (eqb-true (tag_of g.value) tag t))
    by false t h = never (cc)
found tag (Err (Cut t place)) e = never (cc)
found tag (Err (Refused r)) e = never (cc)

-- the place is where the field begins, here too
pub due_place_lem : (tag : ℕ) (s : List ℕ) (at : ℕ) → due_place (due_at tag s at) ≡ at
due_place_lem tag s at = of (field_at s at) ∙ read_place_lem s at
  where
    of_got : (b : Bool) (f : Field) → due_place (pick b (Ok f) (Err (NotDue f.at))) ≡ f.at
    of_got true f = refl
    of_got false f = refl

    of_cut : (b : Bool) (place : ℕ) → place_of (cut_at b place) ≡ place
    of_cut true place = refl
    of_cut false place = refl

    of : (r : Result Field NoField) → due_place (due_in tag r) ≡ read_place r
    of (Ok f) = of_got (eqb (tag_of f.value) tag) f
    of (Err (Cut t place)) = of_cut (eqb t tag) place
    of (Err (Refused r)) = refl
