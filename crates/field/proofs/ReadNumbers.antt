-- The numbers that reading a field gives: each exactly where its row says, over the bytes of the file at the place.
use Rattle.std.specs.Prelude.{Result, Ok, Err}
use Prim.Native.Nat.{ℕ, ◌+◌, ◌<◌, ◌≤◌}
use native.Mathlib.Omega.{arith}
use native.Mathlib.Nat.{add-zero}
use native.Mathlib.Decide.{ℕ_discrete}
use mathlib.Core.Path.{◌≡◌, refl, sym, ap, subst, ◌∙◌}
use mathlib.Core.Logic.{◌↔◌}
use mathlib.Core.List.{List}
use mathlib.Core.Bool.{Bool, true, false}
use lib.ListN.{length, get_or, drop, length-drop}
use lib.Seq.{get_or-drop}
use lib.Dec.{ltb, eqb}
use borrow.Author.Tests.{eqb-true, eqb-false, ltb-true, ltb-false}
use Rattle.rules.specs.declared.Refusal.{Refusal}
use Rattle.rules.specs.declared.Refusal.TheVariants.{FileEnds, NotDue}
use Rattle.rules.specs.Choose.{pick}
use Rattle.rules.specs.Refusal.{number_of, place_of}
use Rattle.field.specs.declared.Field.{Field}
use Rattle.field.specs.declared.NoField.{NoField}
use Rattle.field.specs.declared.NoField.TheVariants.{Cut, Refused}
use Rattle.field.specs.Format.{number_at, length_of, value_in, field_at, due_in, due_at, read_number, due_number}
use Rattle.field.proofs.Numbers.{AreBytes}
use Rattle.field.proofs.Reading.{short, not_due, cut, got}
use Rattle.field.proofs.Due.{as_due, this_due, other_due}

-- ---- the bytes at a place

-- a header stands there, and its length is the one that goes with its tag
pub record Headed (s : List ℕ) (at : ℕ) : Type 0 where
  pub whole : at + 3 ≤ length s
  pub says : number_at 2 s (at + 1) ≡ length_of (get_or s at 0)

-- the field there, whole
abbrev there : List ℕ → ℕ → Field
there s at = record { at = at; value = value_in (get_or (drop at s) 0 0) (drop at s) }

module _ (s : List ℕ) (at : ℕ) where
  first_byte : get_or (drop at s) 0 0 ≡ get_or s at 0
  first_byte = get_or-drop at s 0 0 ∙ ap (λ (k : ℕ). get_or s k 0) (add-zero at)

  said_length : number_at 2 (drop at s) 1 ≡ number_at 2 s (at + 1)
  said_length =
      let e : at + 2 ≡ at + 1 + 1 = omega arith in
      let a : get_or (drop at s) 1 0 ≡ get_or s (at + 1) 0 = get_or-drop at s 1 0 in
      let b : get_or (drop at s) 2 0 ≡ get_or s (at + 1 + 1) 0 = get_or-drop at s 2 0 ∙ ap (λ (k : ℕ). get_or s k 0) e in
      rw (a, b)

  long : at + 3 ≤ length s → 3 ≤ length (drop at s)
  long h = omega (arith, length-drop at s)

  -- what is read, by the bytes
  short_is : length s < at + 3 → Err (Refused (FileEnds at)) ≡ field_at s at
  short_is h = short at (drop at s) (omega (arith, length-drop at s))

  other_is : at + 3 ≤ length s → (number_at 2 s (at + 1) ≡ length_of (get_or s at 0) → ⊥) → Err (Refused (NotDue at)) ≡ field_at s at
  other_is h n = not_due at (drop at s) (long h) refl refl (λ e. n (sym said_length ∙ e ∙ ap length_of first_byte))

  module _ (h : Headed s at) where
    says_so : number_at 2 (drop at s) 1 ≡ length_of (get_or (drop at s) 0 0)
    says_so = said_length ∙ h.says ∙ ap length_of (sym first_byte)

    cut_is : length s < at + 3 + length_of (get_or s at 0) → Err (Cut (get_or s at 0) at) ≡ field_at s at
    cut_is l = ap (λ (t : ℕ). Err (Cut t at)) (sym first_byte) ∙ cut at (drop at s) (long h.whole) refl refl says_so (omega (arith, l, length-drop at s, ap length_of first_byte, h.whole))

    got_is : at + 3 + length_of (get_or s at 0) ≤ length s → Ok (there s at) ≡ field_at s at
    got_is l = got at (drop at s) (long h.whole) refl refl says_so (omega (arith, l, length-drop at s, ap length_of first_byte)) refl

-- the four ways that the bytes can be
data Seen (s : List ℕ) (at : ℕ) : Type 0 where
  no_header : length s < at + 3 → Seen s at
  no_such : at + 3 ≤ length s → (number_at 2 s (at + 1) ≡ length_of (get_or s at 0) → ⊥) → Seen s at
  no_body : Headed s at → length s < at + 3 + length_of (get_or s at 0) → Seen s at
  all : Headed s at → at + 3 + length_of (get_or s at 0) ≤ length s → Seen s at

seen : (s : List ℕ) (at : ℕ) → Seen s at
seen s at = go (ltb (length s) (at + 3)) (eqb (number_at 2 s (at + 1)) (length_of (get_or s at 0))) (ltb (length s) (at + 3 + length_of (get_or s at 0))) refl refl refl
  where
    go : (a b c : Bool) → ltb (length s) (at + 3) ≡ a → eqb (number_at 2 s (at + 1)) (length_of (get_or s at 0)) ≡ b → ltb (length s) (at + 3 + length_of (get_or s at 0)) ≡ c → Seen s at
    go true b c e f g = no_header (ltb-true _ _ e)
    go false false c e f g = no_such (ltb-false _ _ e) (eqb-false _ _ f)
    go false true true e f g = no_body (record { whole = ltb-false _ _ e; says = eqb-true _ _ f }) (ltb-true _ _ g)
    go false true false e f g = all (record { whole = ltb-false _ _ e; says = eqb-true _ _ f }) (ltb-false _ _ g)

-- ---- a field of any tag

-- one row a reason, for the caller to whom these tags are due: the number k
pub data FieldRow (due : ℕ → Bool) (s : List ℕ) (at k : ℕ) : Type 0 where
  whole_field : Headed s at → at + 3 + length_of (get_or s at 0) ≤ length s → k ≡ 0 → FieldRow due s at k
  header_cut : length s < at + 3 → k ≡ 1 → FieldRow due s at k
  unknown : at + 3 ≤ length s → (number_at 2 s (at + 1) ≡ length_of (get_or s at 0) → ⊥) → k ≡ 2 → FieldRow due s at k
  body_cut : Headed s at → length s < at + 3 + length_of (get_or s at 0) → due (get_or s at 0) ≡ true → k ≡ 1 → FieldRow due s at k
  body_not_due : Headed s at → length s < at + 3 + length_of (get_or s at 0) → due (get_or s at 0) ≡ false → k ≡ 2 → FieldRow due s at k

module _ (due : ℕ → Bool) (s : List ℕ) (at : ℕ) where
  given : {r : Result Field NoField} → r ≡ field_at s at → read_number due (field_at s at) ≡ read_number due r
  given e = ap (read_number due) (sym e)

  row_given : {k : ℕ} → FieldRow due s at k → read_number due (field_at s at) ≡ k
  row_given (whole_field h l q) = given (got_is s at h l) ∙ sym q
  row_given (header_cut l q) = given (short_is s at l) ∙ sym q
  row_given (unknown l n q) = given (other_is s at l n) ∙ sym q
  row_given (body_cut h l d q) = given (cut_is s at h l) ∙ ap (λ (b : Bool). pick b 1 2) d ∙ sym q
  row_given (body_not_due h l d q) = given (cut_is s at h l) ∙ ap (λ (b : Bool). pick b 1 2) d ∙ sym q

  of_body : Headed s at → length s < at + 3 + length_of (get_or s at 0) → (b : Bool) → due (get_or s at 0) ≡ b → FieldRow due s at (pick b 1 2)
  of_body h l true d = body_cut h l d refl
  of_body h l false d = body_not_due h l d refl

  row_of : Seen s at → FieldRow due s at (read_number due (field_at s at))
  row_of (no_header l) = header_cut l (given (short_is s at l))
  row_of (no_such l n) = unknown l n (given (other_is s at l n))
  row_of (no_body h l) = subst (FieldRow due s at) (sym (given (cut_is s at h l))) (of_body h l (due (get_or s at 0)) refl)
  row_of (all h l) = whole_field h l (given (got_is s at h l))

  pub field_row : (k : ℕ) → FieldRow due s at k ↔ (read_number due (field_at s at) ≡ k)
  field_row k = (row_given, λ e. subst (FieldRow due s at) e (row_of (seen s at)))

-- ---- a field where one tag is due

pub record Holds (tag : ℕ) (s : List ℕ) (at : ℕ) : Type 0 where
  pub headed : Headed s at
  pub tagged : get_or s at 0 ≡ tag
  pub whole : at + 3 + length_of tag ≤ length s

-- why there is none, with the number
pub data Lacks (tag : ℕ) (s : List ℕ) (at k : ℕ) : Type 0 where
  short_header : length s < at + 3 → k ≡ 1 → Lacks tag s at k
  other_tag : at + 3 ≤ length s → (get_or s at 0 ≡ tag → ⊥) → k ≡ 2 → Lacks tag s at k
  wrong_length : at + 3 ≤ length s → (number_at 2 s (at + 1) ≡ length_of (get_or s at 0) → ⊥) → k ≡ 2 → Lacks tag s at k
  short_body : Headed s at → get_or s at 0 ≡ tag → length s < at + 3 + length_of tag → k ≡ 1 → Lacks tag s at k

pub data DueRow (tag : ℕ) (s : List ℕ) (at k : ℕ) : Type 0 where
  found : Holds tag s at → k ≡ 0 → DueRow tag s at k
  missing : Lacks tag s at k → DueRow tag s at k

module _ (tag : ℕ) (s : List ℕ) (by : AreBytes s) (at : ℕ) where
  -- the refusal that goes with a reason
  pub record Said (k : ℕ) : Type 0 where
    pub why : Refusal
    pub is : due_at tag s at ≡ Err why
    pub number : number_of why ≡ k
    pub place : place_of why ≡ at

  bytes_there : AreBytes (drop at s)
  bytes_there k = rw get_or-drop (by (at + k))

  tag_there : {r : Result Field NoField} → get_or s at 0 ≡ tag → r ≡ field_at s at → due_at tag s at ≡ as_due r
  tag_there t e = sym (this_due at (drop at s) bytes_there (first_byte s at ∙ t)) ∙ ap as_due (sym e)

  pub holds_found : Holds tag s at → due_at tag s at ≡ Ok (there s at)
  holds_found h = tag_there h.tagged (got_is s at h.headed (rw (← h.tagged) at h.whole))

  pub lacks_missing : {k : ℕ} → Lacks tag s at k → Said k
  lacks_missing (short_header l q) = record { why = FileEnds at; is = ap (due_in tag) (sym (short_is s at l)); number = sym q; place = refl }
  lacks_missing (other_tag l n q) = record { why = NotDue at; is = sym (other_due at (drop at s) bytes_there (long s at l) (λ e. n (sym (first_byte s at) ∙ e))); number = sym q; place = refl }
  lacks_missing (wrong_length l n q) = record { why = NotDue at; is = ap (due_in tag) (sym (other_is s at l n)); number = sym q; place = refl }
  lacks_missing (short_body h t l q) = record { why = FileEnds at; is = tag_there t (cut_is s at h (rw (← t) at l)); number = sym q; place = refl }

  of_seen : Dec (get_or s at 0 ≡ tag) → Seen s at → (k : ℕ) × DueRow tag s at k
  of_seen d (no_header l) = (1, missing (short_header l refl))
  of_seen d (no_such l n) = (2, missing (wrong_length l n refl))
  of_seen (no t) (no_body h l) = (2, missing (other_tag h.whole t refl))
  of_seen (no t) (all h l) = (2, missing (other_tag h.whole t refl))
  of_seen (yes t) (no_body h l) = (1, missing (short_body h t (rw t at l) refl))
  of_seen (yes t) (all h l) = (0, found (record { headed = h; tagged = t; whole = rw t at l }) refl)

  pub due_seen : (k : ℕ) × DueRow tag s at k
  due_seen = of_seen (ℕ_discrete (get_or s at 0) tag) (seen s at)

  row_due : {k : ℕ} → DueRow tag s at k → due_number (due_at tag s at) ≡ k
  row_due (found h q) = ap due_number (holds_found h) ∙ sym q
  row_due (missing l) = let m = lacks_missing l in ap due_number m.is ∙ m.number

  pub due_row : (k : ℕ) → DueRow tag s at k ↔ (due_number (due_at tag s at) ≡ k)
  due_row k = (row_due, λ e. let (j, r) = due_seen in subst (DueRow tag s at) (sym (row_due r) ∙ e) r)
