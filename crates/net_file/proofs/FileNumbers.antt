-- The numbers that a net file is refused with: 1 to 6, and no other.
use Rattle.std.specs.Prelude.{Some, Option, None, Ok, Err, Result}
use Rattle.field.specs.declared.Field.{Field}
use Prim.Native.Nat.{ℕ, zero, suc, ◌+◌, ◌-◌, ◌≤◌}
use native.Mathlib.Omega.{arith}
use mathlib.Core.Path.{◌≡◌, refl, ap}
use mathlib.Core.Bool.{Bool, true, false}
use mathlib.Core.List.{List}
use lib.ListN.{length}
use lib.Dec.{eqb, ltb, leb}
use Rattle.rules.specs.declared.Limits.{Limits}
use Rattle.rules.specs.declared.Refusal.{Refusal}
use Rattle.rules.specs.declared.Refusal.TheVariants.{NotDue, OutOfRange, WrongParent, Childless, BytesAfterEnd}
use Rattle.rules.specs.Judged.{Judged}
use Rattle.rules.specs.Choose.{pick}
use Rattle.rules.specs.Refusal.{number_of, judged_number}
use Rattle.rules.specs.Figures.{most_places}
use Rattle.rules.specs.Net.{Net, places, parent, kind, node}
use Rattle.rules.specs.Judge.{unless, then_judge, judge_each, limits_in_range, node_in_range, parent_fits, node_judged, has_child, children, childed}
use Rattle.rules.proofs.Refusals.{numbered}
use Rattle.field.specs.declared.Value.{Value}
use Rattle.field.specs.declared.Value.TheVariants.{Limits as LimitsField, Branch, Sink, Count, Entry, End}
use Rattle.field.specs.declared.NoField.{NoField}
use Rattle.field.specs.declared.NoField.TheVariants.{Cut, Refused as Unfound}
use Rattle.field.specs.Format.{field_at, cut_at, due_in, due_at, tag_of, read_number}
use Rattle.field.proofs.ReadNumbers.{FieldRow, whole_field, header_cut, unknown, body_cut, body_not_due, field_row}
use Rattle.net_file.specs.declared.Taken.{Taken}
use Rattle.net_file.specs.NetFile.{front_value, front_of, node_due, taken_value, taken_of, taken_at, follow, fields_from, fields_judged, Outcome, read, refused, when_sound, net_with, fields_of, net_from, from_front, net_of}

-- ---- one field: none above 2

field_most : (due : ℕ → Bool) (s : List ℕ) (at : ℕ) → read_number due (field_at s at) ≤ 2
field_most due s at = of ((field_row due s at (read_number due (field_at s at))).1 refl)
  where
    of : {k : ℕ} → FieldRow due s at k → k ≤ 2
    of (whole_field h l q) = omega arith
    of (header_cut l q) = omega arith
    of (unknown l n q) = omega arith
    of (body_cut h l d q) = omega arith
    of (body_not_due h l d q) = omega arith

cut_most : (due : Bool) (place : ℕ) → number_of (cut_at due place) ≤ 2
cut_most true place = omega arith
cut_most false place = omega arith

-- ---- the front: none above 3

abbrev front_number : Result Limits Refusal → ℕ
front_number (Ok l) = 0
front_number (Err r) = number_of r

limits_most : (b : Bool) (at : ℕ) (l : Limits) → front_number (pick b (Ok l) (Err (OutOfRange at))) ≤ 3
limits_most true at l = omega arith
limits_most false at l = omega arith

front_value_lem : (at : ℕ) (v : Value) → front_number (front_value at v) ≤ 3
front_value_lem at (LimitsField l) = limits_most (limits_in_range l) at l
front_value_lem at (Branch p w) = omega arith
front_value_lem at (Sink p w c q) = omega arith
front_value_lem at (Count n) = omega arith
front_value_lem at (Entry e) = omega arith
front_value_lem at End = omega arith

front_most : (s : List ℕ) → front_number (front_of (due_at 1 s 0)) ≤ 3
front_most s = of (field_at s 0) (field_most (λ t. eqb t 1) s 0)
  where
    of : (g : Result Field NoField) → read_number (λ t. eqb t 1) g ≤ 2 → front_number (front_of (due_in 1 g)) ≤ 3
    of (Ok f) h = by (eqb (tag_of f.value) 1)
      where
        by : (b : Bool) → front_number (front_of (pick b (Ok f) (Err (NotDue f.at)))) ≤ 3
        by true = front_value_lem f.at f.value
        by false = omega arith
    of (Err (Cut t place)) h = omega (arith, cut_most (eqb t 1) place)
    of (Err (Unfound r)) h = omega arith

-- ---- a later place: none above 2

abbrev taken_number : Result (Option Taken) Refusal → ℕ
taken_number (Ok (Some t)) = 0
taken_number (Ok None) = 0
taken_number (Err r) = number_of r

taken_value_lem : (at : ℕ) (v : Value) → taken_number (taken_value at v) ≤ 2
taken_value_lem at (LimitsField l) = omega arith
taken_value_lem at (Branch p w) = omega arith
taken_value_lem at (Sink p w c q) = omega arith
taken_value_lem at (Count n) = omega arith
taken_value_lem at (Entry e) = omega arith
taken_value_lem at End = omega arith

taken_most : (s : List ℕ) (at : ℕ) → taken_number (taken_at s at) ≤ 2
unfolding taken_at
taken_most s at = of (field_at s at) (field_most node_due s at)
  where
    of : (g : Result Field NoField) → read_number node_due g ≤ 2 → taken_number (taken_of g) ≤ 2
    of (Ok f) h = taken_value_lem f.at f.value
    of (Err (Cut t place)) h = cut_most (node_due t) place
    of (Err (Unfound r)) h = h

-- ---- the judgement of the nodes: none above 6

unless_most : (b : Bool) (r : Refusal) → judged_number (unless b r) ≤ number_of r
unless_most true r = omega arith
unless_most false r = omega arith

then_most : (m : ℕ) (a b : Judged) → judged_number a ≤ m → judged_number b ≤ m → judged_number (then_judge a b) ≤ m
then_most m (Ok _) b h k = k
then_most m (Err r) b h k = h

each_most : (m : ℕ) (f : ℕ → Judged) → ((j : ℕ) → judged_number (f j) ≤ m) → (k i : ℕ) → judged_number (judge_each f k i) ≤ m
unfolding judge_each
each_most m f h zero i = omega arith
each_most m f h (suc k) i = then_most m (f i) (judge_each f k (suc i)) (h i) (each_most m f h k (suc i))

childed_most : (n : Net) → judged_number (childed n) ≤ 6
childed_most n = each_most 6 (λ v. has_child v (kind n v) (children n (places n - 1) v)) (λ v. omega (arith, unless_most (pick (eqb (kind n v) 0) (ltb 0 (children n (places n - 1) v)) true) (Childless v))) (places n) 0

node_most : (n : Net) (i at : ℕ) → judged_number (node_judged n i at) ≤ 6
node_most n i at =
    then_most 6 (unless (node_in_range n.limits (node n i)) (OutOfRange at)) (unless (parent_fits i (parent n i) (kind n (parent n i)) (children n (i - 1) (parent n i))) (WrongParent at))
    (omega (arith, unless_most (node_in_range n.limits (node n i)) (OutOfRange at)))
    (omega (arith, unless_most (parent_fits i (parent n i) (kind n (parent n i)) (children n (i - 1) (parent n i))) (WrongParent at)))

fields_most : (n : Net) (s : List ℕ) (k i at : ℕ) → judged_number (fields_judged n (length s) i (fields_from k s at)) ≤ 6
unfolding fields_from fields_judged
fields_most n s zero i at = omega arith
fields_most n s (suc k) i at = of (taken_at s at) (taken_most s at) (fields_most n s k (suc i))
  where
    of : (t : Result (Option Taken) Refusal) → taken_number t ≤ 2 → ((next : ℕ) → judged_number (fields_judged n (length s) (suc i) (fields_from k s next)) ≤ 6) → judged_number (fields_judged n (length s) i (follow at t (fields_from k s))) ≤ 6
    of (Ok (Some t)) h later = then_most 6 (node_judged n i at) (fields_judged n (length s) (suc i) (fields_from k s t.next)) (node_most n i at) (later t.next)
    of (Ok None) h later = then_most 6 (unless (leb (length s) (at + 3)) (BytesAfterEnd (at + 3))) (childed n) (omega (arith, unless_most (leb (length s) (at + 3)) (BytesAfterEnd (at + 3)))) (childed_most n)
    of (Err r) h later = omega arith

-- ---- the file

abbrev outcome_number : Outcome → ℕ
outcome_number (read n) = 0
outcome_number (refused r) = number_of r

sound_most : (j : Judged) (n : Net) → judged_number j ≤ 6 → outcome_number (when_sound j n) ≤ 6
sound_most (Ok _) n h = h
sound_most (Err r) n h = h

file_most : (s : List ℕ) → outcome_number (net_of s) ≤ 6
unfolding net_of net_from
file_most s = of (front_of (due_at 1 s 0)) (front_most s)
  where
    of : (f : Result Limits Refusal) → front_number f ≤ 3 → outcome_number (from_front s f) ≤ 6
    of (Err r) h = omega arith
    of (Ok l) h = let n : Net = net_with l (fields_of s) in sound_most (fields_judged n (length s) 1 (fields_of s)) n (fields_most n s most_places 1 12)

pub file_number : (s : List ℕ) (x : Refusal) → net_of s ≡ refused x → (1 ≤ number_of x) × (number_of x ≤ 6)
file_number s x e = (numbered x, omega (arith, file_most s, ap outcome_number e))
