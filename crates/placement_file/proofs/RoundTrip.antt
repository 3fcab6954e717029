-- RULES 3.13 for placements. A file that is read is byte for byte the file of its entries: each field stands in it, one where the last one ended.
-- The file of entries in their ranges is read as those entries: each field comes back from its bytes.
use Rattle.std.specs.Prelude.{Ok, Err, Result}
use Rattle.rules.specs.declared.Refusal.{Refusal}
use Prim.Native.Nat.{ℕ, zero, suc, ◌+◌, ◌-◌, ◌<◌, ◌≤◌}
use native.Mathlib.Nat.{add-zero}
use native.Mathlib.Omega.{arith}
use mathlib.Core.Path.{◌≡◌, refl, sym, ap, subst, ◌∙◌}
use mathlib.Core.List.{List, [], ◌∷◌, ◌++◌, map}
use mathlib.Core.Bool.{Bool, true}
use lib.ListN.{length, drop, length-drop, length-map, drop_of_length-le}
use lib.Dec.{ltb, leb}
use borrow.Author.Tests.{leb-true, le-leb, eq-eqb}
use Rattle.rules.specs.Figures.{most_nodes, most_wire, most_entries}
use Rattle.rules.specs.Choose.{pick, both}
use Rattle.rules.specs.Judge.{unless, judge_each}
use Rattle.rules.specs.Load.{entries}
use Rattle.rules.specs.Checked.{placement_fits}
use Rattle.rules.specs.declared.Entry.{Entry}
use Rattle.rules.specs.declared.Refusal.TheVariants.{OutOfRange, BytesAfterEnd}
use Rattle.rules.specs.Judged.{Judged}
use Rattle.rules.proofs.Tests.{never, both_met, both_true, then_met, unless_met}
use Rattle.rules.proofs.Each.{each_met, each_sound}
use Rattle.field.specs.Format.{tag_of, numbers_of, value_of, field_at, due_in, due_at, bytes_of, Fitting}
use Rattle.field.specs.declared.Value.{Value}
use Rattle.field.specs.declared.Value.TheVariants.{Count, Entry as AnEntry, End}
use Rattle.field.specs.declared.Field.{Field}
use Rattle.field.specs.declared.NoField.{NoField}
use Rattle.field.proofs.Numbers.{AreBytes}
use Rattle.field.proofs.Due.{found}
use Rattle.field.proofs.RoundTrip.{shape, after, field_back, begins}
use Rattle.field.specs.Listed.{listed}
use Rattle.placement_file.specs.File.{due, numbers_in, count_in, entry_in, entry_in_range, owed, count_judged, start_of, entry_at, entry_judged, end_judged, body_judged, file_judged, wire, offset, placement, outcome, placement_of, column_entry, range_judged, ranges_judged, columns_judged, columns_of, entries_bytes, placement_bytes}
use Rattle.placement_file.proofs.Judging.{sound_few, sound_columns, fits}
use Rattle.field.proofs.Listing.{length_listed}
use Rattle.placement_file.proofs.Listing.{entries_listed, length_entries}

-- ---- a file that is read

-- where a tag is due and stands, the field is made of its numbers
met : (tag : ℕ) (r : Result Field NoField) (d : Result Field Refusal) → due_in tag r ≡ d → due d ≡ Ok tt → (f : Field) × (r ≡ Ok f) × (f.value ≡ value_of tag (numbers_in tag d))
met tag r (Ok f) q e =
    let (got, t) = found tag r q in
    (f, got, (shape f.value).0 ∙ ap (λ (x : ℕ). value_of x (numbers_of f.value)) t ∙ ap (λ (b : Bool). value_of tag (pick b (numbers_of f.value) [])) (sym (eq-eqb (tag_of f.value) tag t)))
met tag r (Err x) q e = never (cc)

-- the bytes from a place on are a field's and those after it
abbrev Front : List ℕ → ℕ → Value → Type 0
Front s at v = drop at s ≡ bytes_of v ++ drop (at + length (bytes_of v)) s

module _ (s : List ℕ) (by : AreBytes s) where
  front : (at tag : ℕ) → due (due_at tag s at) ≡ Ok tt → Front s at (value_of tag (numbers_in tag (due_at tag s at)))
  front at tag e =
      let (f, got, same) = met tag (field_at s at) (due_at tag s at) refl e in
      begins s by at f (value_of tag (numbers_in tag (due_at tag s at))) got same

  entry_front : (i : ℕ) → entry_judged s i ≡ Ok tt → drop (start_of i) s ≡ bytes_of (AnEntry (entry_at s i)) ++ drop (start_of (suc i)) s
  unfolding entry_judged entry_at
  entry_front i e =
      let (d, _) = then_met (due (due_at 18 s (start_of i))) (unless (entry_in_range (entry_at s i)) (OutOfRange (start_of i))) e in
      let n : start_of i + 9 ≡ start_of (suc i) = omega arith in
      front (start_of i) 18 d ∙ ap (λ (k : ℕ). bytes_of (AnEntry (entry_at s i)) ++ drop k s) n

  end_front : (at : ℕ) → end_judged s at ≡ Ok tt → drop at s ≡ bytes_of End
  unfolding end_judged
  end_front at e =
      let (d, u) = then_met (due (due_at 127 s at)) (unless (leb (length s) (at + 3)) (BytesAfterEnd (at + 3))) e in
      let n : length s ≤ at + 3 = leb-true (length s) (at + 3) (unless_met _ (BytesAfterEnd (at + 3)) u) in
      front at 127 d ∙ ap (λ (r : List ℕ). bytes_of End ++ r) (drop_of_length-le s n)

  body_front : (k i : ℕ) → judge_each (entry_judged s) k i ≡ Ok tt → end_judged s (start_of (i + k)) ≡ Ok tt → drop (start_of i) s ≡ entries_bytes (listed (entry_at s) k i)
  unfolding judge_each listed entries_bytes
  body_front zero i each last = end_front (start_of i) (rw add-zero at last)
  body_front (suc k) i each last =
      let (here, rest) = then_met (entry_judged s i) (judge_each (entry_judged s) k (suc i)) each in
      let n : i + suc k ≡ suc i + k = omega arith in
      entry_front i here ∙ ap (λ (r : List ℕ). bytes_of (AnEntry (entry_at s i)) ++ r) (body_front k (suc i) rest (rw n at last))

-- each entry is in its range
abbrev pub Ranged : List Entry → Type 0
Ranged [] = Unit {0}
Ranged (e ∷ es) = (entry_in_range e ≡ true) × Ranged es

listed_ranged : (g : ℕ → Entry) (k i : ℕ) → ((j : ℕ) → i ≤ j → j < i + k → entry_in_range (g j) ≡ true) → Ranged (listed g k i)
unfolding listed
listed_ranged g zero i h = tt
listed_ranged g (suc k) i h = (h i (omega arith) (omega arith), listed_ranged g k (suc i) (λ j lo hi. h j (omega arith) (omega arith)))

entry_ranged : (s : List ℕ) (i : ℕ) → entry_judged s i ≡ Ok tt → entry_in_range (entry_at s i) ≡ true
unfolding entry_judged
entry_ranged s i e =
    let (_, u) = then_met (due (due_at 18 s (start_of i))) (unless (entry_in_range (entry_at s i)) (OutOfRange (start_of i))) e in
    unless_met _ (OutOfRange (start_of i)) u

-- entries that a file can hold
pub record Placed (es : List Entry) : Type 0 where
  pub few : length es ≤ most_entries
  pub ranged : Ranged es

told : (j : Judged) (es es' : List Entry) → outcome j es ≡ placement es' → (j ≡ Ok tt) × (es ≡ es')
told (Ok _) es es' e = (refl, cc)
told (Err r) es es' e = never (cc)

-- a file that is read has the bytes of its entries
pub file_bytes : (s : List ℕ) (es : List Entry) → AreBytes s → placement_of s ≡ placement es → Placed es × (s ≡ placement_bytes es)
unfolding placement_of file_judged body_judged count_judged owed placement_bytes
file_bytes s es by e =
    let (sound, q) = told (file_judged s) (listed (entry_at s) (owed s) 0) es e in
    let (count, body) = then_met (count_judged s) (body_judged s (owed s)) sound in
    let (each, last) = then_met (judge_each (entry_judged s) (owed s) 0) (end_judged s (start_of (owed s))) body in
    let (d, _) = then_met (due (due_at 17 s 0)) (unless (leb (owed s) most_entries) (OutOfRange 0)) count in
    let n : length es ≡ owed s = ap length (sym q) ∙ length_listed (entry_at s) (owed s) 0 in
    let z : 0 + owed s ≡ owed s = omega arith in (
      record { few = omega (arith, sound_few s sound); ranged = subst Ranged q (listed_ranged (entry_at s) (owed s) 0 (λ j lo hi. entry_ranged s j (each_met (entry_judged s) (owed s) 0 each j lo hi))) },
      front s by 0 17 d ∙ ap (λ (r : List ℕ). bytes_of (Count (owed s)) ++ r) (body_front s by (owed s) 0 each (rw (← z) at last)) ∙ rw (q, ← n),
    )

-- ---- the columns of such entries

pub entries_back : (es : List Entry) → entries (map wire es) (map offset es) ≡ es
unfolding entries
entries_back [] = refl
entries_back (e ∷ es) = ap (λ (r : List Entry). e ∷ r) (entries_back es)

at_each : (es : List Entry) → Ranged es → (i : ℕ) → i < length es → entry_in_range (column_entry (map wire es) (map offset es) i) ≡ true
at_each [] h i l = absurd (omega arith)
at_each (e ∷ es) h zero l = h.0
at_each (e ∷ es) h (suc i) l = at_each es h.1 i (omega arith)

pub columns_back : (es : List Entry) → Placed es → columns_of (map wire es) (map offset es) ≡ placement es
unfolding columns_of columns_judged range_judged
columns_back es p =
    let vs = map wire es in
    let os = map offset es in
    let n : length vs ≡ length es = length-map es wire in
    let m : length os ≡ length es = length-map es offset in
    let level : placement_fits vs os ≡ true = both_true (eq-eqb (length os) (length vs) (omega arith)) (le-leb (length vs) most_entries (omega (arith, p.few))) in
    let each : ranges_judged vs os ≡ Ok tt = each_sound (range_judged vs os) (length vs) 0 (λ j lo hi. rw (at_each es p.ranged j (omega arith))) in
    rw (level, each, entries_back es)

-- columns of one length are those of their entries
pub split : (vs os : List ℕ) → length os ≡ length vs → (vs ≡ map wire (entries vs os)) × (os ≡ map offset (entries vs os))
unfolding entries
split [] [] h = (refl, refl)
split [] (o ∷ os) h = absurd (omega arith)
split (v ∷ vs) [] h = absurd (omega arith)
split (v ∷ vs) (o ∷ os) h = let (p, q) = split vs os (omega arith) in (ap (λ (r : List ℕ). v ∷ r) p, ap (λ (r : List ℕ). o ∷ r) q)

-- and so are columns that are sound
pub columns_placed : (vs os : List ℕ) (es : List Entry) → columns_of vs os ≡ placement es → Placed es × (vs ≡ map wire es) × (os ≡ map offset es)
unfolding columns_of range_judged
columns_placed vs os es e =
    let (sound, q) = told (columns_judged vs os) (entries vs os) es e in
    let (level, each) = sound_columns vs os sound in
    let (same, most) = fits vs os level in
    let (v, o) = split vs os same in
    let ranged = listed_ranged (column_entry vs os) (length vs) 0 (λ j lo hi. unless_met _ (OutOfRange j) (each_met (range_judged vs os) (length vs) 0 each j lo hi)) in (
      record { few = omega (arith, ap length q, length_entries vs os same); ranged = subst Ranged (sym (entries_listed vs os same) ∙ q) ranged },
      v ∙ ap (map wire) q,
      o ∙ ap (map offset) q,
    )

-- ---- the bytes of such entries

entry_fits : (e : Entry) → entry_in_range e ≡ true → Fitting (AnEntry e)
entry_fits e h =
    let (_, q) = both_met (ltb 0 e.wire) (both (leb e.wire most_nodes) (leb e.offset most_wire)) h in
    let (w, o) = both_met (leb e.wire most_nodes) (leb e.offset most_wire) q in
    let lw : e.wire ≤ most_nodes = leb-true e.wire most_nodes w in
    let lo : e.offset ≤ most_wire = leb-true e.offset most_wire o in
    (omega arith, (omega arith, tt))

module _ (s : List ℕ) where
  body_back : (es : List Entry) (i : ℕ) → Ranged es → drop (start_of i) s ≡ entries_bytes es
      → (judge_each (entry_judged s) (length es) i ≡ Ok tt) × (end_judged s (start_of (i + length es)) ≡ Ok tt) × (listed (entry_at s) (length es) i ≡ es)
  unfolding judge_each listed entries_bytes entry_judged entry_at end_judged
  body_back [] i h e =
      let got = field_back s (start_of i) End [] tt e in
      let n : length s - start_of i ≡ 3 = sym (length-drop (start_of i) s) ∙ ap length e in
      let short : leb (length s) (start_of i + 3) ≡ true = le-leb (length s) (start_of i + 3) (omega arith) in
      (refl, rw (add-zero, got, short), refl)
  body_back (x ∷ es) i h e =
      let got = field_back s (start_of i) (AnEntry x) (entries_bytes es) (entry_fits x h.0) e in
      let next : start_of i + 9 ≡ start_of (suc i) = omega arith in
      let (each, last, others) = body_back es (suc i) h.1 (ap (λ (k : ℕ). drop k s) (sym next) ∙ after s (bytes_of (AnEntry x)) (entries_bytes es) (start_of i) e) in
      let here : entry_at s i ≡ x = ap (λ (r : Result Field NoField). entry_in (due_in 18 r)) got in
      let n : suc i + length es ≡ i + suc (length es) = omega arith in
      let sound : entry_judged s i ≡ Ok tt = rw (got, h.0) in
      (rw sound each, rw n at last, ap (λ (r : List Entry). entry_at s i ∷ r) others ∙ ap (λ (y : Entry). y ∷ es) here)

-- the bytes of entries that a file can hold are read as those entries
pub bytes_file : (es : List Entry) → Placed es → placement_of (placement_bytes es) ≡ placement es
unfolding placement_of file_judged body_judged count_judged owed placement_bytes
bytes_file es p =
    let s = placement_bytes es in
    let got = field_back s 0 (Count (length es)) (entries_bytes es) (omega (arith, p.few), tt) refl in
    let n : owed s ≡ length es = ap (λ (r : Result Field NoField). count_in (due_in 17 r)) got in
    let (each, last, all) = body_back s es 0 p.ranged (after s (bytes_of (Count (length es))) (entries_bytes es) 0 refl) in
    let few : leb (length es) most_entries ≡ true = le-leb (length es) most_entries p.few in
    let z : 0 + length es ≡ length es = omega arith in
    let sound : body_judged s (length es) ≡ Ok tt = rw each (rw z at last) in
    rw (n, got, few, sound, all)
