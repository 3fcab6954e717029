-- The numbers that a placement file is refused with: each, at its place, exactly where its row says, over the file's bytes.
use Rattle.std.specs.Prelude.{Ok, Err, Result}
use Rattle.field.specs.declared.Field.{Field}
use Prim.Native.Nat.{ℕ, ◌+◌, ◌<◌, ◌≤◌}
use native.Mathlib.Omega.{arith}
use mathlib.Core.Path.{◌≡◌, refl, sym, ap, subst, ◌∙◌}
use mathlib.Core.List.{List}
use mathlib.Core.Bool.{Bool, true, false}
use lib.ListN.{length}
use lib.Dec.{leb}
use borrow.Author.Tests.{le-leb, lt-leb, leb-true, leb-false}
use Rattle.rules.specs.Figures.{most_entries}
use Rattle.rules.specs.Judge.{unless, then_judge, judge_each}
use Rattle.rules.specs.Refusal.{number_of, place_of}
use Rattle.rules.specs.declared.Refusal.{Refusal}
use Rattle.rules.specs.declared.Refusal.TheVariants.{OutOfRange, BytesAfterEnd}
use Rattle.rules.specs.Judged.{Judged}
use Rattle.rules.proofs.Tests.{never}
use Rattle.rules.proofs.Each.{each_sound, each_met, first_refused, refused_first}
use Rattle.field.specs.Format.{due_at}
use Rattle.field.proofs.Numbers.{AreBytes}
use Rattle.field.proofs.ReadNumbers.{Holds, Lacks, short_header, other_tag, wrong_length, short_body, DueRow, found, missing, holds_found, lacks_missing, due_seen}
use Rattle.placement_file.specs.File.{due, entry_in_range, owed, count_judged, start_of, entry_at, entry_judged, end_judged, body_judged, file_judged, placement, refused, placement_of}
use Rattle.field.specs.Listed.{listed as entryList}

-- ---- the rows

-- the number of entries stands at the front and is no more than a file can hold
pub record Counted (s : List ℕ) : Type 0 where
  pub held : Holds 17 s 0
  pub few : owed s ≤ most_entries

-- entry i stands at its place and is in its range
pub record Listed (s : List ℕ) (i : ℕ) : Type 0 where
  pub held : Holds 18 s (start_of i)
  pub ranged : entry_in_range (entry_at s i) ≡ true

-- the entries before entry i are all right
pub record Until (s : List ℕ) (i : ℕ) : Type 0 where
  pub counted : Counted s
  pub high : i ≤ owed s
  pub each : (j : ℕ) → j < i → Listed s j

-- one row a reason: the number k at the place p
pub data FileRow (s : List ℕ) (k p : ℕ) : Type 0 where
  no_count : Lacks 17 s 0 k → p ≡ 0 → FileRow s k p
  many : Holds 17 s 0 → most_entries < owed s → k ≡ 3 → p ≡ 0 → FileRow s k p
  no_entry : (i : ℕ) → i < owed s → Until s i → Lacks 18 s (start_of i) k → p ≡ start_of i → FileRow s k p
  range : (i : ℕ) → i < owed s → Until s i → Holds 18 s (start_of i) → entry_in_range (entry_at s i) ≡ false → k ≡ 3 → p ≡ start_of i → FileRow s k p
  no_end : Until s (owed s) → Lacks 127 s (start_of (owed s)) k → p ≡ start_of (owed s) → FileRow s k p
  more : Until s (owed s) → Holds 127 s (start_of (owed s)) → start_of (owed s) + 3 < length s → k ≡ 6 → p ≡ start_of (owed s) + 3 → FileRow s k p

-- ---- a judgement that refuses with this number at this place

pub record Refuses (j : Judged) (k p : ℕ) : Type 0 where
  pub why : Refusal
  pub is : j ≡ Err why
  pub number : number_of why ≡ k
  pub place : place_of why ≡ p

stopped : {j : Judged} {k p : ℕ} (next : Judged) → Refuses j k p → Refuses (then_judge j next) k p
stopped next r = record { why = r.why; is = ap (λ (x : Judged). then_judge x next) r.is; number = r.number; place = r.place }

went_on : {j next : Judged} {k p : ℕ} → j ≡ Ok tt → Refuses next k p → Refuses (then_judge j next) k p
went_on {next = next} e r = record { why = r.why; is = ap (λ (x : Judged). then_judge x next) e ∙ r.is; number = r.number; place = r.place }

-- ---- one field: it is due, and then a test of it

abbrev field_judged : ℕ → List ℕ → ℕ → Bool → Refusal → Judged
field_judged tag s at t x = then_judge (due (due_at tag s at)) (unless t x)

-- the three ways out
data Way (tag : ℕ) (s : List ℕ) (at : ℕ) (t : Bool) (x : Refusal) : Type 0 where
  lacks : {k : ℕ} → Lacks tag s at k → Refuses (field_judged tag s at t x) k at → Way tag s at t x
  fails : Holds tag s at → t ≡ false → field_judged tag s at t x ≡ Err x → Way tag s at t x
  passes : Holds tag s at → t ≡ true → field_judged tag s at t x ≡ Ok tt → Way tag s at t x

module _ (s : List ℕ) (by : AreBytes s) (tag at : ℕ) (x : Refusal) where
  is_lacking : (t : Bool) {k : ℕ} → Lacks tag s at k → Refuses (field_judged tag s at t x) k at
  is_lacking t l = let m = lacks_missing tag s by at l in record { why = m.why; is = ap (λ (d : Result Field Refusal). then_judge (due d) (unless t x)) m.is; number = m.number; place = m.place }

  is_tested : {t b : Bool} → Holds tag s at → t ≡ b → field_judged tag s at t x ≡ unless b x
  is_tested h e = rw (holds_found tag s by at h, e)

  way : (t : Bool) → Way tag s at t x
  way t = go t refl (due_seen tag s by at).1
    where
      go : (b : Bool) → t ≡ b → {k : ℕ} → DueRow tag s at k → Way tag s at t x
      go b e (missing l) = lacks l (is_lacking t l)
      go true e (found h q) = passes h e (is_tested h e)
      go false e (found h q) = fails h e (is_tested h e)

-- ---- the whole file

placed : {j : Judged} {k p q : ℕ} → p ≡ q → Refuses j k q → Refuses j k p
placed {j} {k} e r = subst (Refuses j k) (sym e) r

-- a file that is sound, or the row that it is refused by
pub data Told (s : List ℕ) : Type 0 where
  sound : file_judged s ≡ Ok tt → Told s
  row : {k p : ℕ} → FileRow s k p → Told s

module _ (s : List ℕ) (by : AreBytes s) where
  counted : Counted s → count_judged s ≡ Ok tt
  unfolding count_judged
  counted c = is_tested s by 17 0 (OutOfRange 0) c.held (le-leb (owed s) most_entries c.few)

  entry_way : (i : ℕ) → Way 18 s (start_of i) (entry_in_range (entry_at s i)) (OutOfRange (start_of i))
  entry_way i = way s by 18 (start_of i) (OutOfRange (start_of i)) (entry_in_range (entry_at s i))

  listed : (i : ℕ) → Listed s i → entry_judged s i ≡ Ok tt
  unfolding entry_judged
  listed i l = is_tested s by 18 (start_of i) (OutOfRange (start_of i)) l.held l.ranged

  listed_back : (i : ℕ) → entry_judged s i ≡ Ok tt → Listed s i
  unfolding entry_judged
  listed_back i e = go (entry_way i)
    where
      go : Way 18 s (start_of i) (entry_in_range (entry_at s i)) (OutOfRange (start_of i)) → Listed s i
      go (lacks l r) = never (cc r.is)
      go (fails h t f) = never (cc)
      go (passes h t f) = record { held = h; ranged = t }

  -- where the count, and so many entries, are all right
  stops : (i : ℕ) {k p : ℕ} → i < owed s → Until s i → Refuses (entry_judged s i) k p → Refuses (file_judged s) k p
  unfolding file_judged body_judged
  stops i h u r =
      let e = first_refused (entry_judged s) (owed s) 0 i (record { low = omega arith; high = omega arith; before = λ m lo hi. listed m (u.each m hi); here = r.is }) in
      went_on (counted u.counted) (stopped (end_judged s (start_of (owed s))) (record { why = r.why; is = e; number = r.number; place = r.place }))

  ends : {k p : ℕ} → Until s (owed s) → Refuses (end_judged s (start_of (owed s))) k p → Refuses (file_judged s) k p
  unfolding file_judged body_judged
  ends u r = went_on (counted u.counted) (went_on (each_sound (entry_judged s) (owed s) 0 (λ j lo hi. listed j (u.each j (omega arith)))) r)

  pub row_refuses : {k p : ℕ} → FileRow s k p → Refuses (file_judged s) k p
  unfolding file_judged count_judged entry_judged end_judged
  row_refuses (no_count l q) = placed q (stopped (body_judged s (owed s)) (is_lacking s by 17 0 (OutOfRange 0) (leb (owed s) most_entries) l))
  row_refuses (many h m q z) = placed z (stopped (body_judged s (owed s)) (record { why = OutOfRange 0; is = is_tested s by 17 0 (OutOfRange 0) h (lt-leb _ _ m); number = sym q; place = refl }))
  row_refuses (no_entry i h u l q) = placed q (stops i h u (is_lacking s by 18 (start_of i) (OutOfRange (start_of i)) (entry_in_range (entry_at s i)) l))
  row_refuses (range i h u l e q z) = placed z (stops i h u (record { why = OutOfRange (start_of i); is = is_tested s by 18 (start_of i) (OutOfRange (start_of i)) l e; number = sym q; place = refl }))
  row_refuses (no_end u l q) = placed q (ends u (is_lacking s by 127 (start_of (owed s)) (BytesAfterEnd (start_of (owed s) + 3)) (leb (length s) (start_of (owed s) + 3)) l))
  row_refuses (more u h m q z) = placed z (ends u (record { why = BytesAfterEnd (start_of (owed s) + 3); is = is_tested s by 127 (start_of (owed s)) (BytesAfterEnd (start_of (owed s) + 3)) h (lt-leb _ _ m); number = sym q; place = refl }))

  -- the other way
  at_end : Until s (owed s) → judge_each (entry_judged s) (owed s) 0 ≡ Ok tt → Way 127 s (start_of (owed s)) (leb (length s) (start_of (owed s) + 3)) (BytesAfterEnd (start_of (owed s) + 3)) → Told s
  unfolding file_judged body_judged end_judged
  at_end u e (lacks l r) = row (no_end u l refl)
  at_end u e (fails h t f) = row (more u h (leb-false _ _ t) refl refl)
  at_end u e (passes h t f) = sound (rw (counted u.counted, e) f)

  at_entry : (i : ℕ) {r : Refusal} → i < owed s → Until s i → entry_judged s i ≡ Err r → Way 18 s (start_of i) (entry_in_range (entry_at s i)) (OutOfRange (start_of i)) → Told s
  unfolding entry_judged
  at_entry i h u e (lacks l r) = row (no_entry i h u l refl)
  at_entry i h u e (fails l t f) = row (range i h u l t refl refl)
  at_entry i h u e (passes l t f) = never (cc)

  at_body : Counted s → (j : Judged) → judge_each (entry_judged s) (owed s) 0 ≡ j → Told s
  at_body c (Ok _) e =
      let u : Until s (owed s) = record { counted = c; high = omega arith; each = λ j h. listed_back j (each_met (entry_judged s) (owed s) 0 e j (omega arith) (omega arith)) } in
      at_end u e (way s by 127 (start_of (owed s)) (BytesAfterEnd (start_of (owed s) + 3)) (leb (length s) (start_of (owed s) + 3)))
  at_body c (Err r) e =
      let (i, f) = refused_first (entry_judged s) (owed s) 0 e in
      let u : Until s i = record { counted = c; high = omega (arith, f.high); each = λ j h. listed_back j (f.before j (omega arith) h) } in
      at_entry i (omega (arith, f.high)) u f.here (entry_way i)

  at_count : Way 17 s 0 (leb (owed s) most_entries) (OutOfRange 0) → Told s
  at_count (lacks l r) = row (no_count l refl)
  at_count (fails h t f) = row (many h (leb-false _ _ t) refl refl)
  at_count (passes h t f) = at_body (record { held = h; few = leb-true _ _ t }) _ refl

  pub told : Told s
  told = at_count (way s by 17 0 (OutOfRange 0) (leb (owed s) most_entries))

  -- so a file is refused by 1, 2, 3 or 6
  lacks_small : {tag at k : ℕ} → Lacks tag s at k → k ≤ 6
  lacks_small (short_header h e) = omega arith
  lacks_small (other_tag h n e) = omega arith
  lacks_small (wrong_length h n e) = omega arith
  lacks_small (short_body h t l e) = omega arith

  row_small : {k p : ℕ} → FileRow s k p → k ≤ 6
  row_small (no_count l q) = lacks_small l
  row_small (many h m e q) = omega arith
  row_small (no_entry i h u l q) = lacks_small l
  row_small (range i h u l t e q) = omega arith
  row_small (no_end u l q) = lacks_small l
  row_small (more u h m e q) = omega arith

  pub file_number : (x : Refusal) → placement_of s ≡ refused x → number_of x ≤ 6
  unfolding placement_of
  file_number x e = go told
    where
      go : Told s → number_of x ≤ 6
      go (sound f) = absurd (let z : placement (entryList (entry_at s) (owed s) 0) ≡ refused x = sym (rw f) ∙ e in let w : ◌≡◌ {A = ℕ} 0 1 = cc in omega arith)
      go (row f) = let r = row_refuses f in let q : r.why ≡ x = (let z : refused r.why ≡ refused x = sym (rw r.is) ∙ e in cc) in omega (arith, row_small f, r.number, ap number_of q)
