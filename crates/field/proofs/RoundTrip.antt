-- A field's bytes read back are the field, and a field that was read stands in the file byte for byte: tag, length and value are one row of numbers,
-- and a row comes back from its bytes and the bytes from the row.
use Rattle.std.specs.Prelude.{Ok, Err}
use Prim.Native.Nat.{ℕ, ◌+◌, ◌-◌, ◌<◌, ◌≤◌}
use native.Mathlib.Omega.{arith}
use mathlib.Core.Path.{◌≡◌, refl, sym, ap, subst, ◌∙◌}
use mathlib.Core.List.{List, [], ◌∷◌, ◌++◌}
use mathlib.Core.Bool.{Bool, true, false}
use lib.ListN.{length, get_or, take, drop, length-drop, length-append, take-append-drop}
use lib.Seq.{get_or-drop, length-take-le, drop-drop, drop-append_seam}
use lib.Dec.{ltb, eqb}
use borrow.Author.Tests.{eqb-true, ltb-false}
use Rattle.rules.specs.declared.Refusal.TheVariants.{FileEnds, NotDue}
use Rattle.field.specs.declared.Value.{Value}
use Rattle.field.specs.declared.Value.TheVariants.{Limits, Branch, Sink, Count, Entry, End}
use Rattle.field.specs.declared.Field.{Field}
use Rattle.field.specs.declared.NoField.TheVariants.{Cut, Refused}
use Rattle.rules.specs.Choose.{pick}
use Rattle.rules.proofs.Tests.{never}
use Rattle.field.specs.Format.{number_at, numbers_at, bytes_of_all, sum, table, lookup, widths_of, length_of, tag_of, numbers_of, value_of, value_in, field_in, field_at, bytes_of, Fitting}
use Rattle.field.proofs.Numbers.{AreBytes, numbers_back, all_back}
use Rattle.field.proofs.Reading.{got}

-- ---- written, then read

pub shape : (v : Value) → (v ≡ value_of (tag_of v) (numbers_of v)) × ((tag_of v < 256) × (length_of (tag_of v) < 65536) × (length (bytes_of v) ≡ 3 + length_of (tag_of v)))
shape (Limits l) = (refl, omega arith)
shape (Branch p w) = (refl, omega arith)
shape (Sink p w c q) = (refl, omega arith)
shape (Count n) = (refl, omega arith)
shape (Entry e) = (refl, omega arith)
shape End = (refl, omega arith)

pub read_written : (at : ℕ) (v : Value) (rest : List ℕ) → Fitting v → field_in at (bytes_of v ++ rest) ≡ Ok (record { at = at; value = v })
read_written at v rest h =
    let t = tag_of v in
    let s = shape v in
    let l = bytes_of v ++ rest in
    let all : numbers_at (1 ∷ 2 ∷ widths_of t) l 0 ≡ t ∷ length_of t ∷ numbers_of v = numbers_back (1 ∷ 2 ∷ widths_of t) (t ∷ length_of t ∷ numbers_of v) [] rest (s.1.0, (s.1.1, h)) in
    let room : 3 + length_of t ≤ length l = simp length-append (omega arith) in
    sym (got at l (omega arith) (sym (ap (λ (ns : List ℕ). get_or ns 1 0) all)) refl refl room (s.0 ∙ sym (ap (λ (ns : List ℕ). value_of t (drop 2 ns)) all)))

-- ---- read, then written

abbrev Each : List (ℕ × List ℕ) → (ℕ → Type 0) → Type 0
Each [] P = Unit {0}
Each (row ∷ rows) P = P row.0 × Each rows P

-- what holds of each tag in a table holds of each tag whose length two bytes hold
each_tag : (rows : List (ℕ × List ℕ)) (P : ℕ → Type 0) → Each rows P → (t : ℕ) → sum (lookup rows t) < 65536 → P t
each_tag [] P all t h = absurd (omega arith)
each_tag (row ∷ rows) P all t h = by (eqb t row.0) refl h (each_tag rows P all.1 t)
  where
    by : (b : Bool) → eqb t row.0 ≡ b → sum (pick b row.1 (lookup rows t)) < 65536 → (sum (lookup rows t) < 65536 → P t) → P t
    by true e k later = subst P (sym (eqb-true t row.0 e)) all.0
    by false e k later = later k

-- tag and numbers of what is read in a field of tag t
abbrev pub Kept : ℕ → Type 0
Kept t = (l : List ℕ) → (tag_of (value_in t l) ≡ t) × (numbers_of (value_in t l) ≡ numbers_at (widths_of t) l 3)

pub kept : (t : ℕ) → length_of t < 65536 → Kept t
kept = each_tag table Kept ((λ l. (refl, refl)), ((λ l. (refl, refl)), ((λ l. (refl, refl)), ((λ l. (refl, refl)), ((λ l. (refl, refl)), ((λ l. (refl, refl)), tt))))))

-- a field of tag t, from its header on
abbrev row : ℕ → ℕ → List ℕ → List ℕ
row t n ns = bytes_of_all (1 ∷ 2 ∷ widths_of t) (t ∷ n ∷ ns)

same_bytes : (l : List ℕ) → AreBytes l → number_at 2 l 1 ≡ length_of (get_or l 0 0) → 3 + length_of (get_or l 0 0) ≤ length l
    → bytes_of (value_in (get_or l 0 0) l) ≡ take (3 + length_of (get_or l 0 0)) l
same_bytes l by sized room =
    let t = get_or l 0 0 in
    let k = kept t (omega (arith, by 1, by 2)) l in
    let n : 1 + (2 + length_of t) ≡ 3 + length_of t = omega arith in
    ap (λ (x : ℕ). row x (length_of x) (numbers_of (value_in t l))) k.0
    ∙ ap (row t (length_of t)) k.1
    ∙ ap (λ (x : ℕ). row t x (numbers_at (widths_of t) l 3)) (sym sized)
    ∙ all_back l by (1 ∷ 2 ∷ widths_of t) 0 (omega arith)
    ∙ ap (λ (x : ℕ). take x l) n

-- the ways to a field
to_got : (at x : ℕ) (b₁ b₂ b₃ : Bool) {g f : Field} → pick b₁ (Err (Refused (FileEnds at))) (pick b₂ (pick b₃ (Err (Cut x at)) (Ok g)) (Err (Refused (NotDue at)))) ≡ Ok f
    → (b₁ ≡ false) × (b₂ ≡ true) × (b₃ ≡ false) × (g ≡ f)
to_got at x true b₂ b₃ e = never (cc)
to_got at x false false b₃ e = never (cc)
to_got at x false true true e = never (cc)
to_got at x false true false e = (refl, refl, refl, cc)

-- what was read at a place is exactly the bytes there
pub record Stands (s : List ℕ) (at : ℕ) (f : Field) : Type 0 where
  pub place : f.at ≡ at
  pub inside : at + length (bytes_of f.value) ≤ length s
  pub bytes : take (length (bytes_of f.value)) (drop at s) ≡ bytes_of f.value

pub written_read : (s : List ℕ) (at : ℕ) (f : Field) → AreBytes s → field_at s at ≡ Ok f → Stands s at f
unfolding field_in
written_read s at f by e =
    let l = drop at s in
    let t = to_got at (get_or l 0 0) (ltb (length l) 3) (eqb (number_at 2 l 1) (length_of (get_or l 0 0))) (ltb (length l) (3 + length_of (get_or l 0 0))) e in
    let byl : (k : ℕ) → get_or l k 0 < 256 = λ k. rw get_or-drop (by (at + k)) in
    let room : 3 + length_of (get_or l 0 0) ≤ length l = ltb-false _ _ t.2 in
    let v : value_in (get_or l 0 0) l ≡ f.value = ap (λ (g : Field). g.value) t.3 in
    let q : bytes_of f.value ≡ take (3 + length_of (get_or l 0 0)) l = ap bytes_of (sym v) ∙ same_bytes l byl (eqb-true _ _ t.1) room in
    let n : length (bytes_of f.value) ≡ 3 + length_of (get_or l 0 0) = ap length q ∙ length-take-le (3 + length_of (get_or l 0 0)) l room in
    let inner : length l ≡ length s - at = length-drop at s in
    record {
      place = sym (ap (λ (g : Field). g.at) t.3);
      inside = omega arith;
      bytes = ap (λ (x : ℕ). take x l) n ∙ sym q;
    }

-- ---- in a file

-- what stands after some bytes that stand at a place
pub after : (s bs rest : List ℕ) (at : ℕ) → drop at s ≡ bs ++ rest → drop (at + length bs) s ≡ rest
after s bs rest at e = sym (drop-drop (length bs) at s) ∙ ap (drop (length bs)) e ∙ drop-append_seam bs rest

-- a field whose bytes stand at a place is read there
pub field_back : (s : List ℕ) (at : ℕ) (v : Value) (rest : List ℕ) → Fitting v → drop at s ≡ bytes_of v ++ rest → field_at s at ≡ Ok (record { at = at; value = v })
field_back s at v rest h e = ap (field_in at) e ∙ read_written at v rest h

-- from the place where a field was read on the file is its bytes and those after it
pub begins : (s : List ℕ) → AreBytes s → (at : ℕ) (f : Field) (v : Value) → field_at s at ≡ Ok f → f.value ≡ v → drop at s ≡ bytes_of v ++ drop (at + length (bytes_of v)) s
begins s by at f v e q =
    let t : take (length (bytes_of v)) (drop at s) ≡ bytes_of v = rw q at (written_read s at f by e).bytes in
    sym (take-append-drop (length (bytes_of v)) (drop at s)) ∙ rw (t, drop-drop (length (bytes_of v)) at s)
