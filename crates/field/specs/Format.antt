-- RULES 3.2 to 3.4: one table of tags and widths, and from it both what a file says at a place and the bytes of a field.
use Rattle.std.specs.Prelude.{Ok, Err, Result, ℕ, zero, suc, ◌+◌, ◌*◌, ◌/◌, ◌%◌, ◌<◌, ◌^◌, List, [], ◌∷◌, ◌++◌, Bool, length, get_or, drop, ltb, eqb}
use Rattle.field.specs.declared.Field.{Field}
use Rattle.std.proofs.lemmas.List.Edits.{sets}
use Rattle.rules.specs.Choose.{pick}
use Rattle.rules.specs.Refusal.{number_of, place_of}
use Rattle.rules.specs.declared.Refusal.{Refusal}
use Rattle.rules.specs.declared.Refusal.TheVariants.{FileEnds, NotDue, NoRoom}
use Rattle.field.specs.declared.Value.{Value}
use Rattle.field.specs.declared.Value.TheVariants.{Limits, Branch, Sink, Count, Entry, End}
use Rattle.field.specs.declared.NoField.{NoField}
use Rattle.field.specs.declared.NoField.TheVariants.{Cut, Refused}

-- ---- numbers, high byte first: RULES 3.3

-- the number in the w bytes from index k on
abbrev pub number_at : ℕ → List ℕ → ℕ → ℕ
number_at zero l k = 0
number_at (suc zero) l k = get_or l k 0
number_at (suc (suc w)) l k = number_at (suc w) l k * 256 + get_or l (k + suc w) 0

-- the w bytes of a number
abbrev pub bytes_in : ℕ → ℕ → List ℕ
bytes_in zero n = []
bytes_in (suc zero) n = n ∷ []
bytes_in (suc (suc w)) n = bytes_in (suc w) (n / 256) ++ (n % 256 ∷ [])

-- numbers of these widths, one after the other
abbrev pub numbers_at : List ℕ → List ℕ → ℕ → List ℕ
numbers_at [] l k = []
numbers_at (w ∷ ws) l k = number_at w l k ∷ numbers_at ws l (k + w)

abbrev pub bytes_of_all : List ℕ → List ℕ → List ℕ
bytes_of_all (w ∷ ws) (n ∷ ns) = bytes_in w n ++ bytes_of_all ws ns
bytes_of_all [] ns = []
bytes_of_all (w ∷ ws) [] = []

abbrev pub sum : List ℕ → ℕ
sum [] = 0
sum (w ∷ ws) = w + sum ws

-- ---- the table: RULES 3.4

-- a tag, and the widths of the numbers that follow the length
abbrev pub table : List (ℕ × List ℕ)
table =
    (1, 4 ∷ 4 ∷ 1 ∷ [])
    ∷ (2, 2 ∷ 4 ∷ [])
    ∷ (3, 2 ∷ 4 ∷ 4 ∷ 1 ∷ [])
    ∷ (17, 2 ∷ [])
    ∷ (18, 2 ∷ 4 ∷ [])
    ∷ (127, [])
    ∷ []

-- any other tag has a length that no two bytes hold
abbrev pub lookup : List (ℕ × List ℕ) → ℕ → List ℕ
lookup [] t = 65536 ∷ []
lookup (row ∷ rows) t = pick (eqb t row.0) row.1 (lookup rows t)

abbrev pub widths_of : ℕ → List ℕ
widths_of t = lookup table t

abbrev pub length_of : ℕ → ℕ
length_of t = sum (widths_of t)

abbrev pub tag_of : Value → ℕ
tag_of (Limits l) = 1
tag_of (Branch p w) = 2
tag_of (Sink p w c q) = 3
tag_of (Count n) = 17
tag_of (Entry e) = 18
tag_of End = 127

abbrev pub numbers_of : Value → List ℕ
numbers_of (Limits l) = l.limit ∷ l.pin ∷ l.repeater ∷ []
numbers_of (Branch p w) = p ∷ w ∷ []
numbers_of (Sink p w c q) = p ∷ w ∷ c ∷ q ∷ []
numbers_of (Count n) = n ∷ []
numbers_of (Entry e) = e.wire ∷ e.offset ∷ []
numbers_of End = []

abbrev pub value_of : ℕ → List ℕ → Value
value_of t ns =
    pick (eqb t 1) (Limits (record { limit = get_or ns 0 0; pin = get_or ns 1 0; repeater = get_or ns 2 0 }))
    (pick (eqb t 2) (Branch (get_or ns 0 0) (get_or ns 1 0))
    (pick (eqb t 3) (Sink (get_or ns 0 0) (get_or ns 1 0) (get_or ns 2 0) (get_or ns 3 0))
    (pick (eqb t 17) (Count (get_or ns 0 0))
    (pick (eqb t 18) (Entry (record { wire = get_or ns 0 0; offset = get_or ns 1 0 }))
    End))))

-- ---- reading

-- the values in a whole field of this tag
abbrev pub value_in : ℕ → List ℕ → Value
value_in t l = value_of t (numbers_at (widths_of t) l 3)

-- RULES 5.1 a, b, c: what a file says at the place at, l being its bytes from there on
unfoldable pub field_in : ℕ → List ℕ → Result Field NoField
field_in at l =
    pick (ltb (length l) 3) (Err (Refused (FileEnds at)))
    (pick (eqb (number_at 2 l 1) (length_of (get_or l 0 0)))
    (pick (ltb (length l) (3 + length_of (get_or l 0 0)))
    (Err (Cut (get_or l 0 0) at))
    (Ok (record { at = at; value = value_in (get_or l 0 0) l })))
    (Err (Refused (NotDue at))))

abbrev pub field_at : List ℕ → ℕ → Result Field NoField
field_at s at = field_in at (drop at s)

-- RULES 5.1: 2 comes before a short body, so a body that is cut is 1 only where its tag is due
abbrev pub cut_at : Bool → ℕ → Refusal
cut_at due place = pick due (FileEnds place) (NotDue place)

-- so where the tag that stands there is the one that is due
abbrev pub when_due : NoField → Refusal
when_due (Cut t place) = FileEnds place
when_due (Refused r) = r

-- what is found where one tag is due
abbrev pub due_in : ℕ → Result Field NoField → Result Field Refusal
due_in tag (Ok f) = pick (eqb (tag_of f.value) tag) (Ok f) (Err (NotDue f.at))
due_in tag (Err (Cut t place)) = Err (cut_at (eqb t tag) place)
due_in tag (Err (Refused r)) = Err r

abbrev pub due_at : ℕ → List ℕ → ℕ → Result Field Refusal
due_at tag s at = due_in tag (field_at s at)

-- ---- writing

-- tag, length and value, each with its width
abbrev pub bytes_of : Value → List ℕ
bytes_of v = bytes_of_all (1 ∷ 2 ∷ widths_of (tag_of v)) (tag_of v ∷ length_of (tag_of v) ∷ numbers_of v)

-- what a writer answers and leaves in the lent room: the field at its front, or 9 and all as it was
abbrev pub wrote : List ℕ → List ℕ → Result ℕ Refusal
wrote bs out = pick (ltb (length out) (length bs)) (Err (NoRoom (length bs))) (Ok (length bs))

abbrev pub laid : List ℕ → List ℕ → List ℕ
laid bs out = pick (ltb (length out) (length bs)) out (sets out 0 bs)

-- each number of a row fits its width
abbrev pub Fit : List ℕ → List ℕ → Type 0
Fit (w ∷ ws) (n ∷ ns) = (n < 256 ^ w) × Fit ws ns
Fit [] [] = Unit {0}
Fit [] (n ∷ ns) = ⊥
Fit (w ∷ ws) [] = ⊥

abbrev pub Fitting : Value → Type 0
Fitting v = Fit (widths_of (tag_of v)) (numbers_of v)

-- ---- numbers and places: RULES 4.1, 4.3

-- a cut body is 1 where its tag is due, which the caller says, and 2 where it is not
abbrev pub read_number : (ℕ → Bool) → Result Field NoField → ℕ
read_number due (Ok f) = 0
read_number due (Err (Cut t place)) = pick (due t) 1 2
read_number due (Err (Refused r)) = number_of r

abbrev pub read_place : Result Field NoField → ℕ
read_place (Ok f) = f.at
read_place (Err (Cut t place)) = place
read_place (Err (Refused r)) = place_of r

abbrev pub due_number : Result Field Refusal → ℕ
due_number (Ok f) = 0
due_number (Err r) = number_of r

abbrev pub due_place : Result Field Refusal → ℕ
due_place (Ok f) = f.at
due_place (Err r) = place_of r

-- 0 and the bytes written, or 9 and the bytes needed
abbrev pub wrote_number : Result ℕ Refusal → ℕ
wrote_number (Ok n) = 0
wrote_number (Err r) = number_of r

abbrev pub wrote_count : Result ℕ Refusal → ℕ
wrote_count (Ok n) = n
wrote_count (Err r) = place_of r
