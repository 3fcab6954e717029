-- RULES 3.7, 3.9, 6.8, 6.9: what a placement file says, what two columns say, and what the reader and the writer answer and leave.
use Rattle.std.specs.Prelude.{ℕ, ◌+◌, ◌*◌, min, ◌≡◌, List, [], ◌∷◌, ◌++◌, map, Bool, length, get_or, ltb, leb, eqb, Ok, Err, Result}
use Rattle.std.proofs.lemmas.List.Edits.{sets}
use Rattle.rules.specs.Figures.{most_nodes, most_wire, most_entries}
use Rattle.rules.specs.Choose.{pick, both}
use Rattle.rules.specs.Refusal.{number_of, place_of}
use Rattle.rules.specs.Judge.{unless, then_judge, judge_each}
use Rattle.rules.specs.Load.{entries}
pub use Rattle.rules.specs.Load.{column_entry}
use Rattle.rules.specs.Checked.{placement_fits}
use Rattle.rules.specs.declared.Entry.{Entry}
use Rattle.rules.specs.declared.Refusal.{Refusal}
use Rattle.rules.specs.declared.Refusal.TheVariants.{OutOfRange, BytesAfterEnd, WrongColumns, NoRoom}
use Rattle.rules.specs.Judged.{Judged}
use Rattle.field.specs.Listed.{listed}
use Rattle.field.specs.declared.Field.{Field}
use Rattle.field.specs.Format.{tag_of, numbers_of, due_at, bytes_of, wrote, laid}
use Rattle.field.specs.declared.Value.TheVariants.{Count, Entry as AnEntry, End}

-- ---- one field

-- a field was due, and was found or not
abbrev pub due : Result Field Refusal → Judged
due (Ok f) = Ok tt
due (Err r) = Err r

-- the numbers in a field of this tag; none where another stands
abbrev pub numbers_in : ℕ → Result Field Refusal → List ℕ
numbers_in tag (Ok f) = pick (eqb (tag_of f.value) tag) (numbers_of f.value) []
numbers_in tag (Err r) = []

abbrev pub count_in : Result Field Refusal → ℕ
count_in d = get_or (numbers_in 17 d) 0 0

abbrev pub entry_in : Result Field Refusal → Entry
entry_in d = record { wire = get_or (numbers_in 18 d) 0 0; offset = get_or (numbers_in 18 d) 1 0 }

-- RULES 3.9: the ranges of an entry in a file
abbrev pub entry_in_range : Entry → Bool
entry_in_range e = both (ltb 0 e.wire) (both (leb e.wire most_nodes) (leb e.offset most_wire))

-- a value, where the judgement of it refuses nothing
abbrev pub allowed : {A : Type 0} → Judged → A → Result A Refusal
allowed (Ok _) x = Ok x
allowed (Err r) x = Err r

-- ---- a file: RULES 3.7, the count, as many entries as it says, the end

-- the number of entries that the front of a file says
unfoldable pub owed : List ℕ → ℕ
owed s = count_in (due_at 17 s 0)

-- a count that no file can hold is 3
unfoldable pub count_judged : List ℕ → Judged
count_judged s = then_judge (due (due_at 17 s 0)) (unless (leb (owed s) most_entries) (OutOfRange 0))

-- RULES 3.11: the byte where entry i begins, and where the end does after i entries
abbrev pub start_of : ℕ → ℕ
start_of i = 5 + 9 * i

unfoldable pub entry_at : List ℕ → ℕ → Entry
entry_at s i = entry_in (due_at 18 s (start_of i))

unfoldable pub entry_judged : List ℕ → ℕ → Judged
entry_judged s i = then_judge (due (due_at 18 s (start_of i))) (unless (entry_in_range (entry_at s i)) (OutOfRange (start_of i)))

-- RULES 5.3: 6 when the end has been read
unfoldable pub end_judged : List ℕ → ℕ → Judged
end_judged s at = then_judge (due (due_at 127 s at)) (unless (leb (length s) (at + 3)) (BytesAfterEnd (at + 3)))

-- n entries and the end
unfoldable pub body_judged : List ℕ → ℕ → Judged
body_judged s n = then_judge (judge_each (entry_judged s) n 0) (end_judged s (start_of n))

unfoldable pub file_judged : List ℕ → Judged
file_judged s = then_judge (count_judged s) (body_judged s (owed s))

abbrev pub wire : Entry → ℕ
wire e = e.wire

abbrev pub offset : Entry → ℕ
offset e = e.offset

-- ---- what a file says, and what two columns say: the entries or the first refusal

pub data Outcome : Type 0 where
  placement : List Entry → Outcome
  refused : Refusal → Outcome

abbrev pub outcome : Judged → List Entry → Outcome
outcome (Ok _) es = placement es
outcome (Err r) es = refused r

unfoldable pub placement_of : List ℕ → Outcome
placement_of s = outcome (file_judged s) (listed (entry_at s) (owed s) 0)

-- RULES 5.9: 3 of an entry, at its number
unfoldable pub range_judged : List ℕ → List ℕ → ℕ → Judged
range_judged vs os i = unless (entry_in_range (column_entry vs os i)) (OutOfRange i)

abbrev pub ranges_judged : List ℕ → List ℕ → Judged
ranges_judged vs os = judge_each (range_judged vs os) (length vs) 0

unfoldable pub columns_judged : List ℕ → List ℕ → Judged
columns_judged vs os = then_judge (unless (placement_fits vs os) WrongColumns) (ranges_judged vs os)

unfoldable pub columns_of : List ℕ → List ℕ → Outcome
columns_of vs os = outcome (columns_judged vs os) (entries vs os)

-- ---- the reader

-- RULES 6.2: the shorter column is the room; 9 with the number of entries
abbrev pub answer : ℕ → Outcome → Result ℕ Refusal
answer room (refused r) = Err r
answer room (placement es) = pick (ltb room (length es)) (Err (NoRoom (length es))) (Ok (length es))

-- RULES 6.3, 4.2: success writes as many places as there are entries, and a refusal none
abbrev pub filled : ℕ → Outcome → (Entry → ℕ) → List ℕ → List ℕ
filled room (refused r) f col = col
filled room (placement es) f col = pick (ltb room (length es)) col (sets col 0 (map f es))

pub record ReadAs (o : Outcome) (vs os vs' os' : List ℕ) (r : Result ℕ Refusal) : Type 0 where
  pub answered : r ≡ answer (min (length vs) (length os)) o
  pub wires : vs' ≡ filled (min (length vs) (length os)) o wire vs
  pub offsets : os' ≡ filled (min (length vs) (length os)) o offset os

-- 0 and the entries read, or a refusal's number and place
abbrev pub read_number : Result ℕ Refusal → ℕ
read_number (Ok n) = 0
read_number (Err r) = number_of r

abbrev pub read_count : Result ℕ Refusal → ℕ
read_count (Ok n) = n
read_count (Err r) = place_of r

-- ---- the writer

-- the entries and the end, one field after the other; before them the count
unfoldable pub entries_bytes : List Entry → List ℕ
entries_bytes [] = bytes_of End
entries_bytes (e ∷ es) = bytes_of (AnEntry e) ++ entries_bytes es

unfoldable pub placement_bytes : List Entry → List ℕ
placement_bytes es = bytes_of (Count (length es)) ++ entries_bytes es

abbrev pub written : Outcome → List ℕ → Result ℕ Refusal
written (refused r) out = Err r
written (placement es) out = wrote (placement_bytes es) out

-- the bytes and no others, and a refusal none
abbrev pub left : Outcome → List ℕ → List ℕ
left (refused r) out = out
left (placement es) out = laid (placement_bytes es) out

pub record WroteAs (o : Outcome) (out out' : List ℕ) (r : Result ℕ Refusal) : Type 0 where
  pub answered : r ≡ written o out
  pub bytes : out' ≡ left o out
