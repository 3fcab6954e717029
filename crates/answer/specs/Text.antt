-- Each line that is printed, and the whole answer, as the bytes of its text (RULES 7.3 to 7.6).
use Rattle.std.specs.Prelude.{ℕ, zero, suc, ◌+◌, ◌/◌, ◌%◌, ◌≤◌, ◌≡◌, List, [], ◌∷◌, ◌++◌, length, replicate}
use Rattle.std.proofs.lemmas.List.Edits.{sets}
use Rattle.rules.specs.declared.Refusal.{Refusal}
use Rattle.rules.specs.Refusal.{number_of, place_of}
use Rattle.answer.specs.declared.Line.{Line}

-- the decimal digits of q, none where it is 0; it has at most k
unfoldable pub higher : ℕ → ℕ → List ℕ
higher zero q = []
higher (suc k) zero = []
higher (suc k) (suc q) = higher k (suc q / 10) ++ ((48 + suc q % 10) ∷ [])

-- the decimal digits of n: the last one, after those of the tens
unfoldable pub digits : ℕ → List ℕ
digits n = higher n (n / 10) ++ ((48 + n % 10) ∷ [])

-- "least "
abbrev pub least : List ℕ
least = 108 ∷ 101 ∷ 97 ∷ 115 ∷ 116 ∷ 32 ∷ []

-- "legal "
abbrev pub legal : List ℕ
legal = 108 ∷ 101 ∷ 103 ∷ 97 ∷ 108 ∷ 32 ∷ []

-- "wire "
abbrev pub wire : List ℕ
wire = 119 ∷ 105 ∷ 114 ∷ 101 ∷ 32 ∷ []

-- " offset "
abbrev pub offset : List ℕ
offset = 32 ∷ 111 ∷ 102 ∷ 102 ∷ 115 ∷ 101 ∷ 116 ∷ 32 ∷ []

-- " drives "
abbrev pub drives : List ℕ
drives = 32 ∷ 100 ∷ 114 ∷ 105 ∷ 118 ∷ 101 ∷ 115 ∷ 32 ∷ []

-- "source drives "
abbrev pub source : List ℕ
source = 115 ∷ 111 ∷ 117 ∷ 114 ∷ 99 ∷ 101 ∷ drives

-- "refused "
abbrev pub refused : List ℕ
refused = 114 ∷ 101 ∷ 102 ∷ 117 ∷ 115 ∷ 101 ∷ 100 ∷ 32 ∷ []

-- " place "
abbrev pub place : List ℕ
place = 32 ∷ 112 ∷ 108 ∷ 97 ∷ 99 ∷ 101 ∷ 32 ∷ []

abbrev pub end : List ℕ
end = 10 ∷ []

-- a word and its number
unfoldable pub said : List ℕ → ℕ → List ℕ
said word n = word ++ digits n

-- a line of one word and its number
unfoldable pub count_line : List ℕ → ℕ → List ℕ
count_line word n = said word n ++ end

-- a line of two words and their numbers
unfoldable pub pair_line : List ℕ → ℕ → List ℕ → ℕ → List ℕ
pair_line one n other m = (said one n ++ said other m) ++ end

-- `least N`: "the count"
abbrev pub least_line : ℕ → List ℕ
least_line n = count_line least n

-- `wire W offset O`
abbrev pub place_line : ℕ → ℕ → List ℕ
place_line w o = pair_line wire w offset o

-- `wire W offset O drives L`
unfoldable pub entry_line : ℕ → ℕ → ℕ → List ℕ
entry_line w o l = ((said wire w ++ said offset o) ++ said drives l) ++ end

-- `source drives L`
abbrev pub source_line : ℕ → List ℕ
source_line l = count_line source l

-- `refused N place P` (RULES 7.5)
unfoldable pub refused_line : Refusal → List ℕ
refused_line r = pair_line refused (number_of r) place (place_of r)

-- the same after a word that says which file is at fault
abbrev pub refused_by : List ℕ → Refusal → List ℕ
refused_by word r = word ++ refused_line r

-- a line as it is handed over: its bytes, zeros after them, and how many there are
abbrev pub line : List ℕ → Line
line bytes = record { text = sets (replicate 64 0) 0 bytes; bytes = length bytes }

pub record IsLine (bytes : List ℕ) (r : Line) : Type 0 where
  pub is : r ≡ line bytes
  pub short : length bytes ≤ 64

-- a line that is written on: what stood in it, and `bytes` behind that
abbrev pub Continues : Line → List ℕ → Line → Type 0
Continues before bytes after = (front : List ℕ) → IsLine front before → IsLine (front ++ bytes) after

-- `bytes` stand in a buffer from the place `at` on, where `before` was; `next` is the place after them
pub record Laid (before : List ℕ) (at : ℕ) (bytes after : List ℕ) (next : ℕ) : Type 0 where
  pub ends : next ≡ at + length bytes
  pub stands : after ≡ sets before at bytes

-- the lines of the entries that three columns hold
unfoldable pub entry_lines : List ℕ → List ℕ → List ℕ → List ℕ
entry_lines [] os ls = []
entry_lines (w ∷ ws) [] ls = []
entry_lines (w ∷ ws) (o ∷ os) [] = []
entry_lines (w ∷ ws) (o ∷ os) (l ∷ ls) = entry_line w o l ++ entry_lines ws os ls

-- and without their loads
unfoldable pub place_lines : List ℕ → List ℕ → List ℕ
place_lines [] os = []
place_lines (w ∷ ws) [] = []
place_lines (w ∷ ws) (o ∷ os) = place_line w o ++ place_lines ws os

-- what each entry drives, and the source
unfoldable pub loads_text : List ℕ → List ℕ → List ℕ → ℕ → List ℕ
loads_text ws os ls load = entry_lines ws os ls ++ source_line load

-- the whole answer of a net that has one
unfoldable pub answer_text : List ℕ → List ℕ → List ℕ → ℕ → List ℕ
answer_text ws os ls load = least_line (length ws) ++ loads_text ws os ls load

-- a word with the number of some entries, and the entries
unfoldable pub counted_text : List ℕ → List ℕ → List ℕ → List ℕ
counted_text word ws os = count_line word (length ws) ++ place_lines ws os
