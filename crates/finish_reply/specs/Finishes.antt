-- What the verb `finish` says of a net and of the given entries (RULES 11): the added entries, and the whole placement for a file.
use Rattle.std.specs.Prelude.{ℕ, ◌≤◌, ◌<◌, ◌≡◌, List, [], ◌∷◌, map, length, leb, Ok, Err}
use Rattle.rules.specs.declared.Entry.{Entry}
use Rattle.rules.specs.declared.Refusal.TheVariants.{NoLegalPlacement, NoRoom}
use Rattle.rules.specs.Judged.{Judged}
use Rattle.rules.specs.Figures.{most_entries}
use Rattle.rules.specs.Choose.{pick}
use Rattle.rules.specs.Net.{Net}
use Rattle.rules.specs.Load.{entries}
use Rattle.rules.specs.Legal.{Legal}
use Rattle.rules.specs.Complete.{Joins, LeastAdded, NoneCompletes}
use Rattle.placement_file.specs.File.{wire, offset, placement_bytes}
use Rattle.finish.specs.Answer.{half_judged}
use Rattle.answer.specs.Text.{counted_text}
use Rattle.reply.specs.Said.{Said, answered, refusal}

-- "added "
abbrev pub added_word : List ℕ
added_word = 97 ∷ 100 ∷ 100 ∷ 101 ∷ 100 ∷ 32 ∷ []

-- the file of a placement that a file can hold, and none of one with more than 4,096 entries
abbrev pub file_of : List Entry → List ℕ
file_of p = pick (leb (length p) most_entries) (placement_bytes p) []

-- of given entries that stand: 8, 9 with the least number to add where that is over 4,096, or that many added entries, and the file of all
pub data FinishesNet (n : Net) (g : List Entry) (s : Said) : Type 0 where
  none : NoneCompletes n g → s ≡ refusal [] NoLegalPlacement → FinishesNet n g s
  full : (k : ℕ) → LeastAdded n g k → most_entries < k → s ≡ refusal [] (NoRoom k) → FinishesNet n g s
  finished : (a whole : List Entry) → Joins g a whole → Legal n whole → LeastAdded n g (length a) → length a ≤ most_entries
      → s ≡ answered (counted_text added_word (map wire a) (map offset a)) (file_of whole) → FinishesNet n g s

-- by what is judged of the net and of the given entries
abbrev pub FinishesBy : Judged → Net → List Entry → Said → Type 0
FinishesBy (Ok _) n g s = FinishesNet n g s
FinishesBy (Err r) n g s = s ≡ refusal [] r

abbrev pub Finishes : Net → List ℕ → List ℕ → Said → Type 0
Finishes n ws os s = FinishesBy (half_judged n ws os) n (entries ws os) s
