-- What the call answers that finishes a half-buffered net (RULES 8).
use Rattle.std.specs.Prelude.{ℕ, ◌≤◌, ◌<◌, ◌≡◌, List, Result, Ok, Err, length, eqb}
use Rattle.rules.specs.declared.Entry.{Entry}
use Rattle.rules.specs.declared.Refusal.{Refusal}
use Rattle.rules.specs.declared.Refusal.TheVariants.{OutOfRange, NoLegalPlacement, NoRoom}
use Rattle.rules.specs.Judged.{Judged}
use Rattle.rules.specs.Net.{Net}
use Rattle.rules.specs.Refusal.{judged_number}
use Rattle.rules.specs.Complete.{Completes, LeastAdded, NoneCompletes}
use Rattle.rules.specs.Judge.{unless, then_judge, judged}
use Rattle.standing.specs.Stands.{stood}
use Rattle.columns.specs.Columns.{room_in, Kept, Holds, count_of}

-- what is refused before anything is searched: the net, then its type where that is not 0, then the given entries' columns, then an entry that does not stand
unfoldable pub half_judged : Net → List ℕ → List ℕ → Judged
half_judged n ws os = then_judge (judged n) (then_judge (unless (eqb n.limits.repeater 0) (OutOfRange 0)) (stood n ws os))

-- of given entries g that stand on a sound net of buffers: 8 where no legal placement contains them all, 9 with the least number to add where there is no room for
-- it, else that many added entries in the lent columns. The room is for the added entries alone (RULES 8.5)
pub data Outcome (n : Net) (g : List Entry) (ws os ws' os' : List ℕ) (r : Result ℕ Refusal) : Type 0 where
  none : NoneCompletes n g → r ≡ Err NoLegalPlacement → Kept ws os ws' os' → Outcome n g ws os ws' os' r
  full : (k : ℕ) → LeastAdded n g k → room_in ws os < k → r ≡ Err (NoRoom k) → Kept ws os ws' os' → Outcome n g ws os ws' os' r
  finished : (a : List Entry) → Completes n g a → LeastAdded n g (length a) → length a ≤ room_in ws os → r ≡ Ok (length a) → Holds a ws os ws' os' → Outcome n g ws os ws' os' r

-- by what is judged of the net and the given entries
abbrev pub Answered : Judged → Net → List Entry → List ℕ → List ℕ → List ℕ → List ℕ → Result ℕ Refusal → Type 0
Answered (Ok _) n g ws os ws' os' r = Outcome n g ws os ws' os' r
Answered (Err x) n g ws os ws' os' r = (r ≡ Err x) × Kept ws os ws' os'

-- as a number: 0 is success (RULES 4.1)
abbrev pub finished_number : Result ℕ Refusal → ℕ
finished_number = judged_number

-- how many are added, or a refusal's place
abbrev pub finished_count : Result ℕ Refusal → ℕ
finished_count = count_of
