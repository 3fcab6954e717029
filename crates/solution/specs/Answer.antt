-- What the solver answers, over the definitions of crate `rules` alone (RULES 5.10, 6.10, 6.11): the net's own refusals, then 8, then 9, then a placement.
use Rattle.std.specs.Prelude.{ℕ, ◌≤◌, ◌<◌, ◌≡◌, List, Result, Ok, Err, length}
use Rattle.rules.specs.declared.Entry.{Entry}
use Rattle.rules.specs.declared.Refusal.{Refusal}
use Rattle.rules.specs.declared.Refusal.TheVariants.{NoLegalPlacement, NoRoom}
use Rattle.rules.specs.Judged.{Judged}
use Rattle.rules.specs.Net.{Net}
use Rattle.rules.specs.Refusal.{judged_number}
use Rattle.rules.specs.Legal.{Legal, Least, NoneLegal}
use Rattle.columns.specs.Columns.{room_in, Kept, Holds, count_of}

-- of a net that is sound: 8 where no placement is legal, 9 with the least count where there is no room for it, else a legal placement with the least count
pub data Outcome (n : Net) (ws os ws' os' : List ℕ) (r : Result ℕ Refusal) : Type 0 where
  none : NoneLegal n → r ≡ Err NoLegalPlacement → Kept ws os ws' os' → Outcome n ws os ws' os' r
  full : (k : ℕ) → Least n k → room_in ws os < k → r ≡ Err (NoRoom k) → Kept ws os ws' os' → Outcome n ws os ws' os' r
  placed : (p : List Entry) → Legal n p → Least n (length p) → length p ≤ room_in ws os → r ≡ Ok (length p) → Holds p ws os ws' os' → Outcome n ws os ws' os' r

-- by what the judge says of the net
abbrev pub Answered : Judged → Net → List ℕ → List ℕ → List ℕ → List ℕ → Result ℕ Refusal → Type 0
Answered (Ok _) n ws os ws' os' r = Outcome n ws os ws' os' r
Answered (Err x) n ws os ws' os' r = (r ≡ Err x) × Kept ws os ws' os'

-- as a number: 0 is success (RULES 4.1)
abbrev pub solved_number : Result ℕ Refusal → ℕ
solved_number = judged_number

-- the count, or a refusal's place
abbrev pub solved_count : Result ℕ Refusal → ℕ
solved_count = count_of
