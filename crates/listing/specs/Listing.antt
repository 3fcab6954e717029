-- What the list of loads answers and leaves in the column (RULES 6.13): the loads in list order, their count and what the source drives,
-- or the first refusal in the order of RULES 5.12, the last of which is 9 with the number of entries.
use Rattle.std.specs.Prelude.{◌≡◌, ℕ, List, Result, Ok, Err, leb, length}
use Rattle.std.proofs.lemmas.List.Edits.{sets}
use Rattle.rules.specs.Judged.{Judged}
use Rattle.rules.specs.declared.Refusal.{Refusal}
use Rattle.rules.specs.declared.Refusal.TheVariants.{NoRoom}
use Rattle.rules.specs.Net.{Net}
use Rattle.rules.specs.Load.{entries, offsets_on, driven, source_drives}
use Rattle.rules.specs.Judge.{unless, then_judge}
use Rattle.standing.specs.Stands.{begun}
pub use Rattle.load.specs.declared.Weighed.{Weighed}
-- an answer by its judgement; its number is 0 for a list, or the refusal's; its count may be the refusal's place, and its source what stood there before
pub use Rattle.rules.specs.Refusal.{judged_number as listed_number}
pub use Rattle.load.specs.Weighed.{weighed_by as listed_of, weighed_count as listed_count, weighed_source as listed_source}

abbrev pub Listed : Type 0
Listed = Result Weighed Refusal

abbrev pub list_judged : Net → List ℕ → List ℕ → ℕ → Judged
list_judged n vs os room = then_judge (begun n vs os) (unless (leb (length vs) room) (NoRoom (length vs)))

-- what the lent column holds afterwards: a refusal leaves it as it came
abbrev pub column_after : Judged → List ℕ → List ℕ → List ℕ
column_after (Ok _) column loads = sets column 0 loads
column_after (Err r) column loads = column

-- the answer r and the column after, by the column before
pub record ListedIs (n : Net) (vs os before : List ℕ) (r : Listed) (after : List ℕ) : Type 0 where
  pub answer : r ≡ listed_of (list_judged n vs os (length before)) (length vs) (source_drives n (offsets_on (entries vs os)))
  pub column : after ≡ column_after (list_judged n vs os (length before)) before (driven n (offsets_on (entries vs os)))
