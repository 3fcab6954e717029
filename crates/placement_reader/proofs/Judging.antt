-- What the judgement of a whole file says of its body, and that of a body of each entry.
use Rattle.std.specs.Prelude.{ℕ, ◌≡◌, ◌<◌, List, Ok, Result}
use Rattle.std.proofs.Common.{arith, ap, ◌∙◌}
use Rattle.rules.specs.Judge.{judge_each}
use Rattle.rules.specs.Judged.{Judged}
use Rattle.rules.specs.declared.Entry.{Entry}
use Rattle.rules.specs.declared.Refusal.{Refusal}
use Rattle.rules.proofs.Tests.{then_met}
use Rattle.rules.proofs.Each.{each_met}
use Rattle.field.proofs.Listing.{length_listed}
use Rattle.placement_file.proofs.Judging.{sound_few}
use Rattle.placement_file.specs.File.{allowed, owed, start_of, count_judged, entry_at, entry_judged, end_judged, body_judged, file_judged}

pub sound_body : (s : List ℕ) → file_judged s ≡ Ok tt → body_judged s (owed s) ≡ Ok tt
unfolding file_judged
sound_body s e = (then_met (count_judged s) (body_judged s (owed s)) e).1

pub entry_there : (s : List ℕ) {n i : ℕ} {r : Result Entry Refusal} → body_judged s n ≡ Ok tt → i < n → r ≡ allowed (entry_judged s i) (entry_at s i) → r ≡ Ok (entry_at s i)
unfolding body_judged
entry_there s {n} {i} sound h e =
    let (each, _) = then_met (judge_each (entry_judged s) n 0) (end_judged s (start_of n)) sound in
    e ∙ ap (λ (j : Judged). allowed j (entry_at s i)) (each_met (entry_judged s) n 0 each i (omega arith) (omega arith))

-- for the whole reader
pub ruleset reading = (length_listed, sound_few, sound_body)
