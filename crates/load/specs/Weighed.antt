-- What is answered of a placement that is weighed, by the judgement of it: how many entries it has and what the source drives, or the refusal.
use Rattle.std.specs.Prelude.{ℕ, Result, Ok, Err}
use Rattle.rules.specs.declared.Refusal.{Refusal}
use Rattle.rules.specs.Judged.{Judged}
use Rattle.rules.specs.Refusal.{place_of}
use Rattle.load.specs.declared.Weighed.{Weighed}

abbrev pub weighed_by : Judged → ℕ → ℕ → Result Weighed Refusal
weighed_by (Ok _) count source = Ok (record { count = count; source = source })
weighed_by (Err r) count source = Err r

-- the count, or the refusal's place
abbrev pub weighed_count : Result Weighed Refusal → ℕ
weighed_count (Ok w) = w.count
weighed_count (Err r) = place_of r

-- the source's load, or what stood there before
abbrev pub weighed_source : Result Weighed Refusal → ℕ → ℕ
weighed_source (Ok w) before = w.source
weighed_source (Err r) before = before
