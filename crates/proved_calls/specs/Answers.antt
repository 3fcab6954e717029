-- The limits from their numbers, and what the judge says by numbers: some answer that its contract allows, its number and its place.
use Rattle.std.specs.Prelude.{ℕ, ◌≡◌, Result, Ok, Err}
use Rattle.rules.specs.declared.Limits.{Limits}
use Rattle.rules.specs.declared.Refusal.{Refusal}
use Rattle.rules.specs.Judged.{Judged}
use Rattle.rules.specs.Net.{Net}
use Rattle.rules.specs.Refusal.{place_of, judged_number, judged_place}
use Rattle.rules.specs.Judge.{judged}

abbrev pub limits_of : ℕ → ℕ → ℕ → Limits
limits_of limit pin repeater = record { limit = limit; pin = pin; repeater = repeater }

-- what a call leaves in `place` whose success is a count
abbrev pub count_or_place : Result ℕ Refusal → ℕ
count_or_place (Ok count) = count
count_or_place (Err r) = place_of r

pub record Judges (n : Net) (number place : ℕ) : Type 0 where
  pub said : Judged
  pub by : said ≡ judged n
  pub told : number ≡ judged_number said
  pub left : place ≡ judged_place said
