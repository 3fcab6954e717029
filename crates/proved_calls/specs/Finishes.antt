-- What the call that finishes a net says by numbers: 0 and how many entries it added, or a refusal's number and place.
use Rattle.std.specs.Prelude.{ℕ, ◌≡◌, List, Result}
use Rattle.rules.specs.declared.Refusal.{Refusal}
use Rattle.rules.specs.Net.{Net}
use Rattle.rules.specs.Load.{entries}
use Rattle.finish.specs.Answer.{half_judged, Answered, finished_number, finished_count}

pub record Finishes (n : Net) (gw go ws os ws' os' : List ℕ) (number place : ℕ) : Type 0 where
  pub said : Result ℕ Refusal
  pub by : Answered (half_judged n gw go) n (entries gw go) ws os ws' os' said
  pub told : number ≡ finished_number said
  pub left : place ≡ finished_count said
