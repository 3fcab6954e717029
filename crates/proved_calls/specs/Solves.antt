-- What the solver says by numbers: 0 and the count, or a refusal's number and place.
use Rattle.std.specs.Prelude.{ℕ, ◌≡◌, List, Result}
use Rattle.rules.specs.declared.Refusal.{Refusal}
use Rattle.rules.specs.Net.{Net}
use Rattle.rules.specs.Judge.{judged}
use Rattle.solution.specs.Answer.{Answered, solved_number, solved_count}

pub record Solves (n : Net) (ws os ws' os' : List ℕ) (number place : ℕ) : Type 0 where
  pub said : Result ℕ Refusal
  pub by : Answered (judged n) n ws os ws' os' said
  pub told : number ≡ solved_number said
  pub left : place ≡ solved_count said
