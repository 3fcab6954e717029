-- What the checker and the list of loads say by numbers: 0 and the count, or a refusal's number and place; the source's load, or what stood there.
use Rattle.std.specs.Prelude.{ℕ, ◌≡◌, List, Result}
use Rattle.rules.specs.declared.Refusal.{Refusal}
use Rattle.rules.specs.Net.{Net}
use Rattle.load.specs.declared.Weighed.{Weighed}
use Rattle.checker.specs.Verdict.{verdict_number, verdict_count, verdict_source, verdict}
use Rattle.listing.specs.Listing.{listed_number, listed_count, listed_source, ListedIs}

pub record Checks (n : Net) (vs os : List ℕ) (before after : ℕ) (number place : ℕ) : Type 0 where
  pub said : Result Weighed Refusal
  pub by : said ≡ verdict n vs os
  pub source : after ≡ verdict_source said before
  pub told : number ≡ verdict_number said
  pub left : place ≡ verdict_count said

pub record Lists (n : Net) (vs os out filled : List ℕ) (before after : ℕ) (number place : ℕ) : Type 0 where
  pub said : Result Weighed Refusal
  pub by : ListedIs n vs os out said filled
  pub source : after ≡ listed_source said before
  pub told : number ≡ listed_number said
  pub left : place ≡ listed_count said
