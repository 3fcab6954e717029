-- What the carry says by numbers: 0 and the number of entries, or a refusal's number and place, and which net was refused: 1, 2, or 0 for neither.
use Rattle.std.specs.Prelude.{ℕ, ◌+◌, ◌*◌, ◌≡◌, List, Result, get_or}
use Rattle.rules.specs.declared.Limits.{Limits}
use Rattle.rules.specs.Net.{Net}
use Rattle.carry.specs.declared.NotCarried.{NotCarried}
use Rattle.carry.specs.Carry.{CarriedIs, outcome_number, outcome_count, which_net}

-- the limits of the net k out of those of two nets
abbrev pub limits_at : List ℕ → List ℕ → ℕ → Limits
limits_at limits repeaters k = record { limit = get_or limits (k * 2) 0; pin = get_or limits (k * 2 + 1) 0; repeater = get_or repeaters k 0 }

pub record Carries (n m : Net) (vs before after : List ℕ) (which number place : ℕ) : Type 0 where
  pub said : Result ℕ NotCarried
  pub by : CarriedIs n m vs before said after
  pub named : which ≡ which_net said
  pub told : number ≡ outcome_number said
  pub left : place ≡ outcome_count said
