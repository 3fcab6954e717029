-- What a judge says: nothing is wrong, or the first refusal.
use Rattle.std.specs.Prelude.{Result}
use Rattle.rules.specs.declared.Refusal.{Refusal}

abbrev pub Judged : Type 0
Judged = Result (Unit {0}) Refusal
