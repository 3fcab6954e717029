-- The judge's contract determines its answer: two answers that conform are equal, and so are their number and place.
use mathlib.Core.Path.{◌≡◌, sym, ◌∙◌}
use Rattle.rules.specs.Judged.{Judged}
use Rattle.rules.specs.Net.{Net}
use Rattle.rules.specs.Judge.{judged}

pub judge_determined : (n : Net) (a b : Judged) → a ≡ judged n → b ≡ judged n → a ≡ b
judge_determined n a b p q = p ∙ sym q
