-- What the checker answers (RULES 6.12): the number of entries and what the source drives, or the first refusal in the order of RULES 5.11.
use Rattle.std.specs.Prelude.{◌≡◌, true, ℕ, List, Result, Ok, leb, length}
use Rattle.rules.specs.declared.Refusal.{Refusal}
use Rattle.rules.specs.declared.Refusal.TheVariants.{Overloaded}
use Rattle.rules.specs.Net.{Net}
use Rattle.rules.specs.Load.{entries, offsets_on, source_drives, drivers}
use Rattle.rules.specs.Legal.{Legal}
use Rattle.rules.specs.Judge.{unless, then_judge, judged}
use Rattle.rules.specs.Checked.{placement_fits, within_limit, one_sense, checked}
pub use Rattle.load.specs.declared.Weighed.{Weighed}
-- a verdict by its judgement; its number is 0 for a legal placement, or the refusal's; its count may be the refusal's place, and its source what stood there before
pub use Rattle.rules.specs.Refusal.{judged_number as verdict_number}
pub use Rattle.load.specs.Weighed.{weighed_by as verdict_of, weighed_count as verdict_count, weighed_source as verdict_source}

abbrev pub Verdict : Type 0
Verdict = Result Weighed Refusal

-- 11 for the source, and then 12
abbrev pub settled : Net → List ℕ → List ℕ → Verdict
settled n vs os =
    verdict_of
    (then_judge (unless (leb (source_drives n (offsets_on (entries vs os))) n.limits.limit) (Overloaded (length vs))) (one_sense n (offsets_on (entries vs os))))
    (length vs)
    (source_drives n (offsets_on (entries vs os)))

-- 11 and then 12, for a placement that stands on a sound net
abbrev pub weighed : Net → List ℕ → List ℕ → Verdict
weighed n vs os =
    verdict_of
    (then_judge (within_limit n.limits.limit 0 (drivers n (entries vs os))) (one_sense n (offsets_on (entries vs os))))
    (length vs)
    (source_drives n (offsets_on (entries vs os)))

-- what the checker answers
abbrev pub verdict : Net → List ℕ → List ℕ → Verdict
verdict n vs os = verdict_of (checked n vs os) (length vs) (source_drives n (offsets_on (entries vs os)))

-- a sound net, and columns that fit and hold a legal placement of it
pub record LegalColumns (n : Net) (vs os : List ℕ) : Type 0 where
  pub sound : judged n ≡ Ok tt
  pub fit : placement_fits vs os ≡ true
  pub legal : Legal n (entries vs os)
