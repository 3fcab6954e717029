-- What `carry` says of the placement that two columns hold on a net n, taken to a net m that eases it: the first refusal (RULES 5.13; both
-- nets are sound), or the entries as they are cut (RULES 6.18), and their file.
use Rattle.std.specs.Prelude.{ℕ, ◌≤◌, ◌≡◌, List, [], ◌∷◌, length}
use Rattle.rules.specs.Figures.{most_entries}
use Rattle.rules.specs.Net.{Net}
use Rattle.rules.specs.Load.{entries}
use Rattle.rules.specs.Judge.{then_judge}
use Rattle.rules.specs.Checked.{checked}
use Rattle.rules.specs.Ease.{carried, ease_judged}
use Rattle.carry.specs.Carry.{offsets_of}
use Rattle.placement_file.specs.File.{columns_of, placement, placement_bytes}
use Rattle.answer.specs.Text.{counted_text}
use Rattle.reply.specs.Said.{Said, answered, or_refusal}

-- "carried "
abbrev pub carried_word : List ℕ
carried_word = 99 ∷ 97 ∷ 114 ∷ 114 ∷ 105 ∷ 101 ∷ 100 ∷ 32 ∷ []

-- `carried N`, and a line for each entry
abbrev pub carried_text : Net → List ℕ → List ℕ → List ℕ
carried_text m ws os = counted_text carried_word ws (offsets_of (carried m (entries ws os)))

abbrev pub carried_file : Net → List ℕ → List ℕ → List ℕ
carried_file m ws os = placement_bytes (carried m (entries ws os))

abbrev pub carry_said : Net → Net → List ℕ → List ℕ → Said
carry_said n m ws os = or_refusal (then_judge (ease_judged n m) (checked n ws os)) (answered (carried_text m ws os) (carried_file m ws os))

-- two columns that a placement file can hold
pub record Fit (ws os : List ℕ) : Type 0 where
  pub even : length os ≡ length ws
  pub few : length ws ≤ most_entries
  pub written : columns_of ws os ≡ placement (entries ws os)
