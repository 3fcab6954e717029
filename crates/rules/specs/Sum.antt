-- Sums: of a number for each wire of a tree, and of a number for each of some numbers in a row.
use Rattle.std.specs.Prelude.{ℕ, zero, suc, ◌+◌}
use Rattle.rules.specs.Tree.{Hanging, none, sink, branch}

unfoldable pub sum_over : (ℕ → ℕ) → Hanging → ℕ
sum_over g none = 0
sum_over g (sink i w pin polarity rest) = g i + sum_over g rest
sum_over g (branch i w below rest) = g i + (sum_over g below + sum_over g rest)

-- k numbers from i on
unfoldable pub sum_from : (ℕ → ℕ) → ℕ → ℕ → ℕ
sum_from g zero i = 0
sum_from g (suc k) i = g i + sum_from g k (suc i)
