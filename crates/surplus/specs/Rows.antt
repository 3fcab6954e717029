-- Rows of loads: what the wires under a point are worth for each surplus over the sum of their least counts.
use Rattle.std.specs.Prelude.{ℕ, zero, suc, ◌+◌, ◌*◌, ◌≤◌, ◌<◌, min, ◌≡◌, List, length, get_or}
use Rattle.rules.specs.Tree.{Hanging, none, sink, branch}
use Rattle.frontier.specs.Cell.{Cell}
use Rattle.frontier.specs.Frontier.{Acc, fail, all, acc, width}

-- the load for a surplus of e in the row at `at`: it no longer falls past `last`
abbrev pub load_at : List ℕ → ℕ → ℕ → ℕ → ℕ
load_at t at last e = get_or t (at + min e last) 0

-- loads g with one wire more, which hands up a, b or c for 0, 1 or 2 of the surplus
abbrev pub mixed : (ℕ → ℕ) → ℕ → ℕ → ℕ → ℕ → ℕ
mixed g a b c zero = a + g 0
mixed g a b c (suc zero) = min (a + g 1) (b + g 0)
mixed g a b c (suc (suc e)) = min (a + g (suc (suc e))) (min (b + g (suc e)) (c + g e))

-- the row at `to` is that at `from` with one wire more, and all else is as it was
pub record Mixed (t u : List ℕ) (from last to a b c : ℕ) : Type 0 where
  pub long : length u ≡ length t
  pub before : (j : ℕ) → j < to → get_or u j 0 ≡ get_or t j 0
  pub after : (j : ℕ) → to + (last + 3) ≤ j → get_or u j 0 ≡ get_or t j 0
  pub row : (e : ℕ) → e < last + 3 → get_or u (to + e) 0 ≡ mixed (load_at t from last) a b c e

-- e is the first surplus up to `last` whose load fits, or past it
pub record FirstFit (t : List ℕ) (at last limit e : ℕ) : Type 0 where
  pub few : e ≤ suc last
  pub over : (k : ℕ) → k < e → limit < load_at t at last k
  pub fits : e ≤ last → load_at t at last e ≤ limit

-- the numbers are small
abbrev pub SmallAcc : Acc → Type 0
SmallAcc fail = Unit {0}
SmallAcc (all m g) = (m ≤ 100000000000) × ((e : ℕ) → g e ≤ 2000000000)

-- the loads h are those of z
abbrev pub RowIs : (ℕ → ℕ) → Acc → Type 0
RowIs h fail = ⊥
RowIs h (all m g) = (e : ℕ) → h e ≡ g e

-- the row of k wires stands at the square of k and is 2 * k + 1 long: the wires and each tail of them have their rows in t
abbrev pub Spread : Cell → List ℕ → ℕ → Hanging → Type 0
Spread τ t p none = RowIs (load_at t 0 0) (acc τ none p)
Spread τ t p (sink i w c s r) = RowIs (load_at t (suc (width r) * suc (width r)) (2 * suc (width r))) (acc τ (sink i w c s r) p) × Spread τ t p r
Spread τ t p (branch i w f r) = RowIs (load_at t (suc (width r) * suc (width r)) (2 * suc (width r))) (acc τ (branch i w f r) p) × Spread τ t p r
