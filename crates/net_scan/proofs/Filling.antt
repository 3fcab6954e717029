-- The nodes of a file, laid over columns one by one: what is left, laid over the columns as they are, is what they are to hold. One equation says it
-- of all five, since they are laid over together.
use Rattle.rules.specs.declared.Refusal.{Refusal}
use Rattle.std.specs.Prelude.{Ok, Result, Option, None}
use Prim.Native.Nat.{ℕ, suc, ◌+◌, ◌-◌, ◌<◌, ◌≤◌}
use native.Mathlib.Omega.{arith}
use native.Mathlib.Numerals.{add-one}
use mathlib.Core.Path.{◌≡◌, refl, sym, ap, ◌∙◌}
use mathlib.Core.List.{List, [], ◌∷◌}
use Rattle.rules.specs.declared.Node.{Node}
use Rattle.rules.specs.Net.{Net, unlimited}
use Rattle.net_file.specs.declared.Taken.{Taken}
use Rattle.net_file.specs.NetFile.{one_node, taken_at, follow, fields_from, nodes_of, columns_of, laid_over}

-- the nodes from a place on, laid over some columns from place i on
abbrev pub laid_from : Net → ℕ → ℕ → List ℕ → ℕ → Net
laid_from lent i k s at = laid_over lent i (columns_of unlimited (nodes_of (fields_from k s at)))

module _ (s : List ℕ) (places : ℕ) (lent : Net) where
  pub record Filling (now : Net) (at i : ℕ) : Type 0 where
    pub some : 1 ≤ i
    pub rest : laid_from lent 1 (places - 1) s 12 ≡ laid_from now i (places - i) s at

  pub fill_start : Filling lent 12 1
  fill_start = record { some = omega arith; rest = refl }

  module _ {now : Net} {at i : ℕ} (f : Filling now at i) where
    step : i < places → (t : Result (Option Taken) Refusal) → taken_at s at ≡ t → laid_from lent 1 (places - 1) s 12 ≡ laid_over now i (columns_of unlimited (nodes_of (follow at t (fields_from (places - suc i) s))))
    unfolding fields_from
    step h t e =
        let z : places - i ≡ suc (places - suc i) = omega arith in
        f.rest
        ∙ ap (λ (k : ℕ). laid_from now i k s at) z
        ∙ ap (λ (x : Result (Option Taken) Refusal). laid_over now i (columns_of unlimited (nodes_of (follow at x (fields_from (places - suc i) s))))) e

    pub fill_next : i < places → {d : Node} {next : ℕ} → taken_at s at ≡ one_node d next → {more : Net} → more ≡ laid_over now i (columns_of unlimited (d ∷ [])) → Filling more next (i + 1)
    unfolding nodes_of
    fill_next h {d} {next} e q = record {
      some = omega arith;
      rest = rw (add-one, q) (step h (one_node d next) e);
    }

    -- the end: all nodes are laid
    pub fill_last : i < places → taken_at s at ≡ Ok None → now ≡ laid_from lent 1 (places - 1) s 12
    unfolding nodes_of
    fill_last h e = sym (step h (Ok None) e)
