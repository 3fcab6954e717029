-- Cleared tables are those of the way up before it begins.
use Prim.Native.Nat.{ℕ, zero, suc, ◌≤◌}
use mathlib.Core.Path.{◌≡◌, refl, sym, subst, ap, ◌∙◌}
use lib.ListN.{length, get_or, replicate, get_or-replicate, length-replicate}
use native.Mathlib.Omega.{arith}
use Rattle.rules.specs.Figures.{most_places}
use Rattle.rules.specs.Net.{Net, places}
use Rattle.rules.specs.Legal.{Each}
use Rattle.frontier.specs.Cell.{Cell}
use Rattle.buffers.specs.Chain.{sum_l, Chain}
use Rattle.buffers.specs.Going.{tables, Going}
use Rattle.buffers.proofs.Kids.{kids_end}

pub none_in : {A : Type 0} (x : A) (N i : ℕ) → get_or (replicate N x) i x ≡ x
none_in x zero i = refl
none_in x (suc N) zero = refl
none_in x (suc N) (suc i) = none_in x N i

-- a link of N leads nowhere
pub going_none : (N : ℕ) (τ : Cell) (n : Net) (L : ℕ → ℕ) → places n ≤ N → N ≤ most_places → Going τ n L (tables (replicate N 0) (replicate N 0) (replicate N 0) (replicate N N)) (places n) (places n)
going_none N τ n L h few = record {
  long = record {
    enough = omega (arith, length-replicate {A = ℕ} N 0);
    few = omega (arith, length-replicate {A = ℕ} N 0);
    below = refl;
    on = refl;
    links = omega (arith, length-replicate {A = ℕ} N 0, length-replicate {A = ℕ} N N);
  };
  chains = λ v l. subst (Chain (length (replicate N 0)) (replicate N N) (get_or (replicate N N) v 0)) (sym (kids_end n v)) (omega (arith, get_or-replicate {A = ℕ} N v N 0 (omega arith), length-replicate {A = ℕ} N 0));
  sums = λ v l. ap (sum_l (λ j. get_or (replicate N 0) j 0)) (kids_end n v) ∙ sym (none_in 0 N v);
  clear = λ j l. none_in 0 N j;
  fresh = λ v l. subst (Each (λ j. get_or (replicate N 0) j 0 ≡ 0)) (sym (kids_end n v)) tt;
  tops = λ j l g. absurd (omega arith);
  marked = record { fits = λ i l g. absurd (omega arith); sinks = λ i l g. absurd (omega arith); nodes = λ i l g. absurd (omega arith) };
}
