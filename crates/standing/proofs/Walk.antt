-- The walk of 10 over the entries, a step each: what is left decides the answer.
use Rattle.std.specs.Prelude.{Ok, Err}
use Prim.Native.Nat.{ℕ, zero, suc, ◌≤◌, ◌<◌}
use mathlib.Core.Path.{◌≡◌, refl, sym, ap, ◌∙◌}
use mathlib.Core.Bool.{Bool, true, false}
use mathlib.Core.List.{List, [], ◌∷◌}
use native.Mathlib.Omega.{arith}
use lib.ListN.{length, get_or, drop, drop_of_length-le}
use borrow.Author.Tests.{le-leb, eq-eqb}
use Rattle.rules.specs.declared.Entry.{Entry}
use Rattle.rules.specs.declared.Refusal.TheVariants.{Misplaced}
use Rattle.rules.specs.Figures.{most_entries}
use Rattle.rules.specs.Choose.{both}
use Rattle.rules.specs.Net.{Net}
use Rattle.rules.specs.Load.{entries}
use Rattle.rules.specs.Legal.{start}
use Rattle.rules.specs.Judge.{unless, then_judge}
use Rattle.rules.specs.Checked.{on_its_wire, not_lower, placed_from}
use Rattle.load.proofs.Order.{at}
use Rattle.standing.specs.Stands.{stood}

pub entries_length : (vs os : List ℕ) → length os ≡ length vs → length (entries vs os) ≡ length vs
unfolding entries
entries_length [] os e = refl
entries_length (v ∷ vs) [] e = absurd (omega arith)
entries_length (v ∷ vs) (o ∷ os) e = ap suc (entries_length vs os (omega arith))

entries_on : (vs os : List ℕ) (k : ℕ) → length os ≡ length vs → k < length vs → drop k (entries vs os) ≡ at (get_or vs k 0) (get_or os k 0) ∷ drop (suc k) (entries vs os)
unfolding entries
entries_on [] os k e h = absurd (omega arith)
entries_on (v ∷ vs) [] k e h = absurd (omega arith)
entries_on (v ∷ vs) (o ∷ os) zero e h = refl
entries_on (v ∷ vs) (o ∷ os) (suc k) e h = entries_on vs os k (omega arith) (omega arith)

module _ (n : Net) (d : Entry) (vs os : List ℕ) (k : ℕ) (e : length os ≡ length vs) where
  placed_at : k < length vs → placed_from n d k (drop k (entries vs os))
      ≡ then_judge (unless (both (on_its_wire n (at (get_or vs k 0) (get_or os k 0))) (not_lower d (at (get_or vs k 0) (get_or os k 0)))) (Misplaced k)) (placed_from n (at (get_or vs k 0) (get_or os k 0)) (suc k) (drop (suc k) (entries vs os)))
  unfolding placed_from
  placed_at h = rw (entries_on vs os k e h)

  pub placed_next : (z : Bool) → k < length vs → z ≡ both (on_its_wire n (at (get_or vs k 0) (get_or os k 0))) (not_lower d (at (get_or vs k 0) (get_or os k 0))) → z ≡ true
      → placed_from n d k (drop k (entries vs os)) ≡ placed_from n (at (get_or vs k 0) (get_or os k 0)) (suc k) (drop (suc k) (entries vs os))
  placed_next z h q t = placed_at h ∙ rw (sym q ∙ t)

  pub placed_stop : (z : Bool) → k < length vs → z ≡ both (on_its_wire n (at (get_or vs k 0) (get_or os k 0))) (not_lower d (at (get_or vs k 0) (get_or os k 0))) → z ≡ false
      → placed_from n d k (drop k (entries vs os)) ≡ Err (Misplaced k)
  placed_stop z h q t = placed_at h ∙ rw (sym q ∙ t)

  pub placed_end : length vs ≤ k → placed_from n d k (drop k (entries vs os)) ≡ Ok tt
  unfolding placed_from
  placed_end h = let l : length (entries vs os) ≤ k = omega (arith, entries_length vs os e) in rw (drop_of_length-le (entries vs os) l)

-- 7, and then 10
module _ (n : Net) (vs os : List ℕ) where
  pub stood_fits : length os ≡ length vs → length vs ≤ most_entries → stood n vs os ≡ placed_from n start 0 (entries vs os)
  stood_fits e l = rw (eq-eqb (length os) (length vs) e, le-leb (length vs) most_entries l)
