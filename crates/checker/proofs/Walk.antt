-- The walk of 11 over the loads, a step each, at driver k: what is left decides the answer.
use Rattle.std.specs.Prelude.{Ok, Err}
use Prim.Native.Nat.{ℕ, suc, ◌+◌, ◌≤◌, ◌<◌}
use mathlib.Core.Path.{◌≡◌, refl, sym, ap, ◌∙◌}
use mathlib.Core.Bool.{Bool, true, false}
use mathlib.Core.List.{List, [], ◌∷◌, ◌++◌}
use native.Mathlib.Omega.{arith}
use lib.Dec.{leb}
use lib.ListN.{length, get_or, drop, drop_of_length-le}
use lib.Seq.{drop-cons}
use borrow.Author.Tests.{le-leb, lt-leb}
use Rattle.rules.specs.declared.Refusal.TheVariants.{Overloaded}
use Rattle.rules.specs.Judge.{unless, then_judge}
use Rattle.rules.specs.Checked.{within_limit}
use Rattle.rules.proofs.Judging.{then_assoc}

module _ (limit : ℕ) (loads : List ℕ) (k : ℕ) where
  within_at : k < length loads → within_limit limit k (drop k loads) ≡ then_judge (unless (leb (get_or loads k 0) limit) (Overloaded k)) (within_limit limit (suc k) (drop (suc k) loads))
  unfolding within_limit
  within_at h = rw (drop-cons loads k 0 h)

  pub within_next : k < length loads → get_or loads k 0 ≤ limit → within_limit limit k (drop k loads) ≡ within_limit limit (suc k) (drop (suc k) loads)
  within_next h l = within_at h ∙ rw (le-leb (get_or loads k 0) limit l)

  pub within_stop : k < length loads → limit < get_or loads k 0 → within_limit limit k (drop k loads) ≡ Err (Overloaded k)
  within_stop h l = within_at h ∙ rw (lt-leb (get_or loads k 0) limit l)

  pub within_end : length loads ≤ k → within_limit limit k (drop k loads) ≡ Ok tt
  unfolding within_limit
  within_end h = rw (drop_of_length-le loads h)

-- the entries' loads, then the source's
pub within_both : (limit k : ℕ) (loads : List ℕ) (last : ℕ)
    → within_limit limit k (loads ++ (last ∷ [])) ≡ then_judge (within_limit limit k loads) (unless (leb last limit) (Overloaded (k + length loads)))
unfolding within_limit
within_both limit k [] last = let e : k + 0 ≡ k = omega arith in rw e (go (leb last limit))
  where
    go : (z : Bool) → then_judge (unless z (Overloaded k)) (Ok tt) ≡ unless z (Overloaded k)
    go true = refl
    go false = refl
within_both limit k (load ∷ loads) last =
    let e : suc k + length loads ≡ k + suc (length loads) = omega arith in
    ap (then_judge (unless (leb load limit) (Overloaded k))) (within_both limit (suc k) loads last ∙ rw e)
    ∙ sym (then_assoc (unless (leb load limit) (Overloaded k)) (within_limit limit (suc k) loads) (unless (leb last limit) (Overloaded (k + suc (length loads)))))
