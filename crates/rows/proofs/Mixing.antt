-- A row with one wire more, made from the first load to the last past the row that is read, which stays as it was.
use Prim.Native.Nat.{ℕ, ◌+◌, ◌≤◌, ◌<◌, min}
use mathlib.Core.Path.{◌≡◌, ap, ◌∙◌}
use mathlib.Core.List.{List}
use native.Mathlib.Omega.{arith}
use native.Mathlib.Decide.{ℕ_discrete}
use lib.ListN.{length, get_or, set, length-set}
use lib.Seq.{get_or-set_same, get_or-set_other}
use Rattle.surplus.specs.Rows.{load_at, mixed}

-- the first e places are made
pub record Mixing (t₀ t : List ℕ) (from last to a b c e : ℕ) : Type 0 where
  pub few : e ≤ last + 3
  pub apart : from + last < to
  pub room : to + (last + 3) ≤ length t
  pub long : length t ≡ length t₀
  pub before : (j : ℕ) → j < to → get_or t j 0 ≡ get_or t₀ j 0
  pub after : (j : ℕ) → to + e ≤ j → get_or t j 0 ≡ get_or t₀ j 0
  pub row : (k : ℕ) → k < e → get_or t (to + k) 0 ≡ mixed (load_at t₀ from last) a b c k

module _ {t₀ t : List ℕ} {from last to a b c e : ℕ} (m : Mixing t₀ t from last to a b c e) where
  -- what is read
  reads : (k : ℕ) → load_at t from last k ≡ load_at t₀ from last k
  reads k = m.before (from + min k last) (omega (arith, m.apart))

  pub mixing_more : (x : ℕ) → x ≡ mixed (load_at t from last) a b c e → e < last + 3 → Mixing t₀ (set t (to + e) x) from last to a b c (e + 1)
  mixing_more x q lt = record {
    few = omega arith;
    apart = m.apart;
    room = simp length-set m.room;
    long = simp length-set m.long;
    before = λ j h. get_or-set_other t (to + e) j x 0 (λ s. omega arith) ∙ m.before j h;
    after = λ j h. get_or-set_other t (to + e) j x 0 (λ s. omega arith) ∙ m.after j (omega arith);
    row = λ k h. elim (ℕ_discrete k e) [
      | yes s ↦ rw s (get_or-set_same t (to + e) x 0 (omega (arith, m.room)) ∙ q ∙ ap (λ (g : ℕ → ℕ). mixed g a b c e) (λ ι k. reads k ι))
      | no ne ↦ get_or-set_other t (to + e) (to + k) x 0 (λ s. ne (omega arith)) ∙ m.row k (omega arith)
    ];
  }
