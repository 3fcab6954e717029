-- The column of cut offsets, place by place: it is filled from the front, and what is not filled yet is as it came.
use Prim.Native.Nat.{ℕ, zero, suc, ◌≤◌, ◌<◌, min}
use mathlib.Core.Path.{◌≡◌, refl, sym, ap, ◌∙◌}
use mathlib.Core.List.{List, [], ◌∷◌}
use native.Mathlib.Omega.{arith}
use lib.ListN.{length, get_or}
use lib.Seq.{ext_get_or}
use Rattle.rules.specs.declared.Entry.{Entry}
use Rattle.rules.specs.Net.{Net, wire}
use Rattle.rules.specs.Load.{entries}
use Rattle.rules.specs.Ease.{carried}
use Rattle.carry.specs.Carry.{offsets_of}

module _ (m : Net) where
  abbrev pub cut_column : List ℕ → List ℕ → List ℕ
  cut_column vs os = offsets_of (carried m (entries vs os))

  pub cut_length : (vs os : List ℕ) → length os ≡ length vs → length (cut_column vs os) ≡ length os
  unfolding entries
  cut_length [] [] e = refl
  cut_length [] (o ∷ os) e = absurd (omega arith)
  cut_length (v ∷ vs) [] e = absurd (omega arith)
  cut_length (v ∷ vs) (o ∷ os) e = ap suc (cut_length vs os (omega arith))

  pub cut_at : (vs os : List ℕ) (k : ℕ) → length os ≡ length vs → k < length vs → get_or (cut_column vs os) k 0 ≡ min (get_or os k 0) (wire m (get_or vs k 0))
  unfolding entries
  cut_at [] os k e h = absurd (omega arith)
  cut_at (v ∷ vs) [] k e h = absurd (omega arith)
  cut_at (v ∷ vs) (o ∷ os) zero e h = refl
  cut_at (v ∷ vs) (o ∷ os) (suc k) e h = cut_at vs os k (omega arith) (omega arith)

  -- the cut column holds the carried entries
  pub cut_entries : (vs os : List ℕ) → length os ≡ length vs → entries vs (cut_column vs os) ≡ carried m (entries vs os)
  unfolding entries
  cut_entries [] os e = refl
  cut_entries (v ∷ vs) [] e = absurd (omega arith)
  cut_entries (v ∷ vs) (o ∷ os) e = ap (λ (l : List Entry). record { wire = v; offset = min o (wire m v) } ∷ l) (cut_entries vs os (omega arith))

-- the first k places are cut to the wires ws
pub record Cutting (ws vs before : List ℕ) (k : ℕ) (out : List ℕ) : Type 0 where
  pub long : length out ≡ length before
  pub done : (j : ℕ) → j < k → get_or out j 0 ≡ min (get_or before j 0) (get_or ws (get_or vs j 0) 0)
  pub others : (j : ℕ) → k ≤ j → get_or out j 0 ≡ get_or before j 0

module _ {ws vs before out : List ℕ} {k : ℕ} (c : Cutting ws vs before k out) where
  pub cutting_all : length before ≡ length vs → length vs ≤ k → (m : Net) → m.wires ≡ ws → out ≡ offsets_of (carried m (entries vs before))
  cutting_all e h m w = ext_get_or 0 out (cut_column m vs before) (c.long ∙ sym (cut_length m vs before e))
      (λ j l. c.done j (omega (arith, c.long)) ∙ rw (← w) (sym (cut_at m vs before j e (omega (arith, c.long)))))
