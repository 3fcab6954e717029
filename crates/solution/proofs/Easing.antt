-- Easing never hurts (RULES 6.20), over the solver's own answers: two sound nets of which the second eases the first, and for the second at least as much room. What was
-- placed is placed again and the count does not grow; where the second net gets 8 the first got it; and where the first gets 9 the second needs no more.
use Rattle.std.specs.Prelude.{Ok, Result}
use Rattle.rules.specs.declared.Refusal.{Refusal}
use Prim.Native.Nat.{ℕ, ◌≤◌}
use mathlib.Core.Path.{◌≡◌}
use mathlib.Core.Logic.{◌⊎◌, inl, inr}
use mathlib.Core.List.{List}
use native.Mathlib.Nat.{le_trans}
use native.Mathlib.Omega.{arith}
use Rattle.rules.specs.Net.{Net}
use Rattle.rules.specs.Judge.{judged}
use Rattle.rules.specs.Legal.{Least}
use Rattle.rules.specs.Ease.{Eases}
use Rattle.rules.proofs.EaseKeepsLegal.{ease_least, ease_none}
use Rattle.rules.proofs.Judging.{sound_refused}
use Rattle.columns.specs.Columns.{room_in}
use Rattle.solution.specs.Answer.{solved_number, solved_count}
use Rattle.solution.proofs.Numbers.{Conforms, SolveRow, of_net, none, full, placed, row, eight, counted, fits}

module _ {n m : Net} (ease : Eases n m) {ws os ws' os' vs us vs' us' : List ℕ} {r r' : Result ℕ Refusal} (a : Conforms n ws os ws' os' r) (b : Conforms m vs us vs' us' r') where
  pub eased_eight : judged n ≡ Ok tt → solved_number r' ≡ 8 → solved_number r ≡ 8
  eased_eight s e = (eight a).1 (s, ease_none ease ((eight b).0 e).1)

  -- where the first net has a least count the second needs no more, and where there is room for that it is placed
  module _ (sound : judged m ≡ Ok tt) (first : (solved_number r ≡ 0) ⊎ (solved_number r ≡ 9)) where
    pub eased_count : ((solved_number r' ≡ 0) ⊎ (solved_number r' ≡ 9)) × (solved_count r' ≤ solved_count r)
    eased_count = go (counted a first) (row b)
      where
        go : Least n (solved_count r) → SolveRow m (room_in vs us) (solved_number r') (solved_count r') → ((solved_number r' ≡ 0) ⊎ (solved_number r' ≡ 9)) × (solved_count r' ≤ solved_count r)
        go l (of_net x f k p) = sound_refused sound f
        go l (none s h k p) = absurd (ease_none ease h l.placement l.legal)
        go l (full s g o k) = (inr k, ease_least ease (solved_count r) (solved_count r') l g)
        go l (placed s g o k) = (inl k, ease_least ease (solved_count r) (solved_count r') l g)

    pub eased_placed : solved_count r ≤ room_in vs us → solved_number r' ≡ 0
    eased_placed room = go (row b)
      where
        go : SolveRow m (room_in vs us) (solved_number r') (solved_count r') → solved_number r' ≡ 0
        go (of_net x f k p) = sound_refused sound f
        go (none s h k p) = absurd (let l = counted a first in ease_none ease h l.placement l.legal)
        go (full s g o k) = absurd (omega (arith, eased_count.1))
        go (placed s g o k) = k

  -- with 0 for the first net, and as much room for the second
  pub eased_nought : judged m ≡ Ok tt → room_in ws os ≤ room_in vs us → solved_number r ≡ 0 → (solved_number r' ≡ 0) × (solved_count r' ≤ solved_count r)
  eased_nought sound room e = (eased_placed sound (inl e) (le_trans (fits a e) room), (eased_count sound (inl e)).1)
