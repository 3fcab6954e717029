-- A judgement that is passed is answered, without a file.
use Rattle.std.specs.Prelude.{Ok, Err}
use Prim.Native.Nat.{ℕ}
use native.Mathlib.Omega.{arith}
use mathlib.Core.Path.{◌≡◌, refl}
use mathlib.Core.List.{List, []}
use Rattle.rules.specs.Judged.{Judged}
use Rattle.reply.specs.declared.Status.TheVariants.{Answered}
use Rattle.reply.specs.Said.{answered, or_refusal, Shows, Replies}
use Rattle.reply.proofs.Showing.{nothing}

pub answers : {j : Judged} {text after : List ℕ} {r : ℕ} → j ≡ Ok tt → Shows text after r
    → (file : List ℕ) → Replies (or_refusal j (answered text [])) after file (record { text = r; file = 0; status = Answered })
answers e s file = rw e (record { text = s; file = nothing file; status = refl })

-- status "0" is given to no refusal
pub answered_passed : (j : Judged) (text file : List ℕ) → (or_refusal j (answered text file)).status ≡ 48 → j ≡ Ok tt
answered_passed (Ok _) text file e = refl
answered_passed (Err r) text file e = absurd (omega arith)
