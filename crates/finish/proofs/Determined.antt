-- Two answers that conform agree in number, place and count, and in everything of the columns but the first places, up to the count: the least number to add is one
-- number, and where there is one some entries complete the given ones.
use Rattle.std.specs.Prelude.{Ok, Err, Result}
use Rattle.rules.specs.declared.Refusal.{Refusal}
use Prim.Native.Nat.{ℕ, ◌≤◌}
use mathlib.Core.Path.{◌≡◌, sym, ap, ◌∙◌}
use mathlib.Core.List.{List}
use native.Mathlib.Omega.{arith}
use lib.ListN.{length}
use Rattle.rules.specs.declared.Entry.{Entry}
use Rattle.rules.specs.declared.Refusal.TheVariants.{NoRoom}
use Rattle.rules.specs.Judged.{Judged}
use Rattle.rules.specs.Net.{Net}
use Rattle.rules.specs.Load.{entries}
use Rattle.rules.proofs.Completing.{one_least_added}
use Rattle.columns.specs.Columns.{room_in, written}
use Rattle.columns.proofs.Alike.{Alike, alike_kept, alike_holds}
use Rattle.finish.specs.Answer.{half_judged, Outcome, none, full, finished, Answered}

module _ {n : Net} {g : List Entry} {ws os ws₁ os₁ ws₂ os₂ : List ℕ} {r r' : Result ℕ Refusal} where
  both : Outcome n g ws os ws₁ os₁ r → Outcome n g ws os ws₂ os₂ r' → Alike r r' (written r) ws₁ os₁ ws₂ os₂
  both (none h e k) (none h' e' k') = alike_kept (written r) (e ∙ sym e') k k'
  both (none h e k) (full m l o e' k') = absurd (h l.entries l.completes)
  both (none h e k) (finished a c l o e' k') = absurd (h a c)
  both (full m l o e k) (none h e' k') = absurd (h l.entries l.completes)
  both (full m l o e k) (full m' l' o' e' k') = alike_kept (written r) (e ∙ ap (λ (x : ℕ). Err (NoRoom x)) (one_least_added l l') ∙ sym e') k k'
  both (full m l o e k) (finished a c l' o' e' k') = absurd (omega (arith, one_least_added l l'))
  both (finished a c l o e k) (none h e' k') = absurd (h a c)
  both (finished a c l o e k) (full m l' o' e' k') = absurd (omega (arith, one_least_added l l'))
  both (finished a c l o e k) (finished a' c' l' o' e' k') =
      let q : length a ≡ length a' = one_least_added l l' in
      alike_holds (written r) (e ∙ ap Ok q ∙ sym e') (sym (ap written e)) (sym q ∙ sym (ap written e)) k k'

pub determined : (n : Net) (gw go ws os ws₁ os₁ ws₂ os₂ : List ℕ) (r r' : Result ℕ Refusal) → Answered (half_judged n gw go) n (entries gw go) ws os ws₁ os₁ r → Answered (half_judged n gw go) n (entries gw go) ws os ws₂ os₂ r' → Alike r r' (written r) ws₁ os₁ ws₂ os₂
determined n gw go ws os ws₁ os₁ ws₂ os₂ r r' = by (half_judged n gw go)
  where
    by : (j : Judged) → Answered j n (entries gw go) ws os ws₁ os₁ r → Answered j n (entries gw go) ws os ws₂ os₂ r' → Alike r r' (written r) ws₁ os₁ ws₂ os₂
    by (Ok _) a b = both a b
    by (Err x) a b = alike_kept (written r) (a.0 ∙ sym b.0) a.1 b.1

-- what is answered as added is no more than the room
pub added_fits : (n : Net) (gw go ws os ws₁ os₁ : List ℕ) {r : Result ℕ Refusal} → Answered (half_judged n gw go) n (entries gw go) ws os ws₁ os₁ r → (m : ℕ) → r ≡ Ok m → m ≤ room_in ws os
added_fits n gw go ws os ws₁ os₁ {r} = by (half_judged n gw go)
  where
    by : (j : Judged) → Answered j n (entries gw go) ws os ws₁ os₁ r → (m : ℕ) → r ≡ Ok m → m ≤ room_in ws os
    by (Ok _) (none h e k) m q = absurd (let z : ◌≡◌ {A = ℕ} 0 1 = cc in omega arith)
    by (Ok _) (full j l o e k) m q = absurd (let z : ◌≡◌ {A = ℕ} 0 1 = cc in omega arith)
    by (Ok _) (finished a c l o e k) m q = let z : length a ≡ m = cc in omega arith
    by (Err x) a m q = let e = a.0 in absurd (let z : ◌≡◌ {A = ℕ} 0 1 = cc in omega arith)
