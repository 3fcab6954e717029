-- What the demands say of any answers that conform. Demand 2: over all legal placements that contain the given entries; with none given it is the solver's. Demand 3:
-- on an eased net, with each given offset cut to the new wire, a completion still exists and no more entries are added, so the total is no larger.
use Rattle.std.specs.Prelude.{Ok, Err, Result}
use Rattle.rules.specs.declared.Refusal.{Refusal}
use Prim.Native.Nat.{ℕ, ◌+◌, ◌≤◌}
use mathlib.Core.Path.{◌≡◌}
use mathlib.Core.List.{List, []}
use native.Mathlib.Omega.{arith}
use lib.ListN.{length}
use Rattle.rules.specs.declared.Entry.{Entry}
use Rattle.rules.specs.declared.Refusal.TheVariants.{NoLegalPlacement, NoRoom}
use Rattle.rules.specs.Net.{Net}
use Rattle.rules.specs.Legal.{InOrder, start, Legal, Least, NoneLegal}
use Rattle.rules.specs.Complete.{LeastAdded, NoneCompletes, Contains}
use Rattle.rules.specs.Ease.{Eases, carried}
use Rattle.rules.proofs.Completing.{least_alone, none_alone, ease_completes, ease_least_added}
use Rattle.rules.proofs.Containing.{none_contains, least_contains}
use Rattle.finish.specs.Answer.{Outcome, none, full, finished}

-- the number that an answer says is to be added
pub data Needs (k : ℕ) (r : Result ℕ Refusal) : Type 0 where
  added : r ≡ Ok k → Needs k r
  short : r ≡ Err (NoRoom k) → Needs k r

module _ {n : Net} {g : List Entry} {ws os ws' os' : List ℕ} {r : Result ℕ Refusal} (o : Outcome n g ws os ws' os' r) where
  pub needs_least : (k : ℕ) → Needs k r → LeastAdded n g k
  needs_least k = go o
    where
      go : Outcome n g ws os ws' os' r → Needs k r → LeastAdded n g k
      go (none h e q) (added x) = absurd (let z : ◌≡◌ {A = ℕ} 0 1 = cc in omega arith)
      go (none h e q) (short x) = absurd (let z : ◌≡◌ {A = ℕ} 0 1 = cc in omega arith)
      go (full m l f e q) (added x) = absurd (let z : ◌≡◌ {A = ℕ} 0 1 = cc in omega arith)
      go (full m l f e q) (short x) = let z : m ≡ k = cc in rw z at l
      go (finished a c l f e q) (added x) = let z : length a ≡ k = cc in rw z at l
      go (finished a c l f e q) (short x) = absurd (let z : ◌≡◌ {A = ℕ} 0 1 = cc in omega arith)

  pub refused_none : r ≡ Err NoLegalPlacement → NoneCompletes n g
  refused_none x = go o
    where
      go : Outcome n g ws os ws' os' r → NoneCompletes n g
      go (none h e q) = h
      go (full m l f e q) = absurd (let z : ◌≡◌ {A = ℕ} 0 1 = cc in omega arith)
      go (finished a c l f e q) = absurd (let z : ◌≡◌ {A = ℕ} 0 1 = cc in omega arith)

  -- one or the other
  pub data Says : Type 0 where
    nothing : r ≡ Err NoLegalPlacement → Says
    number : (k : ℕ) → Needs k r → Says

  pub says : Says
  says = go o
    where
      go : Outcome n g ws os ws' os' r → Says
      go (none h e q) = nothing e
      go (full m l f e q) = number m (short e)
      go (finished a c l f e q) = number (length a) (added e)

  -- ---- demand 2, in the words of the request
  pub none_is_none : InOrder n start g → r ≡ Err NoLegalPlacement → (p : List Entry) → Legal n p → Contains p g → ⊥
  none_is_none i x = none_contains i (refused_none x)

  pub fewest_is_fewest : InOrder n start g → (k : ℕ) → Needs k r → (p : List Entry) → Legal n p → Contains p g → length g + k ≤ length p
  fewest_is_fewest i k x = least_contains i (needs_least k x)

-- ---- with none given
module _ {n : Net} {ws os ws' os' : List ℕ} {r : Result ℕ Refusal} (o : Outcome n [] ws os ws' os' r) where
  pub alone_least : (k : ℕ) → Needs k r → Least n k
  alone_least k x = least_alone.0 (needs_least o k x)

  pub alone_none : r ≡ Err NoLegalPlacement → NoneLegal n
  alone_none x = none_alone.0 (refused_none o x)

-- ---- demand 3
pub eased_needs : {n m : Net} {g : List Entry} {ws os ws₁ os₁ vs us vs₁ us₁ : List ℕ} {r r' : Result ℕ Refusal} → Eases n m → Outcome n g ws os ws₁ os₁ r → Outcome m (carried m g) vs us vs₁ us₁ r'
    → (k : ℕ) → Needs k r → (j : ℕ) × Needs j r' × (j ≤ k)
eased_needs {n} {m} {g} {vs = vs} {us} {vs₁} {us₁} {r} {r'} ease a b k x = go (says b)
  where
    go : Says b → (j : ℕ) × Needs j r' × (j ≤ k)
    go (nothing e) = let l = needs_least a k x in absurd (refused_none b e (carried m l.entries) (ease_completes ease l.completes))
    go (number j y) = (j, y, ease_least_added ease (needs_least a k x) (needs_least b j y))
