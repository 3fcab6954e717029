-- The load below a node fits 64 bits with much to spare: each wire adds at most 11,500,000, and each node has one parent.
-- So the loads that hang from all nodes before wire i, of the wires from i on, add up to at most that for each of these.
use Prim.Native.Nat.{ℕ, zero, suc, ◌-◌, ◌<◌, ◌≤◌, ◌+◌, ◌*◌}
use mathlib.Core.Path.{◌≡◌, refl}
use mathlib.Core.Bool.{Bool, true, false}
use mathlib.Core.List.{List, [], ◌∷◌}
use native.Mathlib.Omega.{arith}
use native.Mathlib.Decide.{ℕ_discrete}
use lib.Dec.{eqb}
use borrow.Author.Tests.{eq-eqb, ne_eqb}
use Rattle.rules.specs.Choose.{pick}
use Rattle.rules.specs.Net.{Net, places, parent, wire, kind, pin, polarity}
use Rattle.rules.specs.Tree.{Hanging, sink, branch, hanging}
use Rattle.rules.specs.Load.{hands_up, handed_by, load_below}
use Rattle.rules.specs.Sound.{SoundNet}

-- 1,024 wires of 11,500,000
abbrev pub most_load : ℕ
most_load = 11776000000

pub hands_up_most : (cb w from load : ℕ) (os : List ℕ) → hands_up cb w from load os ≤ w + (load + cb)
unfolding hands_up
hands_up_most cb w from load [] = omega arith
hands_up_most cb w from load (o ∷ os) = omega (arith, hands_up_last o os)
  where
    hands_up_last : (from : ℕ) (os : List ℕ) → hands_up cb w from cb os ≤ w + cb
    hands_up_last from [] = omega arith
    hands_up_last from (o ∷ os) = hands_up_last o os

-- the first k of f
firsts : (ℕ → ℕ) → ℕ → ℕ
firsts f zero = 0
firsts f (suc k) = firsts f k + f k

firsts_zero : (f : ℕ → ℕ) → ((i : ℕ) → f i ≡ 0) → (k : ℕ) → firsts f k ≡ 0
unfolding firsts
firsts_zero f h zero = refl
firsts_zero f h (suc k) = omega (arith, firsts_zero f h k, h k)

one_of : (f : ℕ → ℕ) (v k : ℕ) → v < k → f v ≤ firsts f k
unfolding firsts
one_of f v zero h = omega arith
one_of f v (suc k) h = elim (ℕ_discrete v k) [ yes e ↦ rw e (omega arith) | no ne ↦ omega (arith, one_of f v k (omega arith)) ]

module _ {n : Net} (s : SoundNet n) (offs : ℕ → List ℕ) where
  -- a wire adds at most 11,500,000 to what hangs at its node and after it
  hung_most : (i : ℕ) (below rest : Hanging) (z : Bool)
      → handed_by n.limits.pin offs (pick z (sink i (wire n i) (pin n i) (polarity n i) rest) (branch i (wire n i) below rest))
      ≤ 11500000 + handed_by n.limits.pin offs below + handed_by n.limits.pin offs rest
  unfolding handed_by
  hung_most i below rest true = omega (arith, hands_up_most n.limits.pin (wire n i) 0 (pin n i) (offs i), s.wire_most i, s.pin_most i, s.half, s.limit_most)
  hung_most i below rest false = omega (arith, hands_up_most n.limits.pin (wire n i) 0 (handed_by n.limits.pin offs below) (offs i), s.wire_most i, s.half, s.limit_most)

  -- what hangs at v of the last l wires
  at : ℕ → ℕ → ℕ
  at l v = handed_by n.limits.pin offs (hanging n l v)

  at_none : (v : ℕ) → at 0 v ≡ 0
  unfolding at hanging handed_by
  at_none v = refl

  at_other : (l v : ℕ) → (parent n (places n - suc l) ≡ v → ⊥) → at (suc l) v ≡ at l v
  unfolding at hanging
  at_other l v ne = rw (ne_eqb (parent n (places n - suc l)) v ne)

  at_own : (l v : ℕ) → parent n (places n - suc l) ≡ v → at (suc l) v ≤ 11500000 + at l (places n - suc l) + at l v
  unfolding at hanging
  at_own l v e =
      let i : ℕ = places n - suc l in
      rw (eq-eqb (parent n i) v e) (hung_most i (hanging n l i) (hanging n l v) (eqb (kind n i) 1))

  before_own : (l k : ℕ) → k ≤ parent n (places n - suc l) → firsts (at (suc l)) k ≡ firsts (at l) k
  unfolding firsts
  before_own l zero h = refl
  before_own l (suc k) h = omega (arith, before_own l k (omega arith), at_other l k (λ e. omega arith))

  more : (l k : ℕ) → firsts (at (suc l)) k ≤ firsts (at l) k + (11500000 + at l (places n - suc l))
  unfolding firsts
  more l zero = omega arith
  more l (suc k) = elim (ℕ_discrete (parent n (places n - suc l)) k) [
    | yes e ↦ omega (arith, before_own l k (omega arith), at_own l k e)
    | no ne ↦ omega (arith, more l k, at_other l k ne)
  ]

  all : (l : ℕ) → l < places n → firsts (at l) (places n - l) ≤ l * 11500000
  unfolding firsts
  all zero h = omega (arith, firsts_zero (at 0) at_none (places n - 0))
  all (suc l) h =
      let e : places n - l ≡ suc (places n - suc l) = omega arith in
      omega (arith, more l (places n - suc l), rw e at (all l (omega arith)))

  -- what hangs at v of the wires past v
  pub hanging_most : (v : ℕ) → v < places n → handed_by n.limits.pin offs (hanging n (places n - suc v) v) ≤ most_load
  unfolding at
  hanging_most v h =
      let l : ℕ = places n - suc v in
      omega (arith, one_of (at l) v (places n - l) (omega arith), all l (omega arith), s.few)

  pub load_most : (v : ℕ) → v < places n → load_below n offs v ≤ most_load
  unfolding load_below
  load_most v h = go (eqb (kind n v) 1)
    where
      go : (z : Bool) → pick z (pin n v) (handed_by n.limits.pin offs (hanging n (places n - suc v) v)) ≤ most_load
      go true = omega (arith, s.pin_most v)
      go false = hanging_most v h
