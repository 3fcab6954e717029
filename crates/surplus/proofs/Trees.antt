-- What hangs under a node, for the tables: one wire more is a join, and how many wires there are, of which size.
-- Each wire hangs in one place, so the trees of all nodes hold the last l wires once.
use Prim.Native.Nat.{ℕ, zero, suc, ◌+◌, ◌-◌, ◌*◌, ◌≤◌, ◌<◌}
use mathlib.Core.Path.{◌≡◌, refl, sym, ap, ◌∙◌}
use mathlib.Core.Bool.{Bool, true, false}
use native.Mathlib.Omega.{arith}
use native.Mathlib.Decide.{ℕ_discrete}
use lib.Dec.{eqb}
use borrow.Author.Tests.{eq-eqb, ne_eqb}
use Rattle.rules.specs.Figures.{most_children}
use Rattle.rules.specs.Choose.{pick}
use Rattle.rules.specs.Net.{Net, places, parent, wire, kind, pin, polarity}
use Rattle.rules.specs.Tree.{Hanging, none, sink, branch, hung, hanging, under}
use Rattle.rules.specs.Judge.{children}
use Rattle.rules.specs.Sound.{SoundNet}
use Rattle.rules.proofs.Hanging.{hanging_take}
use Rattle.frontier.specs.Cell.{Cell}
use Rattle.frontier.specs.Frontier.{acc, join, width}
use Rattle.frontier.specs.Frontier as frontier
use Rattle.surplus.specs.Wires.{side_of, lift_of}

-- a wire before the rest, by the kind at its lower end
abbrev pub grow : ℕ → ℕ → ℕ → ℕ → ℕ → Hanging → Hanging → Hanging
grow zero i w c s below rest = branch i w below rest
grow (suc k) i w c s below rest = sink i w c s rest

hung_grow : (n : Net) (i : ℕ) (f r : Hanging) → kind n i ≤ 1 → hung n i f r ≡ grow (kind n i) i (wire n i) (pin n i) (polarity n i) f r
hung_grow n i f r h = go (kind n i) h
  where
    go : (k : ℕ) → k ≤ 1 → pick (eqb k 1) (sink i (wire n i) (pin n i) (polarity n i) r) (branch i (wire n i) f r) ≡ grow k i (wire n i) (pin n i) (polarity n i) f r
    go zero l = refl
    go (suc zero) l = refl
    go (suc (suc k)) l = absurd (omega arith)

pub grown : {n : Net} → SoundNet n → (i v : ℕ) → i < places n → parent n i ≡ v
    → hanging n (places n - i) v ≡ grow (kind n i) i (wire n i) (pin n i) (polarity n i) (under n i) (hanging n (places n - suc i) v)
grown {n} s i v h e = hanging_take n i v h e ∙ hung_grow n i (under n i) (hanging n (places n - suc i) v) (s.kind_most i)

pub acc_grow : (τ : Cell) (k i w c s : ℕ) (f r : Hanging) (p : ℕ)
    → acc τ (grow k i w c s f r) p ≡ join τ (frontier.wire τ τ.kind w (λ q. side_of τ k c s (2 * width f) (acc τ f q) q) p) (acc τ r p)
unfolding acc
acc_grow τ zero i w c s f r p = refl
acc_grow τ (suc k) i w c s f r p = refl

-- wire i joined to the wires after it
pub acc_more : (τ : Cell) {n : Net} → SoundNet n → (i p : ℕ) → i < places n → join τ (lift_of τ n i p) (acc τ (hanging n (places n - suc i) (parent n i)) p) ≡ acc τ (hanging n (places n - i) (parent n i)) p
acc_more τ {n} s i p h = sym (ap (λ (f : Hanging). acc τ f p) (grown s i (parent n i) h refl) ∙ acc_grow τ (kind n i) i (wire n i) (pin n i) (polarity n i) (under n i) (hanging n (places n - suc i) (parent n i)) p)

-- ---- at most so many under one point
width_hung : (b : Bool) (i w c s : ℕ) (f r : Hanging) → width (pick b (sink i w c s r) (branch i w f r)) ≡ suc (width r)
width_hung true i w c s f r = refl
width_hung false i w c s f r = refl

width_step : (b d : Bool) (i w c s : ℕ) (f r : Hanging) → width (pick b (pick d (sink i w c s r) (branch i w f r)) r) ≡ pick b 1 0 + width r
width_step true d i w c s f r = omega (arith, width_hung d i w c s f r)
width_step false d i w c s f r = omega arith

width_children : (n : Net) (l v : ℕ) → l < places n → width (hanging n l v) + children n ((places n - 1) - l) v ≡ children n (places n - 1) v
unfolding hanging children
width_children n zero v h = let e : (places n - 1) - 0 ≡ places n - 1 = omega arith in rw e (omega arith)
width_children n (suc l) v h =
    let i : ℕ = places n - suc l in
    let e : (places n - 1) - l ≡ suc ((places n - 1) - suc l) = omega arith in
    let q : suc ((places n - 1) - suc l) ≡ places n - suc l = omega arith in
    let r : width (hanging n l v) + (pick (eqb (parent n (suc ((places n - 1) - suc l))) v) 1 0 + children n ((places n - 1) - suc l) v) ≡ children n (places n - 1) v = rw e at (width_children n l v (omega arith)) in
    omega (arith, width_step (eqb (parent n i) v) (eqb (kind n i) 1) i (wire n i) (pin n i) (polarity n i) (hanging n l i) (hanging n l v), rw q at r)

pub width_few : {n : Net} → SoundNet n → (l v : ℕ) → l < places n → width (hanging n l v) ≤ most_children
width_few {n} s l v h = omega (arith, width_children n l v h, s.narrow v)

-- ---- their sizes
abbrev pub Short : Hanging → Type 0
Short none = Unit {0}
Short (sink i w c s r) = (w ≤ 10000000) × Short r
Short (branch i w f r) = (w ≤ 10000000) × Short f × Short r

short_step : (b d : Bool) (i w c s : ℕ) (f r : Hanging) → w ≤ 10000000 → Short f → Short r → Short (pick b (pick d (sink i w c s r) (branch i w f r)) r)
short_step true true i w c s f r h x y = (h, y)
short_step true false i w c s f r h x y = (h, x, y)
short_step false d i w c s f r h x y = y

pub short : {n : Net} → SoundNet n → (l v : ℕ) → Short (hanging n l v)
unfolding hanging
short s zero v = tt
short {n} s (suc l) v =
    let i : ℕ = places n - suc l in
    short_step (eqb (parent n i) v) (eqb (kind n i) 1) i (wire n i) (pin n i) (polarity n i) (hanging n l i) (hanging n l v) (s.wire_most i) (short s l i) (short s l v)

-- ---- how many in all
abbrev pub wires : Hanging → ℕ
wires none = 0
wires (sink i w c s r) = suc (wires r)
wires (branch i w f r) = suc (wires f + wires r)

unfoldable pub sums : (ℕ → ℕ) → ℕ → ℕ
sums f zero = 0
sums f (suc k) = sums f k + f k

sums_zero : (f : ℕ → ℕ) → ((i : ℕ) → f i ≡ 0) → (k : ℕ) → sums f k ≡ 0
unfolding sums
sums_zero f h zero = refl
sums_zero f h (suc k) = omega (arith, sums_zero f h k, h k)

one_of : (f : ℕ → ℕ) (v k : ℕ) → v < k → f v ≤ sums f k
unfolding sums
one_of f v zero h = omega arith
one_of f v (suc k) h = elim (ℕ_discrete v k) [ yes e ↦ rw e (omega arith) | no ne ↦ omega (arith, one_of f v k (omega arith)) ]

wires_hung : (d : Bool) (i w c s : ℕ) (f r : Hanging) → wires (pick d (sink i w c s r) (branch i w f r)) ≤ 1 + wires f + wires r
wires_hung true i w c s f r = omega arith
wires_hung false i w c s f r = omega arith

module _ (n : Net) where
  at : ℕ → ℕ → ℕ
  at l v = wires (hanging n l v)

  at_none : (v : ℕ) → at 0 v ≡ 0
  unfolding at hanging
  at_none v = refl

  at_other : (l v : ℕ) → (parent n (places n - suc l) ≡ v → ⊥) → at (suc l) v ≡ at l v
  unfolding at hanging
  at_other l v ne = rw (ne_eqb (parent n (places n - suc l)) v ne)

  at_own : (l v : ℕ) → parent n (places n - suc l) ≡ v → at (suc l) v ≤ 1 + at l (places n - suc l) + at l v
  unfolding at hanging
  at_own l v e =
      let i : ℕ = places n - suc l in
      rw (eq-eqb (parent n i) v e) (wires_hung (eqb (kind n i) 1) i (wire n i) (pin n i) (polarity n i) (hanging n l i) (hanging n l v))

  before_own : (l k : ℕ) → k ≤ parent n (places n - suc l) → sums (at (suc l)) k ≡ sums (at l) k
  unfolding sums
  before_own l zero h = refl
  before_own l (suc k) h = omega (arith, before_own l k (omega arith), at_other l k (λ e. omega arith))

  step : (l k : ℕ) → sums (at (suc l)) k ≤ sums (at l) k + (1 + at l (places n - suc l))
  unfolding sums
  step l zero = omega arith
  step l (suc k) = elim (ℕ_discrete (parent n (places n - suc l)) k)
      [ yes e ↦ omega (arith, before_own l k (omega arith), at_own l k e) | no ne ↦ omega (arith, step l k, at_other l k ne) ]

  total : (l : ℕ) → l < places n → sums (at l) (places n - l) ≤ l
  unfolding sums
  total zero h = omega (arith, sums_zero (at 0) at_none (places n - 0))
  total (suc l) h =
      let e : places n - l ≡ suc (places n - suc l) = omega arith in
      omega (arith, step l (places n - suc l), rw e at (total l (omega arith)))

  pub wires_few : (l v : ℕ) → v + l < places n → wires (hanging n l v) ≤ l
  unfolding at
  wires_few l v h = omega (arith, one_of (at l) v (places n - l) (omega arith), total l (omega arith))
