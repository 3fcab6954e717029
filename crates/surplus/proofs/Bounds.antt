-- The frontier's numbers are small: a count is at most 11,000,004 for each wire below, a load at most 1,000,000 for each wire beside.
use Prim.Native.Nat.{ℕ, zero, suc, ◌+◌, ◌-◌, ◌*◌, ◌≤◌, ◌<◌, min}
use mathlib.Core.Path.{◌≡◌, refl}
use native.Mathlib.Omega.{arith}
use Rattle.rules.specs.Figures.{most_children}
use Rattle.rules.specs.Net.{Net, places, kind, pin, polarity}
use Rattle.rules.specs.Net as columns
use Rattle.rules.specs.Tree.{Hanging, none, sink, branch, hanging, under}
use Rattle.rules.specs.Sound.{SoundNet}
use Rattle.frontier.specs.Cell.{Kind, Cell}
use Rattle.frontier.specs.Frontier.{State, lost, has, Acc, fail, all, ifz, width, wire, conv, join, close_at, close, leaf, acc}
use Rattle.states.specs.States.{SmallS}
use Rattle.states.proofs.Leaves.{wire_0, wire_1, wire_small, small_up}
use Rattle.surplus.specs.Rows.{SmallAcc}
use Rattle.surplus.specs.Wires.{side_of, node_at, lift_of}
use Rattle.surplus.proofs.Trees.{Short, short, wires, wires_few, width_few}

-- of w wires: a count that leaves two for each wire up to k
abbrev AccS : ℕ → ℕ → Acc → Type 0
AccS w k fail = Unit {0}
AccS w k (all m g) = (m + 2 * w ≤ k) × ((e : ℕ) → g e ≤ w * 1000000)

module _ (τ : Cell) (eq : τ.cu ≡ τ.cb + τ.D) (pos : 1 ≤ τ.D) (small : τ.cu ≤ 1000000) where
  conv_le : (a b : ℕ) (g : ℕ → ℕ) (l : ℕ) → a ≤ 1000000 → ((e : ℕ) → g e ≤ l) → (e : ℕ) → conv τ a b g e ≤ l + 1000000
  unfolding conv
  conv_le a b g l h k zero = omega (arith, k 0)
  conv_le a b g l h k (suc zero) = omega (arith, k 1)
  conv_le a b g l h k (suc (suc e)) = omega (arith, k (suc (suc e)))

  join_S : (w j k k' : ℕ) (s : State) (x : Acc) → SmallS j s → AccS w k x → j + k + 2 ≤ k' → AccS (suc w) k' (join τ s x)
  unfolding join
  join_S w j k k' lost x h y l = tt
  join_S w j k k' (has m a b) fail h y l = tt
  join_S w j k k' (has m a b) (all n g) h y l = (omega arith, λ e. omega (arith, conv_le a b g (w * 1000000) h.1 y.1 e))

  ifz_S : (k z a : ℕ) (s t : State) → a - τ.cu ≡ z → (a ≤ τ.cu → SmallS k s) → SmallS k t → SmallS k (ifz z s t)
  ifz_S k zero a s t e f g = f (omega arith)
  ifz_S k (suc z) a s t e f g = g

  close_at_S : (n m e k : ℕ) (g : ℕ → ℕ) → m + e + n ≤ k → SmallS k (close_at τ n m e g)
  unfolding close_at
  close_at_S zero m e k g h = ifz_S k (g e - τ.cu) (g e) (has (m + e) (g e) (min (g e) (g (suc e)))) lost refl (λ l. (omega arith, omega arith, omega arith)) tt
  close_at_S (suc n) m e k g h =
      ifz_S k (g e - τ.cu) (g e) (has (m + e) (g e) (min (g e) (g (suc e)))) (close_at τ n m (suc e) g) refl (λ l. (omega arith, omega arith, omega arith)) (close_at_S n m (suc e) k g (omega arith))

  close_S : (w k : ℕ) (x : Acc) → AccS w k x → SmallS k (close τ (2 * w) x)
  unfolding close
  close_S w k fail h = tt
  close_S w k (all m g) h = close_at_S (2 * w) m 0 k g (omega arith)

  leaf_S : (c s q : ℕ) → SmallS 0 (leaf τ c s q)
  unfolding leaf
  leaf_S c s q = go ((q - s) + (s - q))
    where
      go : (z : ℕ) → SmallS 0 (ifz z (ifz (c - τ.cu) (has 0 c c) lost) lost)
      go zero = ifz_S 0 (c - τ.cu) c (has 0 c c) lost refl (λ l. (omega arith, omega arith, omega arith)) tt
      go (suc z) = tt

  wire_S : (κ : Kind) (w k p : ℕ) (nd : ℕ → State) → w ≤ 10000000 → p ≤ 1 → ((q : ℕ) → q ≤ 1 → SmallS k (nd q)) → SmallS (k + 11000002) (wire τ κ w nd p)
  wire_S κ w k zero nd h l f = rw (wire_0 τ κ w nd) (wire_small τ eq pos small κ w k (nd 0) (nd 1) h (f 0 (omega arith)) (f 1 (omega arith)))
  wire_S κ w k (suc zero) nd h l f = rw (wire_1 τ κ w nd) (wire_small τ eq pos small κ w k (nd 1) (nd 0) h (f 1 (omega arith)) (f 0 (omega arith)))
  wire_S κ w k (suc (suc p)) nd h l f = absurd (omega arith)

  acc_S : (f : Hanging) (p : ℕ) → p ≤ 1 → Short f → AccS (width f) (wires f * 11000004) (acc τ f p)
  unfolding acc
  acc_S none p l s = (omega arith, λ e. omega arith)
  acc_S (sink i w c s r) p l sh =
      join_S (width r) (0 + 11000002) (wires r * 11000004) (suc (wires r) * 11000004) (wire τ τ.kind w (leaf τ c s) p) (acc τ r p)
      (wire_S τ.kind w 0 p (leaf τ c s) sh.0 l (λ q g. leaf_S c s q)) (acc_S r p l sh.1) (omega arith)
  acc_S (branch i w f r) p l sh =
      join_S (width r) (wires f * 11000004 + 11000002) (wires r * 11000004) (suc (wires f + wires r) * 11000004) (wire τ τ.kind w (λ q. close τ (2 * width f) (acc τ f q)) p) (acc τ r p)
      (wire_S τ.kind w (wires f * 11000004) p (λ q. close τ (2 * width f) (acc τ f q)) sh.0 l (λ q g. close_S (width f) (wires f * 11000004) (acc τ f q) (acc_S f q g sh.1)))
      (acc_S r p l sh.2) (omega arith)

  to_small : (w k : ℕ) (x : Acc) → w ≤ most_children → k ≤ 100000000000 → AccS w k x → SmallAcc x
  to_small w k fail h l s = tt
  to_small w k (all m g) h l s = (omega (arith, s.0), λ e. omega (arith, s.1 e))

  pub acc_small : {n : Net} → SoundNet n → (l v p : ℕ) → v + l < places n → p ≤ 1 → SmallAcc (acc τ (hanging n l v) p)
  acc_small {n} s l v p h q =
      to_small (width (hanging n l v)) (wires (hanging n l v) * 11000004) (acc τ (hanging n l v) p) (width_few s l v (omega arith)) (omega (arith, wires_few n l v h, s.few)) (acc_S (hanging n l v) p q (short s l v))

  side_S : (k : ℕ) (f : Hanging) (c s q : ℕ) → q ≤ 1 → Short f → SmallS (wires f * 11000004) (side_of τ k c s (2 * width f) (acc τ f q) q)
  side_S zero f c s q l sh = close_S (width f) (wires f * 11000004) (acc τ f q) (acc_S f q l sh)
  side_S (suc k) f c s q l sh = small_up 0 (wires f * 11000004) (leaf τ c s q) (omega arith) (leaf_S c s q)

  pub node_small : {n : Net} → SoundNet n → (i p : ℕ) → i < places n → p ≤ 1 → SmallS 500000000000 (node_at τ n i p)
  node_small {n} s i p h l =
      small_up (wires (under n i) * 11000004) 500000000000 (node_at τ n i p) (omega (arith, wires_few n (places n - suc i) i (omega arith), s.few))
      (side_S (kind n i) (under n i) (pin n i) (polarity n i) p l (short s (places n - suc i) i))

  pub lift_small : {n : Net} → SoundNet n → (i p : ℕ) → i < places n → p ≤ 1 → SmallS 100000000000 (lift_of τ n i p)
  lift_small {n} s i p h l =
      let f : Hanging = under n i in
      small_up (wires f * 11000004 + 11000002) 100000000000 (lift_of τ n i p) (omega (arith, wires_few n (places n - suc i) i (omega arith), s.few))
      (wire_S τ.kind (columns.wire n i) (wires f * 11000004) p (λ q. side_of τ (kind n i) (pin n i) (polarity n i) (2 * width f) (acc τ f q) q) (s.wire_most i) l (λ q g. side_S (kind n i) f (pin n i) (polarity n i) q g (short s (places n - suc i) i)))
