-- What the tables hold of a net meets what is asked of them at each node: its slot, its chain, and that the numbers are small.
use Prim.Native.Nat.{ℕ, zero, suc, ◌+◌, ◌-◌, ◌≤◌, ◌<◌}
use mathlib.Core.Path.{◌≡◌, refl, sym, subst, ◌∙◌}
use mathlib.Core.Logic.{inl, inr}
use mathlib.Core.List.{List}
use native.Mathlib.Omega.{arith}
use native.Mathlib.Decide.{ℕ_discrete}
use lib.ListN.{length}
use Rattle.rules.specs.Figures.{most_places}
use Rattle.rules.specs.Net.{Net, places, parent, wire, kind, pin, polarity}
use Rattle.rules.specs.Tree.{Hanging, none, sink, branch, hanging, under}
use Rattle.rules.specs.Sound.{SoundNet}
use Rattle.rules.proofs.Hanging.{hanging_skip, hanging_end}
use Rattle.frontier.specs.Cell.{Cell}
use Rattle.frontier.specs.Frontier.{State, lost, has, Acc, fail, all, acc}
use Rattle.states.specs.States.{SmallS}
use Rattle.surplus.specs.declared.Slot.{Slot}
use Rattle.surplus.specs.Rows.{SmallAcc}
use Rattle.surplus.specs.Wires.{tip, Each, On, Alive, lift_of}
use Rattle.surplus.specs.Pairs.{PairOf}
use Rattle.surplus.specs.Links.{First}
use Rattle.surplus.specs.Tables.{next_at, head_at, lo_at, hi_at, count_at, zero_at, one_at, SlotIs, WiresJoined}
use Rattle.surplus.specs.Asks.{SmallTip, Smalls, Runs, AsksClose, PairIs, Paired, part_at, Asks}
use Rattle.surplus.proofs.Trees.{grow, grown, width_few}
use Rattle.surplus.proofs.Bounds.{acc_small, lift_small}
use Rattle.surplus.proofs.Chains.{rest_alive}
use Rattle.surplus.proofs.Linking.{chain_by}
use Rattle.surplus.proofs.Passing.{hanging_ordered, hanging_ours, hanging_each, ordered_down}

grow_rest : (τ : Cell) (p κ i w c s : ℕ) (f r : Hanging) → Alive (acc τ (grow κ i w c s f r) p) → Alive (acc τ r p)
grow_rest τ p zero i w c s f r l = rest_alive τ p (branch i w f r) tt l
grow_rest τ p (suc κ) i w c s f r l = rest_alive τ p (sink i w c s r) tt l

paired_grow : (τ : Cell) (links : List ℕ) (slots : List Slot) (p κ k w c s : ℕ) (f r : Hanging) → PairIs slots p k (acc τ (grow κ k w c s f r) p) → Paired τ links slots p (next_at links k) r → Paired τ links slots p k (grow κ k w c s f r)
paired_grow τ links slots p zero k w c s f r h d = (h, d)
paired_grow τ links slots p (suc κ) k w c s f r h d = (h, d)

smalls_grow : (τ : Cell) (p κ i w c s : ℕ) (f r : Hanging) → SmallTip (tip τ p (grow κ i w c s f r)) → SmallAcc (acc τ r p) → Smalls τ p r → Smalls τ p (grow κ i w c s f r)
smalls_grow τ p zero i w c s f r t a d = (t, a, d)
smalls_grow τ p (suc κ) i w c s f r t a d = (t, a, d)

tip_grow : (τ : Cell) (n : Net) (p κ i : ℕ) (r : Hanging) → kind n i ≡ κ → lift_of τ n i p ≡ tip τ p (grow κ i (wire n i) (pin n i) (polarity n i) (under n i) r)
tip_grow τ n p zero i r q = rw q
tip_grow τ n p (suc κ) i r q = rw q

small_tip : (s : State) → SmallS 100000000000 s → SmallTip s
small_tip lost h = tt
small_tip (has m a b) h = (h.1, h.2)

each_on : (P : ℕ → Type 0) (x : Hanging) (j : ℕ) → Each P x → On j x → P j
each_on P none j l o = absurd o
each_on P (sink i w c s r) j l (inl q) = subst P (sym q) l.0
each_on P (sink i w c s r) j l (inr o) = each_on P r j l.1 o
each_on P (branch i w f r) j l (inl q) = subst P (sym q) l.0
each_on P (branch i w f r) j l (inr o) = each_on P r j l.1 o

-- a wire that is under another node is not one of these
pub not_ours : {n : Net} → SoundNet n → (v j : ℕ) → (parent n j ≡ v → ⊥) → On j (under n v) → ⊥
not_ours {n} sound v j ne o = ne (each_on (λ j. parent n j ≡ v) (under n v) j (hanging_ours sound v (suc v)) o)

pair_is : (slots : List Slot) (p k c : ℕ) (z : Acc) → Alive z → PairOf c (zero_at slots p k) (one_at slots p k) z → PairIs slots p k z
pair_is slots p k c fail l h = l
pair_is slots p k c (all m g) l h = (h.1, h.2)

module _ (τ : Cell) {n : Net} {links : List ℕ} {slots : List Slot} {i₀ : ℕ} (w : WiresJoined τ n links slots i₀) {p : ℕ} (lp : p ≤ 1) where
  -- the slot of the wires from i on under v
  pub slot_at : (i v k : ℕ) → i₀ ≤ i → First n i v k → SlotIs slots p k (acc τ (hanging n (places n - i) v) p)
  unfolding acc
  slot_at i v k l f = elim (ℕ_discrete k 0) [
    | yes q ↦ let (c, x, y) = w.end p lp in rw (f.not q, q) (c, x, y)
    | no ne ↦
        let z : 1 ≤ k = omega arith in
        rw (f.same z) (subst (λ (u : ℕ). SlotIs slots p k (acc τ (hanging n (places n - k) u) p)) (f.ours z) (w.slot k p (omega (arith, f.from z)) z f.low lp))
  ]

module _ (τ : Cell) (eq : τ.cu ≡ τ.cb + τ.D) (pos : 1 ≤ τ.D) (small : τ.cu ≤ 1000000) {n : Net} (sound : SoundNet n) where
  smalls_by : (p l i v : ℕ) → p ≤ 1 → places n - i ≡ l → v < i → Smalls τ p (hanging n (places n - i) v)
  smalls_by p zero i v lp e lt = rw (hanging_end n i v (omega arith)) tt
  smalls_by p (suc l) i v lp e lt =
      let h : i < places n = omega arith in
      let r : Hanging = hanging n (places n - suc i) v in
      let ih : Smalls τ p r = smalls_by p l (suc i) v lp (omega arith) (omega arith) in
      elim (ℕ_discrete (parent n i) v) [
        | yes q ↦ rw (grown sound i v h q) (smalls_grow τ p (kind n i) i (wire n i) (pin n i) (polarity n i) (under n i) r
            (subst SmallTip (tip_grow τ n p (kind n i) i r refl) (small_tip (lift_of τ n i p) (lift_small τ eq pos small sound i p h lp)))
            (acc_small τ eq pos small sound (places n - suc i) v p (omega arith) lp) ih)
        | no ne ↦ rw (hanging_skip n i v h ne) ih
      ]

  module _ {links : List ℕ} {slots : List Slot} {i₀ : ℕ} (w : WiresJoined τ n links slots i₀) {p : ℕ} (lp : p ≤ 1) where
    -- and their chain
    pub runs_at : (i v k : ℕ) → i₀ ≤ i → v < i → i ≤ places n → First n i v k → Alive (acc τ (hanging n (places n - i) v) p) → Runs τ links slots p k (hanging n (places n - i) v)
    runs_at i v k l lt le f a = record {
      chain = chain_by τ sound w.linked (lo_at slots p) (hi_at slots p) p (λ j g o h. w.kept j p g o h lp) (places n - i) i v k l (omega arith) f;
      live = a;
      order = ordered_down 1 i (hanging n (places n - i) v) (omega arith) (hanging_ordered sound v i);
      low = hanging_each sound v (λ j. j < most_places) (λ j h e. omega (arith, sound.few)) i;
      smalls = smalls_by p (places n - i) i v lp refl lt;
      few = width_few sound (places n - i) v (omega arith);
    }

    pub asks_close : (i v k : ℕ) → i₀ ≤ i → v < i → i ≤ places n → First n i v k → AsksClose τ links slots p k (hanging n (places n - i) v)
    asks_close i v k l lt le f = record { slot = slot_at τ w lp i v k l f; runs = runs_at i v k l lt le f }

    pair_here : (i v k : ℕ) (x : Hanging) → i₀ ≤ i → First n i v k → hanging n (places n - i) v ≡ x → Alive (acc τ x p) → PairIs slots p k (acc τ x p)
    pair_here i v k x g f e a = pair_is slots p k (count_at slots p k) (acc τ x p) a (subst (λ (x : Hanging). SlotIs slots p k (acc τ x p)) e (slot_at τ w lp i v k g f))

    paired_by : (l i v k : ℕ) → i₀ ≤ i → places n - i ≤ l → First n i v k → Alive (acc τ (hanging n (places n - i) v) p) → Paired τ links slots p k (hanging n (places n - i) v)
    paired_by zero i v k g e f a = elim (ℕ_discrete k 0) [ yes q ↦ rw (f.not q) (pair_here i v k none g f (f.not q) (subst (λ (x : Hanging). Alive (acc τ x p)) (f.not q) a)) | no ne ↦ absurd (omega (arith, f.from (omega arith), f.low)) ]
    paired_by (suc l) i v k g e f a = elim (ℕ_discrete k 0) [
      | yes q ↦ rw (f.not q) (pair_here i v k none g f (f.not q) (subst (λ (x : Hanging). Alive (acc τ x p)) (f.not q) a))
      | no ne ↦
          let z : 1 ≤ k = omega arith in
          let r : Hanging = hanging n (places n - suc k) v in
          let x : Hanging = grow (kind n k) k (wire n k) (pin n k) (polarity n k) (under n k) r in
          let y : hanging n (places n - i) v ≡ x = f.same z ∙ grown sound k v f.low (f.ours z) in
          let a' : Alive (acc τ x p) = subst (λ (x : Hanging). Alive (acc τ x p)) y a in
          let d : Paired τ links slots p (next_at links k) r =
          paired_by l (suc k) v (next_at links k) (omega (arith, f.from z)) (omega (arith, f.from z, f.low)) (subst (λ (u : ℕ). First n (suc k) u (next_at links k)) (f.ours z) (w.linked.nexts k (omega (arith, f.from z)) f.low))
          (grow_rest τ p (kind n k) k (wire n k) (pin n k) (polarity n k) (under n k) r a') in
          rw y (paired_grow τ links slots p (kind n k) k (wire n k) (pin n k) (polarity n k) (under n k) r (pair_here i v k x g f y a') d)
    ]

    -- what is asked where the wires under v are dealt a surplus
    pub asks_under : (parts : List ℕ) (v : ℕ) → i₀ ≤ suc v → v < places n → First n (suc v) v (head_at links v) → length parts ≡ most_places
        → Alive (acc τ (under n v) p) → ((j : ℕ) → parent n j ≡ v → part_at parts j ≡ 0) → Asks τ links slots parts p (head_at links v) (under n v)
    asks_under parts v l h f long a clear = record {
      long = long;
      runs = runs_at (suc v) v (head_at links v) l (omega arith) h f a;
      paired = paired_by (places n - suc v) (suc v) v (head_at links v) l (omega arith) f a;
      clear = λ j o. clear j (each_on (λ j. parent n j ≡ v) (under n v) j (hanging_ours sound v (suc v)) o);
    }
