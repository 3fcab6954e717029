-- Laws of one wire: how large its numbers are, and a merge. Each is a computation or a bound of sums.
use Prim.Native.Nat.{ℕ, zero, suc, ◌+◌, ◌-◌, ◌*◌, ◌%◌, ◌≤◌, min}
use mathlib.Core.Path.{◌≡◌, refl, ap}
use native.Mathlib.Nat.{div-add-mod', mul-le-mul_left}
use native.Mathlib.Omega.{arith}
use Rattle.frontier.specs.Cell.{Kind, buf, inv, Cell, kind_of, cell_of}
use Rattle.frontier.specs.Frontier.{State, lost, has, merge_by, merge, ceil, req, T, second, cand, via, wire}
use Rattle.frontier.proofs.Lower.{ceil_least, req_ok, T-fits}
use Rattle.states.specs.declared.Cell as code
use Rattle.states.specs.States.{SmallS, wire_of, model_of, limits_of, CellOk}

-- ---- merges
module _ (m a b n x y : ℕ) where
  pub merge_one : n - m ≡ 1 → merge_by (n - m) (m - n) m a b n x y ≡ has m a (min b x)
  merge_one h = rw h

pub merged : {s s' t t' : State} → s ≡ s' → t ≡ t' → merge s t ≡ merge s' t'
merged p q = rw (p, q)

merge_by_small : (k d e m a b n x y : ℕ) → SmallS k (has m a b) → SmallS k (has n x y) → SmallS k (merge_by d e m a b n x y)
merge_by_small k zero zero m a b n x y h g = (h.0, omega arith, omega arith)
merge_by_small k zero (suc zero) m a b n x y h g = (g.0, g.1, omega arith)
merge_by_small k zero (suc (suc e)) m a b n x y h g = g
merge_by_small k (suc zero) e m a b n x y h g = (h.0, h.1, omega arith)
merge_by_small k (suc (suc d)) e m a b n x y h g = h

pub merge_small : (k : ℕ) (s t : State) → SmallS k s → SmallS k t → SmallS k (merge s t)
merge_small k lost t h g = g
merge_small k (has m a b) lost h g = h
merge_small k (has m a b) (has n x y) h g = merge_by_small k (n - m) (m - n) m a b n x y h g

pub small_up : (j k : ℕ) (s : State) → j ≤ k → SmallS j s → SmallS k s
small_up j k lost l x = tt
small_up j k (has m p q) l x = (omega arith, x.1, x.2)

pub second_le : (τ : Cell) (κ : Kind) (a : ℕ) → second τ κ a ≤ a
unfolding second
second_le τ buf a = omega arith
second_le τ inv a = omega arith

module _ (τ : Cell) (eq : τ.cu ≡ τ.cb + τ.D) (pos : 1 ≤ τ.D) (small : τ.cu ≤ 1000000) where
  -- ---- how many on a wire
  ceil_mul : (v : ℕ) → ceil τ v * τ.D ≤ (v - τ.cu) + (τ.D - 1)
  unfolding ceil
  ceil_mul v = omega (arith, div-add-mod' ((v - τ.cu) + (τ.D - 1)) τ.D)

  ceil_few : (v : ℕ) → v ≤ 11000000 → ceil τ v ≤ 11000000
  ceil_few v h = ceil_least τ eq pos v 11000000 (omega (arith, mul-le-mul_left 11000000 pos))

  pub req_mul : (π v : ℕ) → v ≤ 11000000 → req τ inv π v * τ.D ≤ 2000000000
  unfolding req
  req_mul π v h = go ((ceil τ v + π) % 2) (omega arith)
    where
      go : (z : ℕ) → z ≤ 1 → (ceil τ v + z) * τ.D ≤ 2000000000
      go zero l = omega (arith, ceil_mul v)
      go (suc zero) l = omega (arith, ceil_mul v)
      go (suc (suc z)) l = absurd (omega arith)

  pub req_few : (κ : Kind) (π v : ℕ) → v ≤ 11000000 → req τ κ π v ≤ 11000001
  unfolding req
  req_few buf π v h = omega (arith, ceil_few v h)
  req_few inv π v h = omega (arith, ceil_few v h)

  pub cand_small : (κ : Kind) (π n v : ℕ) → v ≤ 11000000 → SmallS (n + 11000001) (cand τ κ π n v)
  unfolding cand
  cand_small κ π n v h =
      let f : T τ v (req τ κ π v) ≤ τ.cu = T-fits τ eq pos v (req τ κ π v) (req_ok τ eq pos κ π v) in
      (omega (arith, req_few κ π v h), omega arith, omega (arith, second_le τ κ (T τ v (req τ κ π v))))

  pub via_small : (κ : Kind) (π w k : ℕ) (s : State) → w ≤ 10000000 → SmallS k s → SmallS (k + 11000002) (via τ κ π w s)
  unfolding via
  via_small κ π w k lost h g = tt
  via_small κ π w k (has n a b) h g =
      merge_small (k + 11000002) (cand τ κ π n (w + a)) (cand τ κ π (suc n) (w + b))
      (small_up (n + 11000001) (k + 11000002) (cand τ κ π n (w + a)) (omega arith) (cand_small κ π n (w + a) (omega arith)))
      (small_up (suc n + 11000001) (k + 11000002) (cand τ κ π (suc n) (w + b)) (omega arith) (cand_small κ π (suc n) (w + b) (omega arith)))

  pub wire_small : (κ : Kind) (w k : ℕ) (s t : State) → w ≤ 10000000 → SmallS k s → SmallS k t → SmallS (k + 11000002) (wire_of τ κ w s t)
  unfolding wire_of
  wire_small buf w k s t h x y = via_small buf 0 w k s h x
  wire_small inv w k s t h x y = merge_small (k + 11000002) (via τ inv 0 w s) (via τ inv 1 w t) (via_small inv 0 w k s h x) (via_small inv 1 w k t h y)

-- ---- the model's wire is the code's, at polarities 0 and 1
pub wire_0 : (τ : Cell) (κ : Kind) (w : ℕ) (nd : ℕ → State) → wire τ κ w nd 0 ≡ wire_of τ κ w (nd 0) (nd 1)
unfolding wire wire_of
wire_0 τ buf w nd = refl
wire_0 τ inv w nd = refl

pub wire_1 : (τ : Cell) (κ : Kind) (w : ℕ) (nd : ℕ → State) → wire τ κ w nd 1 ≡ wire_of τ κ w (nd 1) (nd 0)
unfolding wire wire_of
wire_1 τ buf w nd = refl
wire_1 τ inv w nd = refl

-- ---- over the code's limits
pub ok_of : (c : code.Cell) → CellOk c
ok_of c = record { eq = c.limit_is; pos = c.some_span; small = c.limit_small; kind = c.a_kind }

pub model_is : {c : code.Cell} → CellOk c → model_of c ≡ cell_of (limits_of c)
model_is {c} ok = let e : c.span ≡ c.limit - c.pin = omega (arith, ok.eq) in ap (λ (d : ℕ). record { kind = kind_of c.repeater; cu = c.limit; cb = c.pin; D = d }) e

pub ceil_le : {c : code.Cell} → CellOk c → (v : ℕ) → v ≤ 11000000 → ceil (model_of c) v ≤ 11000000
ceil_le {c} k v h = ceil_few (model_of c) k.eq k.pos k.small v h

pub req_le : {c : code.Cell} → CellOk c → (π v : ℕ) → v ≤ 11000000 → req (model_of c) inv π v ≤ 11000001
req_le {c} k π v h = req_few (model_of c) k.eq k.pos k.small inv π v h

pub req_room : {c : code.Cell} → CellOk c → (π v r : ℕ) → v ≤ 11000000 → r ≡ req (model_of c) inv π v → r * c.span ≤ 2000000000
req_room {c} k π v r h e = rw e (req_mul (model_of c) k.eq k.pos k.small π v h)
