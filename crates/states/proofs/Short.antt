-- A wire whose load fits takes no inverter, or one that hands up its pin: what it is worth at both polarities, without a division.
use Rattle.std.specs.Prelude.{None}
use Prim.Native.Nat.{ℕ, suc, ◌+◌, ◌-◌, ◌*◌, ◌≤◌, min, max}
use mathlib.Core.Path.{◌≡◌, refl, sym, ◌∙◌}
use native.Mathlib.Omega.{arith}
use native.Mathlib.Numerals.{add-one}
use Rattle.frontier.specs.Cell.{inv, Cell}
use Rattle.frontier.specs.Frontier.{State, lost, has, merge, ceil, req, second, cand, via}
use Rattle.frontier.proofs.Lower.{Tidy, ceil_least}
use Rattle.states.specs.declared.Cell as code
use Rattle.states.specs.declared.Sides.{Sides}
use Rattle.states.specs.States.{model_of, st, Falls, wire_of, Lifted}
use Rattle.states.proofs.Leaves.{merge_one}

pub tidy_falls : (τ : Cell) (s : State) → Tidy τ s → Falls s
tidy_falls τ lost h = tt
tidy_falls τ (has m a b) h = h.1

module _ (τ : Cell) (eq : τ.cu ≡ τ.cb + τ.D) (pos : 1 ≤ τ.D) where
  pub ceil_0 : (v : ℕ) → v ≤ τ.cu → ceil τ v ≡ 0
  ceil_0 v h = omega (arith, ceil_least τ eq pos v 0 (omega arith))

  pub req_even : (v : ℕ) → v ≤ τ.cu → req τ inv 0 v ≡ 0
  unfolding req
  req_even v h = rw (ceil_0 v h) (omega arith)

  req_odd : (v : ℕ) → v ≤ τ.cu → req τ inv 1 v ≡ 1
  unfolding req
  req_odd v h = rw (ceil_0 v h) (omega arith)

  cand_even : (n v : ℕ) → v ≤ τ.cu → cand τ inv 0 n v ≡ has n v v
  unfolding cand second
  cand_even n v h = let z : n + 0 ≡ n = omega arith in rw (req_even v h, z)

  cand_odd : (n v : ℕ) → v ≤ τ.cu → cand τ inv 1 n v ≡ has (suc n) τ.cb τ.cb
  unfolding cand second
  cand_odd n v h =
      let z : n + 1 ≡ suc n = omega arith in
      let m : max τ.cb (v - 1 * τ.D) ≡ τ.cb = omega arith in
      rw (req_odd v h, z, m)

  -- at the node's own polarity its two loads with the wire, and at the other the pin
  via_even : (w n a b : ℕ) → w + a ≤ τ.cu → b ≤ a → via τ inv 0 w (has n a b) ≡ has n (w + a) (w + b)
  unfolding via
  via_even w n a b h l =
      let d : min (w + a) (w + b) ≡ w + b = omega arith in
      rw (cand_even n (w + a) h, cand_even (suc n) (w + b) (omega arith)) (merge_one n (w + a) (w + a) (suc n) (w + b) (w + b) (omega arith) ∙ rw d)

  via_odd : (w n a b : ℕ) → w + a ≤ τ.cu → b ≤ a → via τ inv 1 w (has n a b) ≡ has (suc n) τ.cb τ.cb
  unfolding via
  via_odd w n a b h l =
      let d : min τ.cb τ.cb ≡ τ.cb = omega arith in
      rw (cand_odd n (w + a) h, cand_odd (suc n) (w + b) (omega arith)) (merge_one (suc n) τ.cb τ.cb (suc (suc n)) τ.cb τ.cb (omega arith) ∙ rw d)

  via_none : (π w : ℕ) → via τ inv π w lost ≡ lost
  unfolding via
  via_none π w = refl

  -- over one polarity only, as a sink has
  short_none : (w : ℕ) → wire_of τ inv w lost lost ≡ lost
  unfolding wire_of
  short_none w = rw (via_none 0 w, via_none 1 w)

  short_own : (w n a b : ℕ) → w + a ≤ τ.cu → b ≤ a → wire_of τ inv w (has n a b) lost ≡ has n (w + a) (w + b)
  unfolding wire_of
  short_own w n a b h l = rw (via_even w n a b h l, via_none 1 w)

  short_other : (w n a b : ℕ) → w + a ≤ τ.cu → b ≤ a → wire_of τ inv w lost (has n a b) ≡ has (suc n) τ.cb τ.cb
  unfolding wire_of
  short_other w n a b h l = rw (via_none 0 w, via_odd w n a b h l)

  -- over both: one merge of four sums, and no division
  short_both : (w n a b m x y : ℕ) → w + a ≤ τ.cu → b ≤ a → w + x ≤ τ.cu → y ≤ x → wire_of τ inv w (has n a b) (has m x y) ≡ merge (has n (w + a) (w + b)) (has (suc m) τ.cb τ.cb)
  unfolding wire_of
  short_both w n a b m x y h l g k = rw (via_even w n a b h l, via_odd w m x y g k)

-- ---- what `lift` answers
module _ (c : code.Cell) (w : ℕ) where
  pub lift_none : {s : Sides} → s.plus ≡ None → s.minus ≡ None → Lifted (model_of c) w (st s.plus) (st s.minus) s
  lift_none e f = let z = sym (short_none (model_of c) c.limit_is c.some_span w) in record { plus = rw (e, f) z; minus = rw (e, f) z }

  pub lift_own : {n a b : ℕ} {r : Sides} → w + a ≤ c.limit → b ≤ a
      → st r.plus ≡ has n (w + a) (w + b) → st r.minus ≡ has (n + 1) c.pin c.pin → Lifted (model_of c) w (has n a b) lost r
  lift_own {n} {a} {b} h l p m = record {
    plus = p ∙ sym (short_own (model_of c) c.limit_is c.some_span w n a b h l);
    minus = rw (m, add-one) (sym (short_other (model_of c) c.limit_is c.some_span w n a b h l));
  }

  pub lift_both : {n a b m x y : ℕ} {r : Sides} → w + max a x ≤ c.limit → b ≤ a → y ≤ x
      → st r.plus ≡ merge (has n (w + a) (w + b)) (has (m + 1) c.pin c.pin)
      → st r.minus ≡ merge (has m (w + x) (w + y)) (has (n + 1) c.pin c.pin) → Lifted (model_of c) w (has n a b) (has m x y) r
  lift_both {n} {a} {b} {m} {x} {y} h l k i j =
      let f : w + a ≤ c.limit = omega arith in
      let g : w + x ≤ c.limit = omega arith in
      record {
        plus = i ∙ rw add-one (sym (short_both (model_of c) c.limit_is c.some_span w n a b m x y f l g k));
        minus = j ∙ rw add-one (sym (short_both (model_of c) c.limit_is c.some_span w m x y n a b g k f l));
      }
