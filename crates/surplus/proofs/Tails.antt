-- The rows of a chain, from its end: one wire more and one row more.
use Prim.Native.Nat.{ℕ, zero, suc, ◌+◌, ◌*◌, ◌≤◌, ◌<◌, min}
use mathlib.Core.Path.{◌≡◌, refl, sym, subst}
use mathlib.Core.List.{List}
use native.Mathlib.Omega.{arith}
use lib.ListN.{get_or}
use Rattle.rules.specs.Figures.{most_places, most_children}
use Rattle.rules.specs.Tree.{Hanging, none, sink, branch}
use Rattle.frontier.specs.Cell.{Cell}
use Rattle.frontier.specs.Frontier.{has, Acc, fail, all, acc, width}
use Rattle.surplus.specs.declared.Slot.{Slot}
use Rattle.surplus.specs.Rows.{load_at, Mixed, SmallAcc, RowIs}
use Rattle.surplus.specs.Wires.{Alive, More, first, rest, tip, Ordered, Each}
use Rattle.surplus.specs.Pairs.{PairOf, NearOf}
use Rattle.surplus.specs.Links.{Chain}
use Rattle.surplus.specs.Tables.{next_at, lo_at, hi_at, zero_at, one_at, count_at}
use Rattle.surplus.specs.Asks.{SmallTip, Smalls, Runs, Rows, CloseIs, ClosedIs, AsksClose, to_end}
use Rattle.surplus.proofs.Chains.{Split, split, rest_alive, chain_none, chain_more, chain_first, chain_rest, kept_loads, each_rest, ordered_rest, width_rest}
use Rattle.surplus.proofs.Spreading.{spread_none, spread_row, spread_more}

smalls_tip : (τ : Cell) (p : ℕ) (x : Hanging) → More x → Smalls τ p x → SmallTip (tip τ p x)
smalls_tip τ p none h s = absurd h
smalls_tip τ p (sink i w c q r) h s = s.0
smalls_tip τ p (branch i w f r) h s = s.0

smalls_acc : (τ : Cell) (p : ℕ) (x : Hanging) → More x → Smalls τ p x → SmallAcc (acc τ (rest x) p)
smalls_acc τ p none h s = absurd h
smalls_acc τ p (sink i w c q r) h s = s.1
smalls_acc τ p (branch i w f r) h s = s.1

smalls_rest : (τ : Cell) (p : ℕ) (x : Hanging) → More x → Smalls τ p x → Smalls τ p (rest x)
smalls_rest τ p none h s = absurd h
smalls_rest τ p (sink i w c q r) h s = s.2
smalls_rest τ p (branch i w f r) h s = s.2

ordered_up : (lo lo' : ℕ) (x : Hanging) → lo ≤ lo' → Ordered lo' x → Ordered lo x
ordered_up lo lo' none h o = tt
ordered_up lo lo' (sink i w c s r) h o = (omega (arith, o.0), o.1)
ordered_up lo lo' (branch i w f r) h o = (omega (arith, o.0), o.1)

falls : (τ : Cell) (next lo hi : ℕ → ℕ) (p k l : ℕ) (y : Hanging) → Chain τ next lo hi p l y → Ordered (suc k) y → k < most_places → (k ≡ 0 → ⊥) → to_end l < to_end k
falls τ next lo hi p zero l y c o h ne = absurd (ne refl)
falls τ next lo hi p (suc k) zero y c o h ne = omega arith
falls τ next lo hi p (suc k) (suc l) none c o h ne = absurd (omega arith)
falls τ next lo hi p (suc k) (suc l) (sink i v q s r) c o h ne = omega (arith, c.0, o.0)
falls τ next lo hi p (suc k) (suc l) (branch i v g r) c o h ne = omega (arith, c.0, o.0)

pub rows_row : (τ : Cell) (t : List ℕ) (p m : ℕ) (f : Hanging) → Rows τ t p m f → RowIs (load_at t (m * m) (m * 2)) (acc τ f p)
rows_row τ t p m f r =
    let e : 2 * m ≡ m * 2 = omega arith in
    subst (λ (k : ℕ). RowIs (load_at t (m * m) k) (acc τ f p)) e (subst (λ (k : ℕ). RowIs (load_at t (k * k) (2 * k)) (acc τ f p)) r.wide (spread_row τ t p f r.spread))

module _ {τ : Cell} {links : List ℕ} {slots : List Slot} {p k : ℕ} {f : Hanging} (a : Runs τ links slots p k f) where
  pub runs_low : k < most_places
  runs_low = go f a.chain a.low
    where
      go : (x : Hanging) → Chain τ (next_at links) (lo_at slots p) (hi_at slots p) p k x → Each (λ j. j < most_places) x → k < most_places
      go none c l = omega (arith, c)
      go (sink i w q s r) c l = omega (arith, c.0, l.0)
      go (branch i w g r) c l = omega (arith, c.0, l.0)

  -- no wire
  pub runs_none : k ≡ 0 → f ≡ none
  runs_none = chain_none τ (next_at links) (lo_at slots p) (hi_at slots p) p k f a.chain

  pub rows_none : (t : List ℕ) → k ≡ 0 → get_or t 0 0 ≡ 0 → Rows τ t p 0 f
  rows_none t z q = subst (Rows τ t p 0) (sym (runs_none z)) (record { wide = refl; spread = spread_none τ t p q })

  -- a wire and those after it
  module _ (ne : k ≡ 0 → ⊥) where
    pub more : More f
    more = chain_more τ (next_at links) (lo_at slots p) (hi_at slots p) p k f a.chain ne

    pub is_first : first f ≡ k
    is_first = chain_first τ (next_at links) (lo_at slots p) (hi_at slots p) p k f a.chain ne

    next_chain : Chain τ (next_at links) (lo_at slots p) (hi_at slots p) p (next_at links k) (rest f)
    next_chain = chain_rest τ (next_at links) (lo_at slots p) (hi_at slots p) p k f a.chain ne

    -- l is the next
    module _ (l : ℕ) (q : l ≡ next_at links k) where
      pub tail_runs : Runs τ links slots p l (rest f)
      tail_runs = rw q (record {
        chain = next_chain;
        live = rest_alive τ p f more a.live;
        order = ordered_up 1 (suc (first f)) (rest f) (omega arith) (ordered_rest 1 f more a.order);
        low = each_rest (λ j. j < most_places) f more a.low;
        smalls = smalls_rest τ p f more a.smalls;
        few = omega (arith, a.few, width_rest f more);
      })

      pub tail_falls : to_end l < to_end k
      tail_falls =
          let o : Ordered (suc k) (rest f) = subst (λ (j : ℕ). Ordered (suc j) (rest f)) is_first (ordered_rest 1 f more a.order) in
          falls τ (next_at links) (lo_at slots p) (hi_at slots p) p k l (rest f) (rw q next_chain) o runs_low ne

    pub worth : Split τ p f
    worth = split τ p f more a.live

    pub own : (lo_at slots p k ≡ worth.a) × (hi_at slots p k ≡ worth.b)
    own = kept_loads τ (next_at links) (lo_at slots p) (hi_at slots p) p k f worth.m worth.a worth.b a.chain ne worth.own

    pub wire_small : (lo_at slots p k ≤ 1000000) × (hi_at slots p k ≤ 1000000)
    wire_small =
        let s : SmallTip (has worth.m worth.a worth.b) = subst SmallTip worth.own (smalls_tip τ p f more a.smalls) in
        (omega (arith, own.0, s.0), omega (arith, own.1, s.1))

    -- the row of the wires after it
    module _ (t : List ℕ) (m : ℕ) (r : Rows τ t p m (rest f)) where
      pub tail_few : m < most_children
      tail_few = omega (arith, r.wide, width_rest f more, a.few)

      pub tail_small : (e : ℕ) → load_at t (m * m) (m * 2) e ≤ 2000000000
      tail_small e = go (acc τ (rest f) p) (rows_row τ t p m (rest f) r) (smalls_acc τ p f more a.smalls)
        where
          go : (z : Acc) → RowIs (load_at t (m * m) (m * 2)) z → SmallAcc z → load_at t (m * m) (m * 2) e ≤ 2000000000
          go fail y s = absurd y
          go (all M g) y s = omega (arith, y e, s.1 e)

      pub rows_more : (u : List ℕ) → Mixed t u (m * m) (m * 2) ((m + 1) * (m + 1)) (lo_at slots p k) (hi_at slots p k) (min (lo_at slots p k) τ.cb) → Rows τ u p (m + 1) f
      rows_more u x =
          let e : m * 2 ≡ 2 * m = omega arith in
          let d : m + 1 ≡ suc m = omega arith in
          let y : Mixed t u (m * m) (2 * m) (suc m * suc m) worth.a worth.b (min worth.a τ.cb) = rw (sym own.0, sym own.1, sym d, sym e) x in
          record {
            wide = omega (arith, width_rest f more, r.wide);
            spread = spread_more τ t u p f worth.m worth.a worth.b more a.live worth.own r.spread
                (subst (λ (z : ℕ). Mixed t u (z * z) (2 * z) (suc z * suc z) worth.a worth.b (min worth.a τ.cb)) (sym r.wide) y);
          }

-- ---- the node's state out of its row
pub rows_close : (τ : Cell) (t : List ℕ) (p m h h₁ o : ℕ) (f : Hanging) → Rows τ t p m f → CloseIs τ t m h h₁ o → ClosedIs τ p f h h₁ o
rows_close τ t p m h h₁ o f r c =
    let e : m * 2 ≡ 2 * width f = omega (arith, r.wide) in
    subst (λ (k : ℕ). NearOf τ k (acc τ f p) h h₁ o) e (c (acc τ f p) (rows_row τ t p m f r))

-- a slot that counts is of wires that each have a state
slot_alive : (c x y : ℕ) (z : Acc) → PairOf c x y z → (c ≡ 0 → ⊥) → Alive z
slot_alive c x y fail q ne = ne q
slot_alive c x y (all m g) q ne = tt

module _ {τ : Cell} {links : List ℕ} {slots : List Slot} {p k : ℕ} {f : Hanging} (a : AsksClose τ links slots p k f) where
  module _ (ne : count_at slots p k ≡ 0 → ⊥) where
    pub close_runs : Runs τ links slots p k f
    close_runs = a.runs (slot_alive (count_at slots p k) (zero_at slots p k) (one_at slots p k) (acc τ f p) a.slot ne)
