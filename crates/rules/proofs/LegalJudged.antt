-- A placement passes its judgement exactly where it is legal: each of the three walks (10, 11, 12) is Sound just where what it tests holds at every step.
use Rattle.std.specs.Prelude.{Ok}
use Prim.Native.Nat.{ℕ, zero, suc, ◌+◌, ◌-◌, ◌≤◌, ◌<◌}
use mathlib.Core.Path.{◌≡◌, refl, sym, ◌∙◌}
use mathlib.Core.Bool.{Bool, true, false}
use mathlib.Core.List.{List, [], ◌∷◌}
use native.Mathlib.Omega.{arith}
use native.Mathlib.Decide.{ℕ_discrete}
use lib.Dec.{eqb, ltb, leb}
use borrow.Author.Tests.{eqb-true, ltb-true, leb-true, eq-eqb, ne_eqb, lt-ltb, le-ltb, le-leb}
use Rattle.rules.specs.declared.Entry.{Entry}
use Rattle.rules.specs.declared.Refusal.TheVariants.{Misplaced, Overloaded, WrongParity}
use Rattle.rules.specs.Choose.{pick, both}
use Rattle.rules.specs.Net.{Net, places, wire, kind}
use Rattle.rules.specs.Load.{offsets_on, drivers}
use Rattle.rules.specs.Legal.{Each, After, higher, further, Stands, InOrder, start, sense, OneSense, Legal}
use Rattle.rules.specs.Judge.{unless, then_judge}
use Rattle.rules.specs.Checked.{on_its_wire, not_lower, placed_from, within_limit, first_sink, has_sense, one_sense, placement_judged}
use Rattle.rules.proofs.Tests.{both_met, both_true, unless_met, then_met}
use Rattle.rules.proofs.Each.{each_met, each_sound}
use Rattle.rules.proofs.Judging.{unless_true, then_both, Only, only_sound, unless_only, then_only, each_only, Tests}

-- ---- 10

on_wire_lem : (n : Net) (e : Entry) → on_its_wire n e ≡ true → Stands n e
on_wire_lem n e x =
    let (a, y) = both_met (ltb 0 e.wire) (both (ltb e.wire (places n)) (leb e.offset (wire n e.wire))) x in
    let (b, c) = both_met (ltb e.wire (places n)) (leb e.offset (wire n e.wire)) y in
    record { above = ltb-true 0 e.wire a; within = ltb-true e.wire (places n) b; offset = leb-true e.offset (wire n e.wire) c }

stands_on : (n : Net) (e : Entry) → Stands n e → on_its_wire n e ≡ true
stands_on n e s = both_true (lt-ltb 0 e.wire s.above) (both_true (lt-ltb e.wire (places n) s.within) (le-leb e.offset (wire n e.wire) s.offset))

not_lower_lem : (d e : Entry) → not_lower d e ≡ true → After d e
not_lower_lem d e x = go (ltb d.wire e.wire) refl x
  where
    go : (z : Bool) → ltb d.wire e.wire ≡ z → pick z true (both (eqb d.wire e.wire) (leb d.offset e.offset)) ≡ true → After d e
    go true l y = higher (ltb-true d.wire e.wire l)
    go false l y =
        let (a, b) = both_met (eqb d.wire e.wire) (leb d.offset e.offset) y in
        further (eqb-true d.wire e.wire a) (leb-true d.offset e.offset b)

after_not_lower : (d e : Entry) → After d e → not_lower d e ≡ true
after_not_lower d e (higher h) = rw (lt-ltb d.wire e.wire h)
after_not_lower d e (further h l) = rw (le-ltb d.wire e.wire (omega arith), eq-eqb d.wire e.wire h, le-leb d.offset e.offset l)

pub placed_order : (n : Net) (d : Entry) (k : ℕ) (p : List Entry) → placed_from n d k p ≡ (Ok tt) → InOrder n d p
unfolding placed_from
placed_order n d k [] x = tt
placed_order n d k (e ∷ es) x =
    let (here, rest) = then_met (unless (both (on_its_wire n e) (not_lower d e)) (Misplaced k)) (placed_from n e (suc k) es) x in
    let (a, b) = both_met (on_its_wire n e) (not_lower d e) (unless_met _ (Misplaced k) here) in
    (not_lower_lem d e b, on_wire_lem n e a, placed_order n e (suc k) es rest)

order_placed : (n : Net) (d : Entry) (k : ℕ) (p : List Entry) → InOrder n d p → placed_from n d k p ≡ (Ok tt)
unfolding placed_from
order_placed n d k [] x = refl
order_placed n d k (e ∷ es) x = then_both (unless_true (both_true (stands_on n e x.1) (after_not_lower d e x.0)) (Misplaced k)) (order_placed n e (suc k) es x.2)

placed_ten : (n : Net) (d : Entry) (k : ℕ) (p : List Entry) → Only (λ c. c ≡ 10) (placed_from n d k p)
unfolding placed_from
placed_ten n d k [] = only_sound
placed_ten n d k (e ∷ es) =
    let here : Bool = both (on_its_wire n e) (not_lower d e) in
    then_only (unless here (Misplaced k)) (placed_from n e (suc k) es) (unless_only here (Misplaced k) refl) (placed_ten n e (suc k) es)

pub order_tested : (n : Net) (p : List Entry) → Tests (placed_from n start 0 p) (InOrder n start p) 10
order_tested n p = record { exactly = (placed_order n start 0 p, order_placed n start 0 p); by = placed_ten n start 0 p }

-- ---- 11

within_each : (limit k : ℕ) (loads : List ℕ) → within_limit limit k loads ≡ (Ok tt) → Each (λ load. load ≤ limit) loads
unfolding within_limit
within_each limit k [] x = tt
within_each limit k (load ∷ loads) x =
    let (here, rest) = then_met (unless (leb load limit) (Overloaded k)) (within_limit limit (suc k) loads) x in
    (leb-true load limit (unless_met _ (Overloaded k) here), within_each limit (suc k) loads rest)

each_within : (limit k : ℕ) (loads : List ℕ) → Each (λ load. load ≤ limit) loads → within_limit limit k loads ≡ (Ok tt)
unfolding within_limit
each_within limit k [] x = refl
each_within limit k (load ∷ loads) x = then_both (unless_true (le-leb load limit x.0) (Overloaded k)) (each_within limit (suc k) loads x.1)

within_eleven : (limit k : ℕ) (loads : List ℕ) → Only (λ c. c ≡ 11) (within_limit limit k loads)
unfolding within_limit
within_eleven limit k [] = only_sound
within_eleven limit k (load ∷ loads) =
    then_only (unless (leb load limit) (Overloaded k)) (within_limit limit (suc k) loads) (unless_only (leb load limit) (Overloaded k) refl) (within_eleven limit (suc k) loads)

pub loads_tested : (limit : ℕ) (loads : List ℕ) → Tests (within_limit limit 0 loads) (Each (λ load. load ≤ limit) loads) 11
loads_tested limit loads = record { exactly = (within_each limit 0 loads, each_within limit 0 loads); by = within_eleven limit 0 loads }

-- ---- 12
module _ (n : Net) (offs : ℕ → List ℕ) where
  sense_met : (s i : ℕ) → has_sense n offs s i ≡ (Ok tt) → kind n i ≡ 1 → sense n offs i ≡ s
  sense_met s i x z = eqb-true (sense n offs i) s (rw (eq-eqb (kind n i) 1 z) at (unless_met (pick (eqb (kind n i) 1) (eqb (sense n offs i) s) true) (WrongParity i) x))

  sense_sound : (s i : ℕ) → (kind n i ≡ 1 → sense n offs i ≡ s) → has_sense n offs s i ≡ (Ok tt)
  sense_sound s i h = elim (ℕ_discrete (kind n i) 1) [
    | yes q ↦ rw (eq-eqb (kind n i) 1 q, eq-eqb (sense n offs i) s (h q))
    | no q ↦ rw (ne_eqb (kind n i) 1 q)
  ]

  -- where there is a sink among k nodes from i on, the first is one
  first_is_sink : (k i j : ℕ) → i ≤ j → j < i + k → kind n j ≡ 1 → (i ≤ first_sink n k i) × (first_sink n k i < i + k) × (kind n (first_sink n k i) ≡ 1)
  unfolding first_sink
  first_is_sink zero i j lo hi z = absurd (omega arith)
  first_is_sink (suc k) i j lo hi z = elim (ℕ_discrete (kind n i) 1) [
    | yes q ↦ rw (eq-eqb (kind n i) 1 q) (omega arith, omega arith, q)
    | no q ↦ rw (ne_eqb (kind n i) 1 q) (later (elim (ℕ_discrete j i) [ yes e ↦ absurd (q (rw e at z)) | no e ↦ first_is_sink k (suc i) j (omega arith) (omega arith) z ]))
  ]
    where
      later : (suc i ≤ first_sink n k (suc i)) × (first_sink n k (suc i) < suc i + k) × (kind n (first_sink n k (suc i)) ≡ 1)
          → (i ≤ first_sink n k (suc i)) × (first_sink n k (suc i) < i + suc k) × (kind n (first_sink n k (suc i)) ≡ 1)
      later (a, b, c) = (omega arith, omega arith, c)

  abbrev lowest : ℕ
  lowest = first_sink n (places n - 1) 1

  -- no sink at all
  pub no_sinks : 1 ≤ places n → places n ≤ lowest → one_sense n offs ≡ (Ok tt)
  no_sinks a b =
      each_sound (has_sense n offs (sense n offs lowest)) (places n - 1) 1
      (λ j lo hi. sense_sound (sense n offs lowest) j (λ z. absurd (omega (arith, (first_is_sink (places n - 1) 1 j lo hi z).1))))

  sense_one : one_sense n offs ≡ (Ok tt) → OneSense n offs
  sense_one x = record {
    one = sense n offs lowest;
    same = λ i s. sense_met (sense n offs lowest) i (each_met (has_sense n offs (sense n offs lowest)) (places n - 1) 1 x i s.node (omega (arith, s.within, s.node))) s.sink;
  }

  pub one_sense_lem : OneSense n offs → one_sense n offs ≡ (Ok tt)
  one_sense_lem o = each_sound (has_sense n offs (sense n offs lowest)) (places n - 1) 1 (λ j lo hi. sense_sound (sense n offs lowest) j (as_lowest j lo hi))
    where
      as_lowest : (j : ℕ) → 1 ≤ j → j < 1 + (places n - 1) → kind n j ≡ 1 → sense n offs j ≡ sense n offs lowest
      as_lowest j lo hi z =
          let (a, b, c) = first_is_sink (places n - 1) 1 j lo hi z in
          o.same j (record { node = lo; within = omega arith; sink = z }) ∙ sym (o.same lowest (record { node = a; within = omega arith; sink = c }))

  pub senses_tested : Tests (one_sense n offs) (OneSense n offs) 12
  senses_tested =
      let s : ℕ = sense n offs lowest in
      record {
        exactly = (sense_one, one_sense_lem);
        by = each_only (has_sense n offs s) (places n - 1) 1 (λ i. unless_only (pick (eqb (kind n i) 1) (eqb (sense n offs i) s) true) (WrongParity i) refl);
      }

-- ---- the whole
pub judged_legal : (n : Net) (p : List Entry) → placement_judged n p ≡ (Ok tt) → Legal n p
unfolding placement_judged
judged_legal n p x =
    let (a, y) = then_met (placed_from n start 0 p) (then_judge (within_limit n.limits.limit 0 (drivers n p)) (one_sense n (offsets_on p))) x in
    let (b, c) = then_met (within_limit n.limits.limit 0 (drivers n p)) (one_sense n (offsets_on p)) y in
    record { stands = placed_order n start 0 p a; loads = within_each n.limits.limit 0 (drivers n p) b; parity = sense_one n (offsets_on p) c }

pub legal_judged : (n : Net) (p : List Entry) → Legal n p → placement_judged n p ≡ (Ok tt)
unfolding placement_judged
legal_judged n p l = then_both (order_placed n start 0 p l.stands) (then_both (each_within n.limits.limit 0 (drivers n p) l.loads) (one_sense_lem n (offsets_on p) l.parity))
