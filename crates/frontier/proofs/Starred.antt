-- The starred nets: the counts by computing the frontier, and the offsets from what legal means on so small a tree.
use Rattle.std.specs.Prelude.{Ok}
use Prim.Native.Nat.{ℕ, zero, suc, ◌+◌, ◌-◌, ◌≤◌}
use mathlib.Core.Path.{◌≡◌, refl, subst}
use mathlib.Core.List.{List, [], ◌∷◌}
use lib.ListN.{length, get_or}
use native.Mathlib.Omega.{arith}
use native.Mathlib.Decide.{ℕ_discrete}
use Rattle.rules.specs.declared.Entry.{Entry}
use Rattle.rules.specs.Net.{Net}
use Rattle.rules.specs.Tree.{hanging, tree}
use Rattle.rules.specs.Load.{offsets_on, hands_up}
use Rattle.rules.specs.Legal.{higher, further, Legal, Least, NoneLegal}
use Rattle.rules.specs.Judge.{judge_each, children, judged}
use Rattle.rules.specs.Sound.{SoundNet}
use Rattle.rules.proofs.SoundSays.{sound_says}
use Rattle.frontier.specs.Cell.{cell_of}
use Rattle.frontier.specs.Frontier.{State, lost, has, root, ceil, req, second, cand, via, wire, conv, join, close_at, close, leaf, acc}
use Rattle.frontier.specs.Starred.{limits, plus, minus, net_of, on, AnyOffset, TwoOnOne, Carry, starred, AllSay, done, ◌and◌}
use Rattle.frontier.proofs.Lower.{top_w_thick}
use Rattle.frontier.proofs.LeastCount.{legal_settles, count_is_length, settled_is_legal, least_if_has, none_if_lost}

-- the count that the frontier answers and one more, or 0
abbrev answered : State → ℕ
answered lost = 0
answered (has k a b) = suc k

counted : {n : Net} {k : ℕ} → judged n ≡ Ok tt → answered (root (cell_of n.limits) (tree n)) ≡ suc k → Least n k
counted {n} {k} s = go (root (cell_of n.limits) (tree n)) refl
  where
    go : (st : State) → root (cell_of n.limits) (tree n) ≡ st → answered st ≡ suc k → Least n k
    go lost e h = absurd (omega arith)
    go (has m a b) e h = let q : m ≡ k = omega arith in rw q at (least_if_has (sound_says n s) m a b e)

none_legal : {n : Net} → judged n ≡ Ok tt → answered (root (cell_of n.limits) (tree n)) ≡ 0 → NoneLegal n
none_legal {n} s = go (root (cell_of n.limits) (tree n)) refl
  where
    go : (st : State) → root (cell_of n.limits) (tree n) ≡ st → answered st ≡ 0 → NoneLegal n
    go lost e h = none_if_lost (sound_says n s) e
    go (has m a b) e h = absurd (omega arith)

-- ---- one buffer on one wire of size w over a pin c
abbrev wire_over : ℕ → ℕ → Net
wire_over w c = net_of (limits 0 10 2) (plus 0 w c ∷ [])

record Fits (w c o : ℕ) : Type 0 where
  inside : o ≤ w
  driven : o + c ≤ 10
  up : (w - o) + 2 ≤ 10

fits_legal : (w c : ℕ) → SoundNet (wire_over w c) → (o : ℕ) → Fits w c o → Legal (wire_over w c) (on 1 o ∷ [])
unfolding hanging offsets_on hands_up
fits_legal w c s o f = settled_is_legal s (on 1 o ∷ []) 0 (higher (omega arith), omega arith, tt) (omega arith)

legal_fits : (w c : ℕ) → SoundNet (wire_over w c) → (o : ℕ) → Legal (wire_over w c) (on 1 o ∷ []) → Fits w c o
unfolding hanging offsets_on hands_up
legal_fits w c s o l =
    let t = legal_settles s (on 1 o ∷ []) l in
    record { inside = t.good.0.2; driven = omega (arith, t.good.0.1); up = omega (arith, t.fits) }

-- where one entry is legal it stands on wire 1
on_wire_1 : (w c : ℕ) (p : List Entry) → Legal (wire_over w c) p → length p ≡ 1 → (o : ℕ) × (p ≡ on 1 o ∷ [])
on_wire_1 w c [] l e = absurd (omega arith)
on_wire_1 w c (e ∷ []) l _ =
    let q : e.wire ≡ 1 = omega (arith, l.stands.1.above, l.stands.1.within) in
    (e.offset, λ ι. record { wire = q ι; offset = e.offset } ∷ [])
on_wire_1 w c (e ∷ e' ∷ es) l h = absurd (omega arith)

any_offset_lem : (w c first last : ℕ) → SoundNet (wire_over w c) → Least (wire_over w c) 1 → ((o : ℕ) → first ≤ o → o ≤ last → Fits w c o) → ((o : ℕ) → Fits w c o → (first ≤ o) × (o ≤ last))
    → AnyOffset (wire_over w c) first last
any_offset_lem w c first last s k fit bound = record {
  count = k;
  any = λ o a b. fits_legal w c s o (fit o a b);
  only = λ p l e.
      let x : (o : ℕ) × (p ≡ on 1 o ∷ []) = on_wire_1 w c p l e in
      let y : (first ≤ x.0) × (x.0 ≤ last) = bound x.0 (legal_fits w c s x.0 (subst (Legal (wire_over w c)) x.1 l)) in
      (x.0, y.0, y.1, x.1);
}

-- ---- two inverters on one wire: without any on one of the wires the source would drive 11 or 12
abbrev apart : Net
apart = net_of (limits 1 10 2) (minus 0 0 10 ∷ plus 0 0 9 ∷ [])

thick : (os : List ℕ) (o : ℕ) → 2 ≤ hands_up 2 0 o 2 os
thick os o = top_w_thick (cell_of (limits 1 10 2)) (omega arith) (omega arith) 0 o os

both_wires : (x y : List ℕ) → hands_up 2 0 0 10 x + hands_up 2 0 0 9 y ≤ 10 → length x + length y ≡ 3 → (1 ≤ length x) × (1 ≤ length y)
unfolding hands_up
both_wires [] [] h e = absurd (omega arith)
both_wires [] (o ∷ y) h e = absurd (omega (arith, thick y o))
both_wires (o ∷ x) [] h e = absurd (omega (arith, thick x o))
both_wires (o ∷ x) (o' ∷ y) h e = (omega arith, omega arith)

two_on_one_lem : SoundNet apart → Least apart 3 → TwoOnOne apart 3
unfolding hanging
two_on_one_lem s k = record {
  count = k;
  two = λ p l e.
      let x : List ℕ = offsets_on p 1 in
      let y : List ℕ = offsets_on p 2 in
      let three : length x + length y ≡ 3 = omega (arith, count_is_length s p l.stands) in
      let b : (1 ≤ length x) × (1 ≤ length y) = both_wires x y (omega (arith, (legal_settles s p l).fits)) three in
      elim (ℕ_discrete (length x) 2) [ yes q ↦ (1, q) | no ne ↦ (2, omega arith) ];
}

-- ---- the carry
eased : (a b i : ℕ) → b ≤ a → get_or (0 ∷ b ∷ []) i 0 ≤ get_or (0 ∷ a ∷ []) i 0
eased a b zero h = omega arith
eased a b (suc zero) h = h
eased a b (suc (suc i)) h = omega arith

carried_over : SoundNet (wire_over 15 4) → Carry (wire_over 15 4) (wire_over 10 4) (on 1 6 ∷ on 1 14 ∷ []) (on 1 6 ∷ on 1 10 ∷ [])
unfolding hanging offsets_on hands_up
carried_over s = record {
  eases = record {
    limit = omega arith;
    pin = omega arith;
    repeater = refl;
    parents = refl;
    kinds = refl;
    polarities = refl;
    wires = λ i. eased 15 10 i (omega arith);
    pins = λ i. eased 4 4 i (omega arith);
  };
  legal = settled_is_legal s (on 1 6 ∷ on 1 14 ∷ []) 0 (higher (omega arith), omega arith, (further refl (omega arith), omega arith, tt)) (omega arith);
  is = refl;
}

pub starred_say : AllSay starred
unfolding judged judge_each children hanging ceil req second cand via wire conv join close_at close leaf acc
starred_say =
    counted refl refl
    and any_offset_lem 7 4 0 6 (sound_says _ refl) (counted refl refl) (omega arith) (omega arith)
    and any_offset_lem 14 4 6 6 (sound_says _ refl) (counted refl refl) (omega arith) (omega arith)
    and counted refl refl
    and counted refl refl
    and counted refl refl
    and none_legal refl refl
    and counted refl refl
    and none_legal refl refl
    and counted refl refl
    and counted refl refl
    and two_on_one_lem (sound_says _ refl) (counted refl refl)
    and counted refl refl
    and carried_over (sound_says _ refl)
    and done
