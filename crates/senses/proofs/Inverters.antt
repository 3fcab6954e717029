-- The inverters from the source to a node are those on its own wire and those down to its parent: as many steps upward as the node's number are enough.
use Rattle.std.specs.Prelude.{Ok}
use Prim.Native.Nat.{ℕ, zero, suc, ◌+◌, ◌*◌, ◌≤◌, ◌<◌}
use mathlib.Core.Path.{◌≡◌, refl, sym, ap, ◌∙◌}
use mathlib.Core.Bool.{Bool, false, not, beq}
use mathlib.Core.List.{List, [], ◌∷◌}
use native.Mathlib.Omega.{arith}
use native.Mathlib.Decide.{ℕ_discrete}
use borrow.Author.Count.{below_more}
use borrow.Author.Tests.{eq-eqb, ne_eqb}
use lib.ListN.{length, get_or, set, length-set, length-append}
use lib.Seq.{get_or-set_same, get_or-set_other}
use Rattle.rules.specs.Figures.{most_places}
use Rattle.rules.specs.Net.{Net, places, parent}
use Rattle.rules.specs.Legal.{on_the_way, inverters}
use Rattle.rules.specs.Sound.{SoundNet}
use Rattle.rules.specs.Load.{entries, offsets_on}
use Rattle.rules.specs.Checked.{one_sense}
use Rattle.load.specs.Tables.{Clear}
use Rattle.load.proofs.Parts.{offsets_to, offsets_more, offsets_same}
use Rattle.senses.specs.Parity.{is_odd, Counted, Turned}
use Rattle.senses.proofs.Odd.{odd_next, odd_sum}
use Rattle.rules.proofs.LegalJudged.{one_sense_lem}

module _ {n : Net} (s : SoundNet n) (offs : ℕ → List ℕ) where
  steps : (k m i : ℕ) → i ≤ k → i ≤ m → i < places n → on_the_way n offs k i ≡ on_the_way n offs m i
  unfolding on_the_way
  steps zero zero i a b w = refl
  steps zero (suc m) i a b w = rw (eq-eqb i 0 (omega arith))
  steps (suc k) zero i a b w = rw (eq-eqb i 0 (omega arith))
  steps (suc k) (suc m) i a b w = elim (ℕ_discrete i 0) [
    | yes e ↦ rw (eq-eqb i 0 e)
    | no ne ↦ (
        let l : parent n i < i = s.lower i (omega arith) w in
        rw (ne_eqb i 0 ne) (ap (λ (x : ℕ). length (offs i) + x) (steps k m (parent n i) (omega arith) (omega arith) (omega arith)))
        )
  ]

  way_first : (k : ℕ) → on_the_way n offs (suc k) (suc k) ≡ length (offs (suc k)) + on_the_way n offs k (parent n (suc k))
  unfolding on_the_way
  way_first k = rw (ne_eqb (suc k) 0 (λ e. omega arith))

  way_on : (i : ℕ) → 1 ≤ i → i < places n → on_the_way n offs i i ≡ length (offs i) + on_the_way n offs (parent n i) (parent n i)
  way_on zero a w = absurd (omega arith)
  way_on (suc k) a w =
      let l : parent n (suc k) < suc k = s.lower (suc k) a w in
      way_first k ∙ ap (λ (x : ℕ). length (offs (suc k)) + x) (steps k (parent n (suc k)) (parent n (suc k)) (omega arith) (omega arith) (omega arith))

  pub inverters_on : (i : ℕ) → 1 ≤ i → i < places n → inverters n offs i ≡ n.limits.repeater * length (offs i) + inverters n offs (parent n i)
  unfolding inverters
  inverters_on i a w = rw (way_on i a w) (omega arith)

  pub inverters_none : inverters n offs 0 ≡ 0
  unfolding inverters on_the_way
  inverters_none = omega arith

  -- the table is right below i
  pub turned_none : (odd : List Bool) → length odd ≡ most_places → Turned n offs 1 (set odd 0 false)
  turned_none odd h = record {
    long = simp length-set h;
    at = λ i l. let e : i ≡ 0 = omega arith in rw (e, inverters_none) (get_or-set_same odd 0 false false (omega arith));
  }

  pub counted_none : (odd : List Bool) → Counted offs 0 odd → Counted offs 1 (set odd 0 false)
  counted_none odd t = record { long = simp length-set t.long; at = λ j l. get_or-set_other odd 0 j false false (λ e. omega arith) ∙ t.at j (omega arith) }

  module _ {odd : List Bool} {i : ℕ} (t : Turned n offs i odd) (own : Counted offs i odd) (a : 1 ≤ i) (w : i < places n) where
    pub counted_more : (r : Bool) → Counted offs (i + 1) (set odd i r)
    counted_more r = record { long = simp length-set own.long; at = λ j l. get_or-set_other odd i j r false (λ e. omega arith) ∙ own.at j (omega arith) }

    pub turned_more : (r : Bool) → n.limits.repeater ≡ 1 → r ≡ not (beq (get_or odd i false) (get_or odd (parent n i) false)) → Turned n offs (i + 1) (set odd i r)
    turned_more r u e = record {
      long = simp length-set t.long;
      at = below_more _ i
          (λ j l. get_or-set_other odd i j r false (λ q. omega arith) ∙ t.at j l)
          (get_or-set_same odd i r false (omega (arith, t.long, s.few)) ∙ here);
    }
      where
        once : (m k x y : ℕ) → m ≡ 1 → y ≡ m * k + x → y ≡ k + x
        once m k x y u e = e ∙ rw u (omega arith)

        here : r ≡ is_odd (inverters n offs i)
        here =
            let l : parent n i < i = s.lower i a w in
            let o : inverters n offs i ≡ length (offs i) + inverters n offs (parent n i) = once _ _ _ _ u (inverters_on i a w) in
            e ∙ rw (own.at i (omega arith), t.at (parent n i) l, o) (sym (odd_sum (length (offs i)) (inverters n offs (parent n i))))

-- buffers invert nothing, and every polarity is 0 beside them
pub buffers_agree : {n : Net} → SoundNet n → n.limits.repeater ≡ 0 → (offs : ℕ → List ℕ) → one_sense n offs ≡ (Ok tt)
unfolding inverters
buffers_agree {n} s z offs = one_sense_lem n offs (record { one = 0; same = λ i k. rw z (omega (arith, s.polarity_most i)) })

-- ---- the inverters on each wire, of the first k entries
pub counted_clear : (vs os : List ℕ) (odd : List Bool) → Clear false odd → Counted (offsets_to vs os 0) 0 odd
unfolding entries offsets_on
counted_clear vs os odd c = record { long = c.long; at = λ i l. c.none i }

module _ (vs os : List ℕ) (k : ℕ) {odd : List Bool} (t : Counted (offsets_to vs os k) 0 odd) where
  pub counted_entry : length os ≡ length vs → k < length vs → get_or vs k 0 < most_places → Counted (offsets_to vs os (k + 1)) 0 (set odd (get_or vs k 0) (not (get_or odd (get_or vs k 0) false)))
  counted_entry e h w =
      let on : ℕ = get_or vs k 0 in
      let x : Bool = not (get_or odd on false) in
      record {
        long = simp length-set t.long;
        at = λ i l. elim (ℕ_discrete on i) [
          | yes q ↦ rw (← q) (get_or-set_same odd on x false (omega (arith, t.long)) ∙ rw (offsets_more vs os k e h on refl, length-append (offsets_to vs os k on) (get_or os k 0 ∷ [])) (ap not (t.at on (omega arith)) ∙ sym (odd_next (length (offsets_to vs os k on)))))
          | no q ↦ get_or-set_other odd on i x false (λ z. q (sym z)) ∙ t.at i l ∙ sym (rw (offsets_same vs os k e h i q))
        ];
      }
