-- The lowest-numbered sink is at the first 1 among the kinds.
use Rattle.std.specs.Prelude.{Some, None, position}
use Rattle.std.specs.List.{position_or_len}
use Prim.Native.Nat.{ℕ, suc, ◌+◌, ◌-◌, ◌≤◌, ◌<◌}
use mathlib.Core.Path.{◌≡◌, refl, ◌∙◌}
use mathlib.Core.Bool.{Bool}
use mathlib.Core.List.{List, [], ◌∷◌}
use native.Mathlib.Omega.{arith}
use native.Mathlib.Decide.{ℕ_discrete, dec_lt}
use lib.Dec.{eqb}
use lib.ListN.{length, get_or}
use borrow.Author.Tests.{eq-eqb, ne_eqb, lt-ltb, le-ltb}
use Rattle.rules.specs.Net.{Net, places, kind}
use Rattle.rules.specs.Sound.{SoundNet}
use Rattle.rules.specs.Checked.{first_sink}

abbrev pub is_sink : ℕ → Bool
is_sink k = eqb k 1

-- among the nodes from i on, whose kinds are ks
sinks_from : (n : Net) (ks : List ℕ) (i : ℕ) → ((j : ℕ) → j < length ks → kind n (i + j) ≡ get_or ks j 0) → first_sink n (length ks) i ≡ i + position_or_len is_sink ks
unfolding first_sink
sinks_from n [] i h = omega arith
sinks_from n (k ∷ ks) i h =
    let here : kind n i ≡ k = (let z : i + 0 ≡ i = omega arith in rw z at (h 0 (omega arith))) in
    elim (ℕ_discrete k 1) [
      | yes q ↦ rw (here, eq-eqb k 1 q) (omega arith)
      | no q ↦ rw (here, ne_eqb k 1 q) (omega (arith, sinks_from n ks (suc i) (λ j l. (let z : suc i + j ≡ i + suc j = omega arith in rw z (h (suc j) (omega arith))))))
    ]

-- among all, the first of which is the source
lowest : (n : Net) (ks : List ℕ) → n.kinds ≡ ks → kind n 0 ≡ 0 → 1 ≤ length ks → first_sink n (length ks - 1) 1 ≡ position_or_len is_sink ks
lowest n [] e z h = absurd (omega arith)
lowest n (k ∷ ks) e z h =
    let q : k ≡ 0 = rw e at z in
    let l : suc (length ks) - 1 ≡ length ks = omega arith in
    rw (l, q) (sinks_from n ks 1 (λ j l. let z : 1 + j ≡ suc j = omega arith in rw (e, z) refl))

module _ {n : Net} (s : SoundNet n) where
  first_is : first_sink n (places n - 1) 1 ≡ position_or_len is_sink n.kinds
  first_is = rw s.kinds_long at (lowest n n.kinds refl s.source (omega (arith, s.some, s.kinds_long)))

  pub sink_found : (i : ℕ) → position is_sink n.kinds ≡ Some i → (first_sink n (places n - 1) 1 ≡ i) × (i < places n)
  sink_found i e = elim (dec_lt (position_or_len is_sink n.kinds) (length n.kinds)) [
    | yes l ↦ (
        let q : position_or_len is_sink n.kinds ≡ i = (let x = rw (lt-ltb _ _ l) at e in cc) in
        (first_is ∙ q, omega (arith, s.kinds_long))
        )
    | no l ↦ absurd (let x = rw (le-ltb (position_or_len is_sink n.kinds) (length n.kinds) (omega arith)) at e in let z : ◌≡◌ {A = ℕ} 0 1 = cc in omega arith)
  ]

  pub sink_none : position is_sink n.kinds ≡ None → places n ≤ first_sink n (places n - 1) 1
  sink_none e = elim (dec_lt (position_or_len is_sink n.kinds) (length n.kinds)) [
    | yes l ↦ absurd (let x = rw (lt-ltb _ _ l) at e in let z : ◌≡◌ {A = ℕ} 0 1 = cc in omega arith)
    | no l ↦ omega (arith, first_is, s.kinds_long)
  ]
