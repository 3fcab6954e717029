-- The offsets of wire i are the part of the list from where its entries begin to where those of the next wire do.
-- So what each of them drives is told by its place in the list.
use Prim.Native.Nat.{ℕ, zero, suc, ◌-◌, ◌<◌, ◌≤◌, ◌+◌}
use mathlib.Core.Path.{◌≡◌, refl, ap, ◌∙◌}
use mathlib.Core.List.{List, [], ◌∷◌}
use native.Mathlib.Omega.{arith}
use native.Mathlib.Decide.{ℕ_discrete, dec_lt}
use lib.ListN.{length, get_or, length-append, get_or-append}
use lib.Seq.{slice, length-slice, get_or-take, get_or-drop, get_or-append-add}
use borrow.Author.Tests.{eq-eqb, ne_eqb}
use Rattle.rules.specs.Load.{entries, offsets_on, drives, joined}
use Rattle.load.proofs.Begins.{Begins}

-- ---- the part of the list

-- the entries from c up to d are on wire i, and no others
own : (i : ℕ) (vs os : List ℕ) (c d : ℕ) → length os ≡ length vs → c ≤ d → d ≤ length vs
    → ((a : ℕ) → a < c → get_or vs a 0 ≡ i → ⊥)
    → ((a : ℕ) → c ≤ a → a < d → get_or vs a 0 ≡ i)
    → ((a : ℕ) → d ≤ a → a < length vs → get_or vs a 0 ≡ i → ⊥)
    → offsets_on (entries vs os) i ≡ slice c d os
unfolding entries offsets_on
own i [] [] zero zero e l w p q r = refl
own i [] [] zero (suc d) e l w p q r = absurd (omega arith)
own i [] [] (suc c) zero e l w p q r = refl
own i [] [] (suc c) (suc d) e l w p q r = absurd (omega arith)
own i [] (o ∷ os) c d e l w p q r = absurd (omega arith)
own i (v ∷ vs) [] c d e l w p q r = absurd (omega arith)
own i (v ∷ vs) (o ∷ os) zero zero e l w p q r =
    rw (ne_eqb v i (r 0 (omega arith) (omega arith)))
    (own i vs os zero zero (omega arith) l (omega arith) (λ a h. absurd (omega arith)) (λ a g h. absurd (omega arith)) (λ a g h. r (suc a) (omega arith) (omega arith)))
own i (v ∷ vs) (o ∷ os) zero (suc d) e l w p q r =
    rw (eq-eqb v i (q 0 (omega arith) (omega arith)))
    (ap (λ (t : List ℕ). o ∷ t)
    (own i vs os zero d (omega arith) (omega arith) (omega arith) (λ a h. absurd (omega arith)) (λ a g h. q (suc a) (omega arith) (omega arith)) (λ a g h. r (suc a) (omega arith) (omega arith))))
own i (v ∷ vs) (o ∷ os) (suc c) zero e l w p q r = absurd (omega arith)
own i (v ∷ vs) (o ∷ os) (suc c) (suc d) e l w p q r =
    rw (ne_eqb v i (p 0 (omega arith)))
    (own i vs os c d (omega arith) (omega arith) (omega arith) (λ a h. p (suc a) (omega arith)) (λ a g h. q (suc a) (omega arith) (omega arith)) (λ a g h. r (suc a) (omega arith) (omega arith)))

module _ {vs : List ℕ} {i c d : ℕ} (from : Begins vs i c) (to : Begins vs (suc i) d) where
  pub begins_rise : c ≤ d
  begins_rise = elim (dec_lt d c) [
    | yes h ↦ absurd (omega (arith, from.before d h, to.from d (omega arith) (omega (arith, from.within))))
    | no h ↦ omega arith
  ]

  pub offsets_slice : (os : List ℕ) → length os ≡ length vs → offsets_on (entries vs os) i ≡ slice c d os
  offsets_slice os e =
      own i vs os c d e begins_rise to.within
      (λ a h q. omega (arith, from.before a h))
      (λ a g h. omega (arith, from.from a g (omega (arith, to.within)), to.before a h))
      (λ a g h q. omega (arith, to.from a g h))

-- an element of the part
slice_at : (c d : ℕ) (os : List ℕ) (k : ℕ) → c + k < d → get_or (slice c d os) k 0 ≡ get_or os (c + k) 0
slice_at c d os k h = rw (get_or-drop, get_or-take d os (c + k) 0 h)

-- ---- what each entry drives

pub length_drives : (cb from load : ℕ) (xs : List ℕ) → length (drives cb from load xs) ≡ length xs
unfolding drives
length_drives cb from load [] = refl
length_drives cb from load (x ∷ xs) = ap suc (length_drives cb x cb xs)

drives_first : (cb load : ℕ) (xs : List ℕ) → 0 < length xs → get_or (drives cb 0 load xs) 0 0 ≡ get_or xs 0 0 + load
unfolding drives
drives_first cb load [] h = absurd (omega arith)
drives_first cb load (x ∷ xs) h = omega arith

drives_next : (cb from load : ℕ) (xs : List ℕ) (k : ℕ) → suc k < length xs → get_or (drives cb from load xs) (suc k) 0 ≡ (get_or xs (suc k) 0 - get_or xs k 0) + cb
unfolding drives
drives_next cb from load [] k h = absurd (omega arith)
drives_next cb from load (x ∷ []) k h = absurd (omega arith)
drives_next cb from load (x ∷ (y ∷ ys)) zero h = refl
drives_next cb from load (x ∷ (y ∷ ys)) (suc k) h = drives_next cb x cb (y ∷ ys) k (omega arith)

-- the lowest on the wire
pub lowest_drives : (cb load c d : ℕ) (os : List ℕ) → c < d → d ≤ length os → get_or (drives cb 0 load (slice c d os)) 0 0 ≡ get_or os c 0 + load
lowest_drives cb load c d os h l =
    let z : c + 0 ≡ c = omega arith in
    drives_first cb load (slice c d os) (rw (length-slice c d os l) (omega arith)) ∙ ap (λ (x : ℕ). x + load) (slice_at c d os 0 (omega arith) ∙ ap (λ (x : ℕ). get_or os x 0) z)

-- entry k, and it is not the lowest
pub next_drives : (cb load c d k : ℕ) (os : List ℕ) → c < k → k < d → d ≤ length os
    → get_or (drives cb 0 load (slice c d os)) (k - c) 0 ≡ (get_or os k 0 - get_or os (k - 1) 0) + cb
next_drives cb load c d k os g h l =
    let q : k - c ≡ suc (k - suc c) = omega arith in
    let a : c + suc (k - suc c) ≡ k = omega arith in
    let b : c + (k - suc c) ≡ k - 1 = omega arith in
    rw q (drives_next cb 0 load (slice c d os) (k - suc c) (rw (length-slice c d os l) (omega arith))
    ∙ rw (slice_at c d os (suc (k - suc c)) (omega arith), slice_at c d os (k - suc c) (omega arith), a, b))

-- ---- lists one after the other, where c counts the elements before each
module _ (f : ℕ → List ℕ) (c : ℕ → ℕ) where
  abbrev pub Counts : ℕ → ℕ → Type 0
  Counts k i = (j : ℕ) → i ≤ j → j < i + k → c (suc j) ≡ c j + length (f j)

  counts_rise : (k i : ℕ) → Counts k i → (j : ℕ) → i ≤ j → j ≤ i + k → c i ≤ c j
  counts_rise zero i h j lo hi = let e : j ≡ i = omega arith in rw e (omega arith)
  counts_rise (suc k) i h j lo hi = elim (ℕ_discrete j i) [
    | yes e ↦ rw e (omega arith)
    | no ne ↦ omega (arith, h i (omega arith) (omega arith), counts_rise k (suc i) (λ x l g. h x (omega arith) (omega arith)) j (omega arith) (omega arith))
  ]

  pub joined_length : (k i : ℕ) → Counts k i → c i + length (joined f k i) ≡ c (i + k)
  unfolding joined
  joined_length zero i h = let e : i + 0 ≡ i = omega arith in rw e (omega arith)
  joined_length (suc k) i h =
      let e : i + suc k ≡ suc i + k = omega arith in
      rw (length-append (f i) (joined f k (suc i)), e)
      (omega (arith, h i (omega arith) (omega arith), joined_length k (suc i) (λ x l g. h x (omega arith) (omega arith))))

  pub joined_at : (k i : ℕ) → Counts k i → (j q : ℕ) → i ≤ j → j < i + k → q < length (f j) → get_or (joined f k i) (c j - c i + q) 0 ≡ get_or (f j) q 0
  unfolding joined
  joined_at zero i h j q lo hi w = absurd (omega arith)
  joined_at (suc k) i h j q lo hi w = elim (ℕ_discrete j i) [
    | yes e ↦ (let z : c i - c i + q ≡ q = omega arith in rw (e, z) (get_or-append (f i) (joined f k (suc i)) 0 q (rw e at w)))
    | no ne ↦ (
        let later : Counts k (suc i) = λ x l g. h x (omega arith) (omega arith) in
        let z : c j - c i + q ≡ length (f i) + (c j - c (suc i) + q) = omega (arith, h i (omega arith) (omega arith), counts_rise k (suc i) later j (omega arith) (omega arith)) in
        rw z (get_or-append-add (f i) (joined f k (suc i)) (c j - c (suc i) + q) 0 ∙ joined_at k (suc i) later j q (omega arith) (omega arith) w)
        )
  ]
