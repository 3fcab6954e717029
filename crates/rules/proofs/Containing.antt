-- The two readings of containing the given entries are one: a placement in order that has each given entry as often as it is given is the given ones and
-- others, each in its order; and such a whole has them as often. So what is said of completions is said of all legal placements that contain the given entries.
use Prim.Native.Nat.{ℕ, zero, suc, ◌+◌, ◌-◌, ◌≤◌, ◌<◌}
use mathlib.Core.Path.{◌≡◌, refl, sym, subst, ◌∙◌}
use mathlib.Core.List.{List, [], ◌∷◌}
use mathlib.Core.Bool.{Bool, true, false}
use lib.ListN.{length}
use lib.Dec.{eqb}
use native.Mathlib.Omega.{arith}
use borrow.Author.Tests.{eqb-true, eq-eqb, ne_eqb}
use Rattle.rules.specs.declared.Entry.{Entry}
use Rattle.rules.specs.Choose.{pick}
use Rattle.rules.specs.Net.{Net}
use Rattle.rules.specs.Legal.{After, higher, further, InOrder, start, Legal}
use Rattle.rules.specs.Complete.{Joins, end, given, added, Completes, LeastAdded, NoneCompletes, same_entry, times, Contains}
use Rattle.rules.proofs.Tests.{both_met}
use Rattle.rules.proofs.Completing.{joins_length, all_added_lem}

-- ---- where two entries stand to each other
data Ahead (d e : Entry) : Type 0 where
  wire : d.wire < e.wire → Ahead d e
  offset : d.wire ≡ e.wire → d.offset < e.offset → Ahead d e

data Order (d e : Entry) : Type 0 where
  first : Ahead d e → Order d e
  same : d ≡ e → Order d e
  last : Ahead e d → Order d e

entry_same : {d e : Entry} → d.wire ≡ e.wire → d.offset ≡ e.offset → d ≡ e
entry_same p q = λ ι. record { wire = p ι; offset = q ι }

order : (d e : Entry) → Order d e
order d e = go (e.wire - d.wire) (d.wire - e.wire) (e.offset - d.offset) (d.offset - e.offset) refl refl refl refl
  where
    go : (a b x y : ℕ) → e.wire - d.wire ≡ a → d.wire - e.wire ≡ b → e.offset - d.offset ≡ x → d.offset - e.offset ≡ y → Order d e
    go (suc a) b x y p q r s = first (wire (omega arith))
    go zero (suc b) x y p q r s = last (wire (omega arith))
    go zero zero (suc x) y p q r s = first (offset (omega arith) (omega arith))
    go zero zero zero (suc y) p q r s = last (offset (omega arith) (omega arith))
    go zero zero zero zero p q r s = same (entry_same (omega arith) (omega arith))

ahead_on : {c d e : Entry} → Ahead c d → After d e → Ahead c e
ahead_on (wire x) (higher y) = wire (omega arith)
ahead_on (wire x) (further y o) = wire (omega arith)
ahead_on (offset x o) (higher y) = wire (omega arith)
ahead_on (offset x o) (further y o') = offset (omega arith) (omega arith)

-- ---- how often
one_here : (e : Entry) (ds : List Entry) → times e (e ∷ ds) ≡ suc (times e ds)
unfolding times
one_here e ds = rw (eq-eqb e.wire e.wire refl, eq-eqb e.offset e.offset refl) (omega arith)

not_here : (e d : Entry) (ds : List Entry) → Ahead e d → times e (d ∷ ds) ≡ times e ds
unfolding times
not_here e d ds (wire x) = rw (ne_eqb d.wire e.wire (λ q. omega arith)) (omega arith)
not_here e d ds (offset x o) = rw (eq-eqb d.wire e.wire (sym x), ne_eqb d.offset e.offset (λ q. omega arith)) (omega arith)

none_of : (n : Net) (e d : Entry) (ds : List Entry) → Ahead e d → InOrder n d ds → times e ds ≡ 0
unfolding times
none_of n e d [] a h = refl
none_of n e d (x ∷ ds) a h = not_here e x ds (ahead_on a h.0) ∙ none_of n e x ds (ahead_on a h.0) h.2

cancel : (d c : Entry) (g p : List Entry) → times c (d ∷ g) ≤ times c (d ∷ p) → times c g ≤ times c p
unfolding times
cancel d c g p h = omega arith

pass : (d c : Entry) (p : List Entry) (k : ℕ) → k ≤ times c (d ∷ p) → (d ≡ c → k ≡ 0) → k ≤ times c p
unfolding times
pass d c p k h z = go (same_entry d c) refl h
  where
    go : (b : Bool) → same_entry d c ≡ b → k ≤ pick b 1 0 + times c p → k ≤ times c p
    go false e l = omega arith
    go true e l = let (x, y) = both_met (eqb d.wire c.wire) (eqb d.offset c.offset) e in omega (arith, z (entry_same (eqb-true d.wire c.wire x) (eqb-true d.offset c.offset y)))

-- ---- the two readings
pub contains_joins : (n : Net) (x y : Entry) (g p : List Entry) → InOrder n x g → InOrder n y p → Contains p g → (a : List Entry) × Joins g a p
unfolding times
contains_joins n x y [] p o q h = (p, all_added_lem p)
contains_joins n x y (e ∷ g) [] o q h = absurd (omega (arith, h e, one_here e g))
contains_joins n x y (e ∷ g) (d ∷ p) o q h = go (order d e) (contains_joins n e d g p o.2 q.2) (contains_joins n x d (e ∷ g) p o q.2)
  where
    go : Order d e → (Contains p g → (a : List Entry) × Joins g a p) → (Contains p (e ∷ g) → (a : List Entry) × Joins (e ∷ g) a p) → (a : List Entry) × Joins (e ∷ g) a (d ∷ p)
    go (first l) take skip =
        let (a, j) = skip (λ c. pass d c p (times c (e ∷ g)) (h c) (λ z. subst (λ (c : Entry). times c (e ∷ g) ≡ 0) z (not_here d e g l ∙ none_of n d e g l o.2))) in
        (d ∷ a, added j)
    go (same z) take skip =
        let (a, j) = take (λ c. cancel d c g p (subst (λ (y : Entry). times c (y ∷ g) ≤ times c (d ∷ p)) (sym z) (h c))) in
        (a, subst (λ (y : Entry). Joins (y ∷ g) a (d ∷ p)) z (given j))
    go (last l) take skip = absurd (omega (arith, h e, one_here e g, not_here e d p l, none_of n e d p l q.2))

pub joins_contain : {g a p : List Entry} → Joins g a p → Contains p g
unfolding times
joins_contain end e = omega arith
joins_contain (given h) e = omega (arith, joins_contain h e)
joins_contain (added h) e = omega (arith, joins_contain h e)

module _ {n : Net} {g : List Entry} (o : InOrder n start g) where
  pub contains_completes : (p : List Entry) → Legal n p → Contains p g → (a : List Entry) × (c : Completes n g a) × (c.whole ≡ p)
  contains_completes p l c = let (a, j) = contains_joins n start start g p o l.stands c in (a, record { whole = p; joins = j; legal = l }, refl)

  -- "None" is said of all legal placements that contain the given entries, and the least total is over them all
  pub none_contains : NoneCompletes n g → (p : List Entry) → Legal n p → Contains p g → ⊥
  none_contains none p l c = let (a, d, e) = contains_completes p l c in none a d

  pub least_contains : {k : ℕ} → LeastAdded n g k → (p : List Entry) → Legal n p → Contains p g → length g + k ≤ length p
  least_contains x p l c =
      let (a, j) = contains_joins n start start g p o l.stands c in
      omega (arith, x.fewest a (record { whole = p; joins = j; legal = l }), joins_length j)
