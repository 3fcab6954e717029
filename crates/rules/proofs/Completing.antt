-- Given and added entries: a whole has as many as both together, the added ones stand in order as it does, the least number to add is one number;
-- with none given all of this is what is said of legal placements; and easing keeps it (demand 3), the given entries cut as the carry cuts.
use Prim.Native.Nat.{ℕ, ◌+◌, ◌≤◌}
use mathlib.Core.Path.{◌≡◌, refl, subst, ap}
use mathlib.Core.Logic.{◌↔◌}
use mathlib.Core.List.{List, [], ◌∷◌, ◌++◌, map}
use lib.ListN.{length}
use native.Mathlib.Omega.{arith}
use native.Mathlib.Decide.{ℕ_discrete}
use borrow.Author.Tests.{eq-eqb, ne_eqb}
use Rattle.rules.specs.declared.Entry.{Entry}
use Rattle.rules.specs.Net.{Net}
use Rattle.rules.specs.Load.{offsets_on}
use Rattle.rules.specs.Legal.{After, InOrder, start, Legal, Least, NoneLegal}
use Rattle.rules.specs.Ease.{Eases, cut, carried}
use Rattle.rules.specs.Complete.{Joins, end, given, added, Completes, LeastAdded, NoneCompletes}
use Rattle.rules.proofs.Order.{after_after}
use Rattle.rules.proofs.EaseKeepsLegal.{ease_keeps_legal, ease_keeps_count}

pub joins_length : {A : Type 0} {g a w : List A} → Joins g a w → length w ≡ length g + length a
joins_length end = refl
joins_length (given h) = omega (arith, joins_length h)
joins_length (added h) = omega (arith, joins_length h)

joins_map : {A B : Type 0} (f : A → B) {g a w : List A} → Joins g a w → Joins (map f g) (map f a) (map f w)
joins_map f end = end
joins_map f (given h) = given (joins_map f h)
joins_map f (added h) = added (joins_map f h)

pub joins_append : {A : Type 0} {g a w g' a' w' : List A} → Joins g a w → Joins g' a' w' → Joins (g ++ g') (a ++ a') (w ++ w')
joins_append end k = k
joins_append (given h) k = given (joins_append h k)
joins_append (added h) k = added (joins_append h k)

pub all_added_lem : {A : Type 0} (a : List A) → Joins [] a a
all_added_lem [] = end
all_added_lem (x ∷ a) = added (all_added_lem a)

-- wire by wire it is the same
pub joins_on : (i : ℕ) {g a w : List Entry} → Joins g a w → Joins (offsets_on g i) (offsets_on a i) (offsets_on w i)
unfolding offsets_on
joins_on i end = end
joins_on i (given {x} h) = elim (ℕ_discrete x.wire i) [ yes q ↦ rw (eq-eqb x.wire i q) (given (joins_on i h)) | no ne ↦ rw (ne_eqb x.wire i ne) (joins_on i h) ]
joins_on i (added {x} h) = elim (ℕ_discrete x.wire i) [ yes q ↦ rw (eq-eqb x.wire i q) (added (joins_on i h)) | no ne ↦ rw (ne_eqb x.wire i ne) (joins_on i h) ]

-- ---- the added entries are in order (RULES 8.3)
order_from : (n : Net) {c d : Entry} (p : List Entry) → After c d → InOrder n d p → InOrder n c p
order_from n [] h o = tt
order_from n (e ∷ es) h o = (after_after h o.0, o.1, o.2)

added_order : (n : Net) (d : Entry) {g a w : List Entry} → Joins g a w → InOrder n d w → InOrder n d a
added_order n d end o = tt
added_order n d (given {x} {g} {a} h) o = order_from n a o.0 (added_order n x h o.2)
added_order n d (added {x} h) o = (o.0, o.1, added_order n x h o.2)

pub added_in_order : {n : Net} {g a : List Entry} → Completes n g a → InOrder n start a
added_in_order {n} c = added_order n start c.joins c.legal.stands

-- ---- one number
pub one_least_added : {n : Net} {g : List Entry} {k m : ℕ} → LeastAdded n g k → LeastAdded n g m → k ≡ m
one_least_added x y = omega (arith, x.fewest y.entries y.completes, y.fewest x.entries x.completes, x.count, y.count)

-- ---- with none given
joins_none : {A : Type 0} {a w : List A} → Joins [] a w → w ≡ a
joins_none end = refl
joins_none (added {x} h) = ap (λ l. x ∷ l) (joins_none h)

pub legal_alone : {n : Net} {p : List Entry} → Completes n [] p ↔ Legal n p
legal_alone {n} {p} = (λ c. subst (Legal n) (joins_none c.joins) c.legal, λ l. record { whole = p; joins = all_added_lem p; legal = l })

pub least_alone : {n : Net} {k : ℕ} → LeastAdded n [] k ↔ Least n k
least_alone = (
  λ l. record { placement = l.entries; legal = legal_alone.0 l.completes; count = l.count; fewest = λ p q. l.fewest p (legal_alone.1 q) },
  λ l. record { entries = l.placement; completes = legal_alone.1 l.legal; count = l.count; fewest = λ a c. l.fewest a (legal_alone.0 c) },
)

pub none_alone : {n : Net} → NoneCompletes n [] ↔ NoneLegal n
none_alone = (λ h p l. h p (legal_alone.1 l), λ h a c. h a (legal_alone.0 c))

-- ---- demand 3, the given entries cut as the carry cuts
module _ {n m : Net} (ease : Eases n m) where
  pub ease_completes : {g a : List Entry} → Completes n g a → Completes m (carried m g) (carried m a)
  ease_completes c = record { whole = carried m c.whole; joins = joins_map (cut m) c.joins; legal = ease_keeps_legal ease c.whole c.legal }

  -- the least number to add is no larger, and so is the total: as many are given
  pub ease_least_added : {g : List Entry} {k j : ℕ} → LeastAdded n g k → LeastAdded m (carried m g) j → j ≤ k
  ease_least_added x y = omega (arith, y.fewest (carried m x.entries) (ease_completes x.completes), ease_keeps_count ease x.entries, x.count)

  pub ease_none_completes : {g : List Entry} → NoneCompletes m (carried m g) → NoneCompletes n g
  ease_none_completes none a c = none (carried m a) (ease_completes c)
