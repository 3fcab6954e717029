-- The frontier at the source is the net's least count, and lost exactly where no placement is legal: the theorem over the tree, brought to the definitions.
use Prim.Native.Nat.{ℕ, ◌-◌, ◌%◌, ◌≤◌}
use mathlib.Core.Path.{◌≡◌, refl, sym, subst, ◌∙◌}
use mathlib.Core.List.{List}
use lib.ListN.{length}
use native.Mathlib.Omega.{arith}
use Rattle.rules.specs.declared.Entry.{Entry}
use Rattle.rules.specs.Net.{Net, places}
use Rattle.rules.specs.Tree.{tree}
use Rattle.rules.specs.Load.{offsets_on}
use Rattle.rules.specs.Legal.{InOrder, start, Legal, Least, NoneLegal}
use Rattle.rules.specs.Sound.{SoundNet}
use Rattle.frontier.specs.Cell.{cell_of}
use Rattle.frontier.specs.Plan.{plan_of, count, Settled}
use Rattle.frontier.specs.Frontier.{State, lost, has, root}
use Rattle.frontier.specs.Placed.{placed}
use Rattle.rules.proofs.Counting.{at_most_once}
use Rattle.frontier.proofs.Best.{hopeless}
use Rattle.frontier.proofs.Offsets.{plan_ext, BestOffs, optimal_offs}
use Rattle.frontier.proofs.Hangs.{tree_hangs, every_from}
use Rattle.rules.proofs.Order.{in_order_rises, entries_counted}
use Rattle.frontier.proofs.Placing.{placed_offsets, wires_length, placed_in_order}
use Rattle.frontier.proofs.Loads.{tree_count, good_if_fits, source_fits, rises_if_good, fits_if_good}
use Rattle.frontier.proofs.Senses.{one_sense_if_par, par_if_one_sense}

pub one_least : {n : Net} {k m : ℕ} → Least n k → Least n m → k ≡ m
one_least a b = omega (arith, a.fewest b.placement b.legal, b.fewest a.placement a.legal)

module _ {n : Net} (s : SoundNet n) where
  -- ---- a list that is legal settles the tree, and the other way round
  pub legal_settles : (p : List Entry) (l : Legal n p) → Settled (cell_of n.limits) (l.parity.one % 2) (tree n) (plan_of (offsets_on p) (tree n))
  legal_settles p l = record {
    pol = omega arith;
    good = good_if_fits s (offsets_on p) (in_order_rises n p l.stands) l.loads;
    fits = source_fits s (offsets_on p) l.loads;
    par = par_if_one_sense s (offsets_on p) l.parity;
  }

  pub count_is_length : (p : List Entry) → InOrder n start p → count (tree n) (plan_of (offsets_on p) (tree n)) ≡ length p
  count_is_length p o = tree_count s (offsets_on p) ∙ entries_counted n start p o

  pub settled_is_legal : (p : List Entry) (q : ℕ) → InOrder n start p → Settled (cell_of n.limits) q (tree n) (plan_of (offsets_on p) (tree n)) → Legal n p
  settled_is_legal p q o t = record {
    stands = o;
    loads = fits_if_good s (offsets_on p) t.good t.fits;
    parity = one_sense_if_par s (offsets_on p) q t.pol t.par;
  }

  -- ---- offsets that settle the tree, as a list
  pub placed_is_legal : (q : ℕ) (offs : ℕ → List ℕ) → Settled (cell_of n.limits) q (tree n) (plan_of offs (tree n)) → Legal n (placed n offs)
  placed_is_legal q offs t =
      let same : plan_of (offsets_on (placed n offs)) (tree n) ≡ plan_of offs (tree n) = plan_ext _ _ (tree n) (every_from n _ (placed_offsets n offs) 0 (tree n) (tree_hangs s)) in
      settled_is_legal (placed n offs) q (placed_in_order n offs s.some (rises_if_good s offs t.good)) (subst (Settled (cell_of n.limits) q (tree n)) (sym same) t)

  pub placed_count : (offs : ℕ → List ℕ) → length (placed n offs) ≡ count (tree n) (plan_of offs (tree n))
  placed_count offs = wires_length offs (places n - 1) 1 ∙ sym (tree_count s offs)

  -- ---- the least count
  pub least_if_has : (k a b : ℕ) → root (cell_of n.limits) (tree n) ≡ has k a b → Least n k
  least_if_has k a b e =
      let best : BestOffs (cell_of n.limits) (tree n) k = optimal_offs (cell_of n.limits) (omega (arith, s.half)) (omega (arith, s.half)) (tree n) (at_most_once s) k a b e in
      record {
        placement = placed n best.offs;
        legal = placed_is_legal best.p best.offs best.legal;
        count = placed_count best.offs ∙ best.is;
        fewest = λ p l. omega (arith, best.least (l.parity.one % 2) (offsets_on p) (legal_settles p l), count_is_length p l.stands);
      }

  pub none_if_lost : root (cell_of n.limits) (tree n) ≡ lost → NoneLegal n
  none_if_lost e p l = hopeless (cell_of n.limits) (omega (arith, s.half)) (omega (arith, s.half)) (tree n) e (l.parity.one % 2) (plan_of (offsets_on p) (tree n)) (legal_settles p l)

  -- ---- and the other way round
  pub lost_if_none : NoneLegal n → root (cell_of n.limits) (tree n) ≡ lost
  lost_if_none h = go (root (cell_of n.limits) (tree n)) refl
    where
      go : (st : State) → root (cell_of n.limits) (tree n) ≡ st → st ≡ lost
      go lost e = refl
      go (has k a b) e = let l : Least n k = least_if_has k a b e in absurd (h l.placement l.legal)

  pub has_if_least : (k : ℕ) → Least n k → (a : ℕ) × (b : ℕ) × (root (cell_of n.limits) (tree n) ≡ has k a b)
  has_if_least k l = go (root (cell_of n.limits) (tree n)) refl
    where
      go : (st : State) → root (cell_of n.limits) (tree n) ≡ st → (a : ℕ) × (b : ℕ) × (root (cell_of n.limits) (tree n) ≡ has k a b)
      go lost e = absurd (none_if_lost e l.placement l.legal)
      go (has m a b) e = let q : m ≡ k = one_least (least_if_has m a b e) l in (a, b, rw (← q) e)

  -- ---- offsets that settle the tree with no more entries than the root says are a least placement
  pub placed_is_least : (k a b : ℕ) → root (cell_of n.limits) (tree n) ≡ has k a b → (q : ℕ) (offs : ℕ → List ℕ) → Settled (cell_of n.limits) q (tree n) (plan_of offs (tree n))
      → count (tree n) (plan_of offs (tree n)) ≤ k → Legal n (placed n offs) × (length (placed n offs) ≡ k)
  placed_is_least k a b e q offs t h =
      let legal : Legal n (placed n offs) = placed_is_legal q offs t in
      (legal, omega (arith, placed_count offs, (least_if_has k a b e).fewest (placed n offs) legal))
