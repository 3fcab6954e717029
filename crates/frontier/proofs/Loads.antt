-- The loads of the definitions and of the model are the same: a wire's entries are good on the tree exactly where they stand in order and each drives at most C_U.
use Prim.Native.Nat.{ℕ, ◌-◌, ◌≤◌, ◌<◌}
use mathlib.Core.Path.{◌≡◌, refl, sym, ◌∙◌}
use mathlib.Core.List.{List, [], ◌∷◌, ◌++◌}
use lib.ListN.{length}
use native.Mathlib.Omega.{arith}
use borrow.Author.Tests.{eq-eqb, ne_eqb}
use Rattle.rules.specs.Net.{Net, places, wire, kind, pin}
use Rattle.rules.specs.Tree.{Hanging, none, sink, branch, under, tree}
use Rattle.rules.specs.Load.{drives, handed_by, load_below, driven_on, driven, source_drives}
use Rattle.rules.specs.Legal.{Each}
use Rattle.rules.specs.Sound.{SoundNet}
use Rattle.rules.specs.Sum.{sum_over, sum_from}
use Rattle.rules.proofs.EachWireOnce.{each_wire_once}
use Rattle.frontier.specs.Cell.{Cell, cell_of}
use Rattle.frontier.specs.Plan.{plan_of, count, GoodW, load, Good}
use Rattle.rules.proofs.Counting.{Every}
use Rattle.frontier.proofs.Hangs.{Hangs, tree_hangs, every_from, every_wire}
use Rattle.rules.proofs.Order.{Rising}
use Rattle.rules.proofs.EachLoad.{each_append, each_first, each_last, each_joined, joined_each}

-- ---- one wire
module _ (τ : Cell) where
  good_rises : (w at b : ℕ) (os : List ℕ) → GoodW τ w at b os → Rising w at os
  good_rises w at b [] g = g
  good_rises w at b (o ∷ os) g = (g.0, good_rises w o τ.cb os g.2)

  good_drives : (w at b : ℕ) (os : List ℕ) → GoodW τ w at b os → Each (λ load. load ≤ τ.cu) (drives τ.cb at b os)
  unfolding drives
  good_drives w at b [] g = tt
  good_drives w at b (o ∷ os) g = (g.1, good_drives w o τ.cb os g.2)

  good_from : (w at b : ℕ) (os : List ℕ) → Rising w at os → Each (λ load. load ≤ τ.cu) (drives τ.cb at b os) → GoodW τ w at b os
  unfolding drives
  good_from w at b [] r d = r
  good_from w at b (o ∷ os) r d = (r.0, d.0, good_from w o τ.cb os r.1 d.1)

  load_is : (offs : ℕ → List ℕ) (f : Hanging) → load τ f (plan_of offs f) ≡ handed_by τ.cb offs f
  unfolding handed_by
  load_is offs none = refl
  load_is offs (sink i w c s r) = rw (load_is offs r)
  load_is offs (branch i w f r) = rw (load_is offs f, load_is offs r)

count_is : (offs : ℕ → List ℕ) (f : Hanging) → count f (plan_of offs f) ≡ sum_over (λ i. length (offs i)) f
unfolding sum_over
count_is offs none = refl
count_is offs (sink i w c s r) = omega (arith, count_is offs r)
count_is offs (branch i w f r) = omega (arith, count_is offs f, count_is offs r)

sink_load : (n : Net) (offs : ℕ → List ℕ) (i : ℕ) → kind n i ≡ 1 → load_below n offs i ≡ pin n i
unfolding load_below
sink_load n offs i k = rw (eq-eqb (kind n i) 1 k)

node_load : (n : Net) (offs : ℕ → List ℕ) (i : ℕ) → kind n i ≡ 0 → load_below n offs i ≡ handed_by n.limits.pin offs (under n i)
unfolding load_below
node_load n offs i k = rw (ne_eqb (kind n i) 1 (λ e. omega arith))

-- ---- every wire
module _ (n : Net) (offs : ℕ → List ℕ) where
  abbrev GoodAt : ℕ → Type 0
  GoodAt i = GoodW (cell_of n.limits) (wire n i) 0 (load_below n offs i) (offs i)

  below_branch : (i : ℕ) (f : Hanging) → kind n i ≡ 0 → under n i ≡ f → load_below n offs i ≡ load (cell_of n.limits) f (plan_of offs f)
  below_branch i f k u = node_load n offs i k ∙ rw u (sym (load_is (cell_of n.limits) offs f))

  good_every : (v : ℕ) (f : Hanging) → Hangs n v f → Good (cell_of n.limits) f (plan_of offs f) → Every GoodAt f
  good_every v none h g = tt
  good_every v (sink i w c s r) h g = (rw (h.0.size, sink_load n offs i h.0.end, h.1) g.0, good_every v r h.3 g.1)
  good_every v (branch i w f r) h g = (rw (h.0.size, below_branch i f h.0.end h.1) g.0, good_every i f h.2 g.1, good_every v r h.3 g.2)

  every_good : (v : ℕ) (f : Hanging) → Hangs n v f → Every GoodAt f → Good (cell_of n.limits) f (plan_of offs f)
  every_good v none h e = tt
  every_good v (sink i w c s r) h e = (rw (h.0.size, sink_load n offs i h.0.end, h.1) at e.0, every_good v r h.3 e.1)
  every_good v (branch i w f r) h e = (rw (h.0.size, below_branch i f h.0.end h.1) at e.0, every_good i f h.2 e.1, every_good v r h.3 e.2)

-- no driver is over the limit
abbrev pub LoadsFit : Net → (ℕ → List ℕ) → Type 0
LoadsFit n offs = Each (λ load. load ≤ n.limits.limit) (driven n offs ++ (source_drives n offs ∷ []))

module _ {n : Net} (s : SoundNet n) (offs : ℕ → List ℕ) where
  pub source_load : source_drives n offs ≡ load (cell_of n.limits) (tree n) (plan_of offs (tree n))
  source_load = below_branch n offs 0 (tree n) s.source refl

  pub tree_count : count (tree n) (plan_of offs (tree n)) ≡ sum_from (λ i. length (offs i)) (places n - 1) 1
  tree_count = count_is offs (tree n) ∙ each_wire_once s (λ i. length (offs i))

  pub good_if_fits : ((i : ℕ) → Rising (wire n i) 0 (offs i)) → LoadsFit n offs → Good (cell_of n.limits) (tree n) (plan_of offs (tree n))
  unfolding driven driven_on
  good_if_fits r d =
      every_good n offs 0 (tree n) (tree_hangs s)
      (every_from n (GoodAt n offs)
      (λ i a b. good_from (cell_of n.limits) (wire n i) 0 (load_below n offs i) (offs i) (r i)
      (joined_each _ (driven_on n offs) (places n - 1) 1 (each_first _ (driven n offs) (source_drives n offs ∷ []) d) i a (omega arith))) 0 (tree n) (tree_hangs s))

  pub source_fits : LoadsFit n offs → load (cell_of n.limits) (tree n) (plan_of offs (tree n)) ≤ n.limits.limit
  source_fits d = rw source_load at (each_last _ (driven n offs) (source_drives n offs ∷ []) d).0

  good_wire : Good (cell_of n.limits) (tree n) (plan_of offs (tree n)) → (i : ℕ) → 1 ≤ i → i < places n → GoodAt n offs i
  good_wire g = every_wire s (GoodAt n offs) (good_every n offs 0 (tree n) (tree_hangs s) g)

  pub rises_if_good : Good (cell_of n.limits) (tree n) (plan_of offs (tree n)) → (i : ℕ) → 1 ≤ i → i < places n → Rising (wire n i) 0 (offs i)
  rises_if_good g i a b = good_rises (cell_of n.limits) (wire n i) 0 (load_below n offs i) (offs i) (good_wire g i a b)

  pub fits_if_good : Good (cell_of n.limits) (tree n) (plan_of offs (tree n)) → load (cell_of n.limits) (tree n) (plan_of offs (tree n)) ≤ n.limits.limit → LoadsFit n offs
  unfolding driven driven_on
  fits_if_good g h =
      each_append _ (driven n offs) (source_drives n offs ∷ [])
      (each_joined _ (driven_on n offs) (places n - 1) 1
      (λ i a b. good_drives (cell_of n.limits) (wire n i) 0 (load_below n offs i) (offs i) (good_wire g i a (omega arith))))
      (rw source_load h, tt)
