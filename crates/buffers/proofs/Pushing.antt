-- A wire is joined to its parent: a chain that is one longer, a load with what the wire hands up.
use Rattle.std.specs.Prelude.{Option}
use Prim.Native.Nat.{ℕ, suc, ◌+◌, ◌*◌, ◌≤◌, ◌<◌}
use mathlib.Core.Path.{◌≡◌, refl, sym, subst, ap, ◌∙◌}
use mathlib.Core.List.{List, [], ◌∷◌}
use lib.ListN.{length, get_or, set, length-set}
use lib.Seq.{get_or-set_same, get_or-set_other}
use native.Mathlib.Omega.{arith}
use native.Mathlib.Decide.{ℕ_discrete}
use Rattle.rules.specs.Figures.{most_wire, most_limit, most_places}
use Rattle.rules.specs.Net.{Net, places, parent, wire}
use Rattle.rules.specs.Tree.{under}
use Rattle.rules.specs.Legal.{Each}
use Rattle.rules.specs.Sound.{SoundNet}
use Rattle.frontier.specs.Cell.{Cell}
use Rattle.relief.specs.Pieces.{bare, topped}
use Rattle.relief.specs.Marks.{Relieved, hands, out}
use Rattle.buffers.specs.Chain.{sum_l, Chain, Among, here, there}
use Rattle.buffers.specs.declared.Tables.{Tables}
use Rattle.buffers.specs.Going.{tables, marks_of, kids, leads_in, Going, AtWire}
use Rattle.buffers.proofs.Lists.{each_of, sum_same, sum_most}
use Rattle.buffers.proofs.Kids.{kids_are, kids_take, kids_skip, kids_few, relieved_same}
use Rattle.buffers.proofs.Settling.{out_fits}

chain_frame : (N : ℕ) (links links' : List ℕ) (k : ℕ) (js : List ℕ) → ((j : ℕ) → Among j js → get_or links' j 0 ≡ get_or links j 0) → Chain N links k js → Chain N links' k js
chain_frame N links links' k [] h c = c
chain_frame N links links' k (j ∷ js) h c =
    let e : get_or links' j 0 ≡ get_or links j 0 = h j here in
    (c.0, c.1, omega (arith, c.2), subst (λ (x : ℕ). Chain N links' x js) (sym e) (chain_frame N links links' (get_or links j 0) js (λ i a. h i (there a)) c.3))

-- a chain of greater numbers starts past i
chain_past : (N : ℕ) (links : List ℕ) (k : ℕ) (js : List ℕ) (i : ℕ) → i < N → Each (λ j. i < j) js → Chain N links k js → i < k
chain_past N links k [] i h e c = omega arith
chain_past N links k (j ∷ js) i h e c = omega (arith, e.0, c.0)

module _ (τ : Cell) (eq : τ.cu ≡ τ.cb + τ.D) (pos : 1 ≤ τ.D) (small : τ.cu ≤ most_limit) {n : Net} (sound : SoundNet n) (L : ℕ → ℕ) (t : Tables) (i : ℕ) (lo : 1 ≤ i) (hi : i < places n) (g : Going τ n L t (suc i) i) where
  lower : parent n i < i
  lower = sound.lower i lo hi

  -- what the parent has so far
  pub below_few : get_or t.below (parent n i) 0 ≤ 1024000000
  below_few =
      let ks : List ℕ = kids n (suc i) (parent n i) in
      let b : sum_l (λ j. get_or t.tops j 0) ks ≤ length ks * most_limit = sum_most (λ j. get_or t.tops j 0) most_limit ks (each_of (λ j. get_or t.tops j 0 ≤ most_limit) ks (λ j a. let k = kids_are n (suc i) (parent n i) hi j a in omega (arith, g.tops j k.from k.within, out_fits τ eq pos sound L (marks_of t.below t.on) j))) in
      omega (arith, g.sums (parent n i) lower, kids_few n (suc i) (parent n i), g.long.few, g.long.enough)

  module _ (a : ℕ) (is : a ≡ hands τ n L (marks_of t.below t.on) i) where
    in_tops : i < length t.tops
    in_tops = omega (arith, g.long.enough)

    below_p : get_or (set t.below (parent n i) (get_or t.below (parent n i) 0 + a)) (parent n i) 0 ≡ get_or t.below (parent n i) 0 + a
    below_p = get_or-set_same t.below (parent n i) (get_or t.below (parent n i) 0 + a) 0 (omega (arith, lower, g.long.below, g.long.enough))

    below_v : (v : ℕ) → (v ≡ parent n i → ⊥) → get_or (set t.below (parent n i) (get_or t.below (parent n i) 0 + a)) v 0 ≡ get_or t.below v 0
    below_v v ne = get_or-set_other t.below (parent n i) v (get_or t.below (parent n i) 0 + a) 0 ne

    tops_own : get_or (set t.tops i a) i 0 ≡ a
    tops_own = get_or-set_same t.tops i a 0 in_tops

    tops_j : (j : ℕ) → (j ≡ i → ⊥) → get_or (set t.tops i a) j 0 ≡ get_or t.tops j 0
    tops_j j ne = get_or-set_other t.tops i j a 0 ne

    abbrev below'' : List ℕ
    below'' = set t.below (parent n i) (get_or t.below (parent n i) 0 + a)

    hands_same : (j : ℕ) → i ≤ j → hands τ n L (marks_of below'' t.on) j ≡ hands τ n L (marks_of t.below t.on) j
    hands_same j l = ap (bare τ (wire n j) (L j)) (below_v j (λ q. omega (arith, lower)))

    -- the wire's link leads on to where the parent's did, and the parent's to the wire
    abbrev first : List ℕ
    first = set t.links i (get_or t.links (parent n i) 0)

    abbrev links'' : List ℕ
    links'' = set (set t.links i (get_or t.links (parent n i) 0)) (parent n i) i

    links_own : get_or (set (set t.links i (get_or t.links (parent n i) 0)) (parent n i) i) i 0 ≡ get_or t.links (parent n i) 0
    links_own = get_or-set_other first (parent n i) i i 0 (λ q. omega (arith, lower)) ∙ get_or-set_same t.links i (get_or t.links (parent n i) 0) 0 (omega (arith, g.long.links, in_tops))

    links_p : get_or (set (set t.links i (get_or t.links (parent n i) 0)) (parent n i) i) (parent n i) 0 ≡ i
    links_p = get_or-set_same first (parent n i) i 0 (omega (arith, lower, g.long.links, in_tops, length-set t.links i (get_or t.links (parent n i) 0)))

    links_j : (j : ℕ) → (j ≡ i → ⊥) → (j ≡ parent n i → ⊥) → get_or (set (set t.links i (get_or t.links (parent n i) 0)) (parent n i) i) j 0 ≡ get_or t.links j 0
    links_j j ne np = get_or-set_other first (parent n i) j i 0 np ∙ get_or-set_other t.links i j (get_or t.links (parent n i) 0) 0 ne

    -- the kids after i are not i
    not_own : (v j : ℕ) → Among j (kids n (suc i) v) → j ≡ i → ⊥
    not_own v j x q = let k = kids_are n (suc i) v hi j x in omega (arith, k.from)

    old_chain : (v : ℕ) → v < i → Chain (length t.tops) links'' (get_or t.links v 0) (kids n (suc i) v)
    old_chain v l = chain_frame (length t.tops) t.links links'' (get_or t.links v 0) (kids n (suc i) v) (λ j x. links_j j (not_own v j x) (λ q. let k = kids_are n (suc i) v hi j x in omega (arith, k.from, lower))) (g.chains v l)

    new_chain : Chain (length t.tops) links'' i (i ∷ kids n (suc i) (parent n i))
    new_chain =
        let past : i < get_or t.links (parent n i) 0 = chain_past (length t.tops) t.links (get_or t.links (parent n i) 0) (kids n (suc i) (parent n i)) i in_tops
        (each_of (λ j. i < j) (kids n (suc i) (parent n i)) (λ j x. let k = kids_are n (suc i) (parent n i) hi j x in omega (arith, k.from))) (g.chains (parent n i) lower) in
        (refl, in_tops, omega (arith, links_own), subst (λ (x : ℕ). Chain (length t.tops) links'' x (kids n (suc i) (parent n i))) (sym links_own) (old_chain (parent n i) lower))

    chain_now : (v : ℕ) → v < i → Chain (length t.tops) links'' (get_or links'' v 0) (kids n i v)
    chain_now v l = elim (ℕ_discrete (parent n i) v) [
      | yes e ↦ subst (λ (v : ℕ). Chain (length t.tops) links'' (get_or links'' v 0) (kids n i v)) e
          (subst (λ (k : ℕ). Chain (length t.tops) links'' k (kids n i (parent n i))) (sym links_p) (subst (Chain (length t.tops) links'' i) (sym (kids_take n i (parent n i) hi refl)) new_chain))
      | no ne ↦ subst (λ (k : ℕ). Chain (length t.tops) links'' k (kids n i v)) (sym (links_j v (λ q. omega arith) (λ q. ne (sym q))))
          (subst (Chain (length t.tops) links'' (get_or t.links v 0)) (sym (kids_skip n i v hi ne)) (old_chain v l))
    ]

    old_sum : (v : ℕ) → v < i → sum_l (λ j. get_or (set t.tops i a) j 0) (kids n (suc i) v) ≡ get_or t.below v 0
    old_sum v l = sum_same (λ j. get_or (set t.tops i a) j 0) (λ j. get_or t.tops j 0) (kids n (suc i) v) (λ j x. tops_j j (not_own v j x)) ∙ g.sums v l

    sum_now : (v : ℕ) → v < i → sum_l (λ j. get_or (set t.tops i a) j 0) (kids n i v) ≡ get_or below'' v 0
    sum_now v l = elim (ℕ_discrete (parent n i) v) [
      | yes e ↦ subst (λ (v : ℕ). sum_l (λ j. get_or (set t.tops i a) j 0) (kids n i v) ≡ get_or below'' v 0) e
          (ap (sum_l (λ j. get_or (set t.tops i a) j 0)) (kids_take n i (parent n i) hi refl) ∙ omega (arith, tops_own, old_sum (parent n i) lower, below_p))
      | no ne ↦ ap (sum_l (λ j. get_or (set t.tops i a) j 0)) (kids_skip n i v hi ne) ∙ old_sum v l ∙ sym (below_v v (λ q. ne (sym q)))
    ]

    fresh_now : (v : ℕ) → v < i → Each (λ j. get_or t.on j 0 ≡ 0) (kids n i v)
    fresh_now v l = elim (ℕ_discrete (parent n i) v) [
      | yes e ↦ subst (λ (v : ℕ). Each (λ j. get_or t.on j 0 ≡ 0) (kids n i v)) e (subst (Each (λ j. get_or t.on j 0 ≡ 0)) (sym (kids_take n i (parent n i) hi refl)) (g.clear i (omega arith), g.fresh (parent n i) lower))
      | no ne ↦ subst (Each (λ j. get_or t.on j 0 ≡ 0)) (sym (kids_skip n i v hi ne)) (g.fresh v l)
    ]

    tops_now : (j : ℕ) → i ≤ j → j < places n → get_or (set t.tops i a) j 0 ≡ out τ n L (marks_of below'' t.on) j
    tops_now j l m = elim (ℕ_discrete j i) [
      | yes q ↦ subst (λ (j : ℕ). get_or (set t.tops i a) j 0 ≡ out τ n L (marks_of below'' t.on) j) (sym q)
          (tops_own ∙ is ∙ sym (hands_same i (omega arith)) ∙ subst (λ (k : ℕ). hands τ n L (marks_of below'' t.on) i ≡ topped τ k (hands τ n L (marks_of below'' t.on) i)) (sym (g.clear i (omega arith))) refl)
      | no ne ↦ tops_j j ne ∙ g.tops j (omega arith) m ∙ ap (topped τ (get_or t.on j 0)) (sym (hands_same j l))
    ]

    pub pushed : Going τ n L (tables below'' (set t.tops i a) t.on links'') i i
    pushed = record {
      long = record {
        enough = omega (arith, g.long.enough, length-set t.tops i a);
        few = omega (arith, g.long.few, length-set t.tops i a);
        below = omega (arith, g.long.below, length-set t.tops i a, length-set t.below (parent n i) (get_or t.below (parent n i) 0 + a));
        on = omega (arith, g.long.on, length-set t.tops i a);
        links = omega (arith, g.long.links, length-set t.tops i a, length-set t.links i (get_or t.links (parent n i) 0), length-set first (parent n i) i);
      };
      chains = λ v l. subst (λ (N : ℕ). Chain N links'' (get_or links'' v 0) (kids n i v)) (sym (length-set t.tops i a)) (chain_now v l);
      sums = sum_now;
      clear = λ j l. g.clear j (omega arith);
      fresh = fresh_now;
      tops = tops_now;
      marked = record {
        fits = λ v l m. subst (λ (y : ℕ). y ≤ τ.cu) (sym (below_v v (λ q. omega (arith, lower)))) (g.marked.fits v l m);
        sinks = λ v l m k. below_v v (λ q. omega (arith, lower)) ∙ g.marked.sinks v l m k;
        nodes = λ v l m k.
            subst (Relieved τ (hands τ n L (marks_of below'' t.on)) (λ j. get_or t.on j 0) (under n v)) (sym (below_v v (λ q. omega (arith, lower))))
            (relieved_same τ (hands τ n L (marks_of t.below t.on)) (λ j. get_or t.on j 0) (hands τ n L (marks_of below'' t.on)) (λ j. get_or t.on j 0) (under n v) (get_or t.below v 0)
            (λ j x. (hands_same j (let k = kids_are n (suc v) v m j x in omega (arith, k.from)), refl)) (g.marked.nodes v l m k));
      };
    }

-- ---- what a step on a wire reads and writes
pub record Reads (τ : Cell) (n : Net) (leads : List (Option ℕ)) (t : Tables) (i : ℕ) : Type 0 where
  pub in_up : i < length n.parents
  pub in_wires : i < length n.wires
  pub in_below : i < length t.below
  pub in_tops : i < length t.tops
  pub in_links : i < length t.links
  pub few : i < most_places
  pub lower : parent n i < i
  pub size : wire n i ≤ most_wire
  pub lead : leads_in leads i ≤ suc (wire n i)
  pub load : get_or t.below i 0 ≤ τ.cu
  pub sum : get_or t.below (parent n i) 0 ≤ 1024000000

module _ {τ : Cell} {n : Net} {leads : List (Option ℕ)} {t : Tables} {i : ℕ} (eq : τ.cu ≡ τ.cb + τ.D) (pos : 1 ≤ τ.D) (small : τ.cu ≤ most_limit) (a : AtWire τ n leads t i) where
  pub reads : Reads τ n leads t i
  reads =
      let l = a.going.long in
      record {
        in_up = a.within;
        in_wires = omega (arith, a.within, a.sound.wires_long);
        in_below = omega (arith, a.within, l.enough, l.below);
        in_tops = omega (arith, a.within, l.enough);
        in_links = omega (arith, a.within, l.enough, l.links);
        few = omega (arith, a.within, a.sound.few);
        lower = a.sound.lower i a.above a.within;
        size = a.sound.wire_most i;
        lead = a.led.low i;
        load = a.going.marked.fits i (omega arith) a.within;
        sum = below_few τ eq pos small a.sound (leads_in leads) t i a.above a.within a.going;
      }

  -- b is what the wire hands up
  pub push : (b : ℕ) → b ≡ bare τ (wire n i) (leads_in leads i) (get_or t.below i 0)
      → Going τ n (leads_in leads) (tables (set t.below (parent n i) (get_or t.below (parent n i) 0 + b)) (set t.tops i b) t.on (set (set t.links i (get_or t.links (parent n i) 0)) (parent n i) i)) i i
  push b e = pushed τ eq pos small a.sound (leads_in leads) t i a.above a.within a.going b e
