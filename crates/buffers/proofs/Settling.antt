-- A node gets its load: what was said of the other nodes and wires stays as it was.
use Prim.Native.Nat.{ℕ, zero, suc, ◌+◌, ◌≤◌, ◌<◌}
use mathlib.Core.Path.{◌≡◌, refl, sym, subst, ap, ◌∙◌}
use mathlib.Core.List.{List}
use lib.ListN.{length, get_or, set, length-set}
use lib.Seq.{get_or-set_same, get_or-set_other, set-get_or}
use native.Mathlib.Omega.{arith}
use native.Mathlib.Decide.{ℕ_discrete}
use Rattle.rules.specs.Figures.{most_places}
use Rattle.rules.specs.Net.{Net, places, parent, wire, kind, pin}
use Rattle.rules.specs.Tree.{under}
use Rattle.rules.specs.Legal.{Each}
use Rattle.rules.specs.Sound.{SoundNet}
use Rattle.frontier.specs.Cell.{Cell}
use Rattle.relief.specs.Pieces.{piece, bare, topped}
use Rattle.relief.proofs.Pieces.{T-ceil}
use Rattle.relief.specs.Marks.{Divides, light, heavy, Relieved, Marks, hands, out, Marked, pin_over, wires_over}
use Rattle.buffers.specs.Chain.{sum_l, Chain, Among}
use Rattle.buffers.specs.Easing.{Fresh, Loaded, Easing, Ended, within, stuck, Eased}
use Rattle.std.specs.Prelude.{Ok, Err}
use Rattle.rules.specs.declared.Refusal.TheVariants.{NoLegalPlacement}
use Rattle.buffers.specs.declared.Tables.{Tables}
use Rattle.buffers.specs.Going.{tables, marks_of, kids, Going, Lost, Tried, can, cannot, AtNode}
use Rattle.buffers.proofs.Lists.{each_map, each_of, each_at, sum_same}
use Rattle.buffers.proofs.Relieving.{easing_start}
use Rattle.buffers.proofs.Kids.{kids_are, kids_has, each_tree, sum_tree, relieved_same}

module _ (τ : Cell) (eq : τ.cu ≡ τ.cb + τ.D) (pos : 1 ≤ τ.D) {n : Net} (sound : SoundNet n) (L : ℕ → ℕ) where
  pub out_fits : (m : Marks) (j : ℕ) → out τ n L m j ≤ τ.cu
  out_fits m j = go (m.on j)
    where
      go : (k : ℕ) → topped τ k (hands τ n L m j) ≤ τ.cu
      go zero = T-ceil τ eq pos (piece τ (wire n j) (L j) (m.load j))
      go (suc k) = omega arith

  module _ (t : Tables) (i : ℕ) (g : Going τ n L t (suc i) (suc i)) (h : i < places n) where
    -- ---- what the node's wires say
    fresh_kids : Fresh τ t.tops t.on (kids n (suc i) i) (get_or t.below i 0)
    fresh_kids = record {
      within = each_of (λ j. get_or t.tops j 0 ≤ τ.cu) (kids n (suc i) i) (λ j a. let k = kids_are n (suc i) i h j a in omega (arith, g.tops j k.from k.within, out_fits (marks_of t.below t.on) j));
      clear = g.fresh i (omega arith);
      sum = g.sums i (omega arith);
    }

    pub going_loaded : Loaded τ t.links t.tops t.on (get_or t.links i 0) (get_or t.below i 0)
    going_loaded = record {
      chained = record {
        long = g.long.links;
        few = g.long.few;
        js = kids n (suc i) i;
        chain = g.chains i (omega arith);
      };
      on_long = g.long.on;
      fresh = fresh_kids;
    }

    -- ---- the tables after it
    module _ (tops on : List ℕ) (load : ℕ)
        (tops_long : length tops ≡ length t.tops) (on_long : length on ≡ length t.on)
        (tops_kept : (j : ℕ) → (Among j (kids n (suc i) i) → ⊥) → get_or tops j 0 ≡ get_or t.tops j 0)
        (on_kept : (j : ℕ) → (Among j (kids n (suc i) i) → ⊥) → get_or on j 0 ≡ get_or t.on j 0)
        (tops_are : Each (λ j. get_or tops j 0 ≡ topped τ (get_or on j 0) (get_or t.tops j 0)) (kids n (suc i) i)) where
      below : List ℕ
      below = set t.below i load

      other_kid : (v : ℕ) → (v ≡ i → ⊥) → v < places n → (b : ℕ) → b ≤ places n → (j : ℕ) → Among j (kids n b v) → Among j (kids n (suc i) i) → ⊥
      other_kid v ne hv b hb j a a' = ne (sym (kids_are n b v hb j a).up ∙ (kids_are n (suc i) i h j a').up)

      below_own : get_or (set t.below i load) i 0 ≡ load
      below_own = get_or-set_same t.below i load 0 (omega (arith, g.long.below, g.long.enough))

      below_other : (v : ℕ) → (v ≡ i → ⊥) → get_or (set t.below i load) v 0 ≡ get_or t.below v 0
      below_other v ne = get_or-set_other t.below i v load 0 ne

      hands_same : (j : ℕ) → (j ≡ i → ⊥) → hands τ n L (marks_of (set t.below i load) on) j ≡ hands τ n L (marks_of t.below t.on) j
      hands_same j ne = ap (bare τ (wire n j) (L j)) (below_other j ne)

      -- a wire of the node, before: not topped
      was_bare : (j : ℕ) → Among j (kids n (suc i) i) → get_or t.tops j 0 ≡ hands τ n L (marks_of t.below t.on) j
      was_bare j a =
          let k = kids_are n (suc i) i h j a in
          g.tops j k.from k.within ∙ subst (λ (y : ℕ). topped τ y (hands τ n L (marks_of t.below t.on) j) ≡ hands τ n L (marks_of t.below t.on) j) (sym (each_at (λ j. get_or t.on j 0 ≡ 0) (kids n (suc i) i) (g.fresh i (omega arith)) j a)) refl

      tops_now : (j : ℕ) → suc i ≤ j → j < places n → get_or tops j 0 ≡ out τ n L (marks_of (set t.below i load) on) j
      tops_now j lo hi = elim (ℕ_discrete (parent n j) i) [
        | yes e ↦ (
            let a : Among j (kids n (suc i) i) = kids_has n (suc i) i j e lo hi in
            each_at (λ j. get_or tops j 0 ≡ topped τ (get_or on j 0) (get_or t.tops j 0)) (kids n (suc i) i) tops_are j a
            ∙ ap (topped τ (get_or on j 0)) (was_bare j a ∙ sym (hands_same j (λ q. omega arith)))
            )
        | no ne ↦ (
            let no_kid : (Among j (kids n (suc i) i) → ⊥) = λ a. ne (kids_are n (suc i) i h j a).up in
            tops_kept j no_kid ∙ g.tops j lo hi ∙ ap (λ (k : ℕ). topped τ k (hands τ n L (marks_of t.below t.on) j)) (sym (on_kept j no_kid)) ∙ ap (topped τ (get_or on j 0)) (sym (hands_same j (λ q. omega arith)))
            )
      ]

      later_marked : Marked τ n L (marks_of (set t.below i load) on) (suc i)
      later_marked = record {
        fits = λ v lo hi. subst (λ (y : ℕ). y ≤ τ.cu) (sym (below_other v (λ q. omega arith))) (g.marked.fits v lo hi);
        sinks = λ v lo hi k. below_other v (λ q. omega arith) ∙ g.marked.sinks v lo hi k;
        nodes = λ v lo hi k.
            subst (Relieved τ (hands τ n L (marks_of (set t.below i load) on)) (λ j. get_or on j 0) (under n v)) (sym (below_other v (λ q. omega arith)))
            (relieved_same τ (hands τ n L (marks_of t.below t.on)) (λ j. get_or t.on j 0) (hands τ n L (marks_of (set t.below i load) on)) (λ j. get_or on j 0) (under n v) (get_or t.below v 0)
            (λ j a. (hands_same j (λ q. let x = kids_are n (suc v) v hi j a in omega (arith, x.from)), on_kept j (other_kid v (λ q. omega arith) hi (suc v) hi j a))) (g.marked.nodes v lo hi k));
      }

      going_set : Marked τ n L (marks_of (set t.below i load) on) i → Going τ n L (tables (set t.below i load) tops on t.links) (suc i) i
      going_set mk = record {
        long = record {
          enough = omega (arith, g.long.enough);
          few = omega (arith, g.long.few);
          below = length-set t.below i load ∙ g.long.below ∙ sym tops_long;
          on = omega (arith, g.long.on);
          links = omega (arith, g.long.links);
        };
        chains = λ v l. subst (λ (N : ℕ). Chain N t.links (get_or t.links v 0) (kids n (suc i) v)) (sym tops_long) (g.chains v (omega arith));
        sums = λ v l. sum_same (λ j. get_or tops j 0) (λ j. get_or t.tops j 0) (kids n (suc i) v) (λ j a. tops_kept j (other_kid v (λ q. omega arith) (omega arith) (suc i) h j a)) ∙ g.sums v (omega arith) ∙ sym (below_other v (λ q. omega arith));
        clear = λ j l. on_kept j (λ a. let k = kids_are n (suc i) i h j a in omega (arith, k.from)) ∙ g.clear j l;
        fresh = λ v l. each_map (λ j. get_or t.on j 0 ≡ 0) (λ j. get_or on j 0 ≡ 0) (kids n (suc i) v) (λ j a z. on_kept j (other_kid v (λ q. omega arith) (omega arith) (suc i) h j a) ∙ z) (g.fresh v (omega arith));
        tops = tops_now;
        marked = mk;
      }

      -- a node that is eased
      module _ (branch : kind n i ≡ 0) (e : Easing τ t.tops t.on tops on (kids n (suc i) i) load) where
        own_each : (x : ℕ) → Each (λ j. Divides τ x (get_or t.tops j 0) (get_or on j 0)) (kids n (suc i) i) → Each (λ j. Divides τ x (hands τ n L (marks_of (set t.below i load) on) j) (get_or on j 0)) (kids n (suc i) i)
        own_each x d =
            each_map (λ j. Divides τ x (get_or t.tops j 0) (get_or on j 0)) (λ j. Divides τ x (hands τ n L (marks_of (set t.below i load) on) j) (get_or on j 0)) (kids n (suc i) i)
            (λ j a y. let k = kids_are n (suc i) i h j a in subst (λ (z : ℕ). Divides τ x z (get_or on j 0)) (was_bare j a ∙ sym (hands_same j (λ q. omega (arith, k.from)))) y) d

        own_sum : sum_l (out τ n L (marks_of (set t.below i load) on)) (kids n (suc i) i) ≡ load
        own_sum = sum_same (out τ n L (marks_of (set t.below i load) on)) (λ j. get_or tops j 0) (kids n (suc i) i) (λ j a. let k = kids_are n (suc i) i h j a in sym (tops_now j k.from k.within)) ∙ e.load

        pub node_settled : load ≤ τ.cu → Going τ n L (tables (set t.below i load) tops on t.links) (suc i) i
        node_settled fits = going_set (record {
          fits = λ v lo hi. elim (ℕ_discrete v i) [
            | yes q ↦ subst (λ (v : ℕ). get_or (set t.below i load) v 0 ≤ τ.cu) (sym q) (omega (arith, below_own))
            | no ne ↦ later_marked.fits v (omega arith) hi
          ];
          sinks = λ v lo hi k. elim (ℕ_discrete v i) [
            | yes q ↦ absurd (let z : kind n i ≡ 1 = subst (λ (v : ℕ). kind n v ≡ 1) q k in omega arith)
            | no ne ↦ later_marked.sinks v (omega arith) hi k
          ];
          nodes = λ v lo hi k. elim (ℕ_discrete v i) [
            | yes q ↦ subst (λ (v : ℕ). Relieved τ (hands τ n L (marks_of (set t.below i load) on)) (λ j. get_or on j 0) (under n v) (get_or (set t.below i load) v 0)) (sym q) own
            | no ne ↦ later_marked.nodes v (omega arith) hi k
          ];
        })
          where
            own : Relieved τ (hands τ n L (marks_of (set t.below i load) on)) (λ j. get_or on j 0) (under n i) (get_or (set t.below i load) i 0)
            own = rw below_own (record {
              x = e.x;
              small = e.small;
              each = each_tree (λ j. Divides τ e.x (hands τ n L (marks_of (set t.below i load) on) j) (get_or on j 0)) (under n i) (own_each e.x e.each);
              tight = λ l. e.tight (omega (arith, sum_tree (λ j. get_or on j 0) (under n i)));
              load = sum_tree (out τ n L (marks_of (set t.below i load) on)) (under n i) ∙ own_sum;
            })

        lighter : (x a k : ℕ) → Divides τ x a k → (y : ℕ) → y ≡ topped τ k a → y ≤ τ.cb → Divides τ 0 a k
        lighter x a k (light l) y e h = light (omega arith)
        lighter x a k (heavy l) y e h = heavy (omega arith)

        pub node_stuck : τ.cu < load → Each (λ j. get_or tops j 0 ≤ τ.cb) (kids n (suc i) i) → Lost τ n L
        node_stuck over low = record {
          marks = marks_of (set t.below i load) on;
          v = i;
          low = h;
          marked = later_marked;
          stuck = wires_over branch
              (each_tree (λ j. Divides τ 0 (hands τ n L (marks_of (set t.below i load) on) j) (get_or on j 0)) (under n i)
              (own_each 0 (each_of (λ j. Divides τ 0 (get_or t.tops j 0) (get_or on j 0)) (kids n (suc i) i) (λ j a.
              lighter e.x (get_or t.tops j 0) (get_or on j 0) (each_at (λ j. Divides τ e.x (get_or t.tops j 0) (get_or on j 0)) (kids n (suc i) i) e.each j a) (get_or tops j 0)
              (each_at (λ j. get_or tops j 0 ≡ topped τ (get_or on j 0) (get_or t.tops j 0)) (kids n (suc i) i) tops_are j a)
              (each_at (λ j. get_or tops j 0 ≤ τ.cb) (kids n (suc i) i) low j a)))))
              (omega (arith, sum_tree (out τ n L (marks_of (set t.below i load) on)) (under n i), own_sum));
        }

      -- a sink
      pub sink_settled : kind n i ≡ 1 → load ≡ pin n i → load ≤ τ.cu → Going τ n L (tables (set t.below i load) tops on t.links) (suc i) i
      sink_settled k e fits = going_set (record {
        fits = λ v lo hi. elim (ℕ_discrete v i) [
          | yes q ↦ subst (λ (v : ℕ). get_or (set t.below i load) v 0 ≤ τ.cu) (sym q) (omega (arith, below_own))
          | no ne ↦ later_marked.fits v (omega arith) hi
        ];
        sinks = λ v lo hi k'. elim (ℕ_discrete v i) [
          | yes q ↦ subst (λ (v : ℕ). get_or (set t.below i load) v 0 ≡ pin n v) (sym q) (below_own ∙ e)
          | no ne ↦ later_marked.sinks v (omega arith) hi k'
        ];
        nodes = λ v lo hi k'. elim (ℕ_discrete v i) [
          | yes q ↦ absurd (let z : kind n i ≡ 0 = subst (λ (v : ℕ). kind n v ≡ 0) q k' in omega arith)
          | no ne ↦ later_marked.nodes v (omega arith) hi k'
        ];
      })

    pub sink_stuck : kind n i ≡ 1 → τ.cu < pin n i → Lost τ n L
    sink_stuck k over = record { marks = marks_of t.below t.on; v = i; low = h; marked = g.marked; stuck = pin_over k over }

-- ---- in the code's terms
module _ {τ : Cell} {n : Net} {L : ℕ → ℕ} {t : Tables} {i : ℕ} (eq : τ.cu ≡ τ.cb + τ.D) (pos : 1 ≤ τ.D) (sound : SoundNet n) (h : i < places n) (g : Going τ n L t (suc i) (suc i)) where
  pub eased_within : (tops on : List ℕ) (load : ℕ) → kind n i ≡ 0 → Eased τ t.tops t.on tops on (kids n (suc i) i) load → load ≤ τ.cu → Going τ n L (tables (set t.below i load) tops on t.links) (suc i) i
  eased_within tops on load k e fits = let e' = e.easing in node_settled τ eq pos sound L t i g h tops on load e'.tops_long e'.on_long e'.tops_kept e'.on_kept e'.tops_are k e' fits

  pub eased_stuck : (tops on : List ℕ) (load : ℕ) → kind n i ≡ 0 → Eased τ t.tops t.on tops on (kids n (suc i) i) load → τ.cu < load → Lost τ n L
  eased_stuck tops on load k e over = let e' = e.easing in go e' e.ended
    where
      go : Easing τ t.tops t.on tops on (kids n (suc i) i) load → Ended τ tops (kids n (suc i) i) load → Lost τ n L
      go e' (within l) = absurd (omega arith)
      go e' (stuck o low) = node_stuck τ eq pos sound L t i g h tops on load e'.tops_long e'.on_long e'.tops_kept e'.on_kept e'.tops_are k e' o low

  pub pin_within : kind n i ≡ 1 → pin n i ≤ τ.cu → Going τ n L (tables (set t.below i (pin n i)) t.tops t.on t.links) (suc i) i
  pin_within k l =
      sink_settled τ eq pos sound L t i g h t.tops t.on (pin n i) refl refl (λ j x. refl) (λ j x. refl)
      (each_of (λ j. get_or t.tops j 0 ≡ topped τ (get_or t.on j 0) (get_or t.tops j 0)) (kids n (suc i) i) (λ j a. subst (λ (y : ℕ). get_or t.tops j 0 ≡ topped τ y (get_or t.tops j 0)) (sym (each_at (λ j. get_or t.on j 0 ≡ 0) (kids n (suc i) i) (g.fresh i (omega arith)) j a)) refl))
      k refl l

  pub pin_stuck : kind n i ≡ 1 → τ.cu < pin n i → Lost τ n L
  pin_stuck k o = sink_stuck τ eq pos sound L t i g h k o

-- ---- what the step reads
pub record Reads (n : Net) (t : Tables) (i : ℕ) : Type 0 where
  pub in_kinds : i < length n.kinds
  pub in_pins : i < length n.pins
  pub in_below : i < length t.below
  pub in_links : i < length t.links
  pub few : i < most_places

module _ {τ : Cell} {n : Net} {t : Tables} {i : ℕ} (eq : τ.cu ≡ τ.cb + τ.D) (pos : 1 ≤ τ.D) where
  pub reads : (L : ℕ → ℕ) → AtNode τ n L t i → Reads n t i
  reads L a =
      let l = a.going.long in
      record {
        in_kinds = omega (arith, a.within, a.sound.kinds_long);
        in_pins = omega (arith, a.within, a.sound.pins_long);
        in_below = omega (arith, a.within, l.enough, l.below);
        in_links = omega (arith, a.within, l.enough, l.links);
        few = omega (arith, a.within, a.sound.few);
      }

  pub loaded : (L : ℕ → ℕ) → AtNode τ n L t i → Loaded τ t.links t.tops t.on (get_or t.links i 0) (get_or t.below i 0)
  loaded L a = going_loaded τ eq pos a.sound L t i a.going a.within

  module _ (k : kind n i ≡ 1) where
    pub sink_over : (u : Tables) → τ.cu < pin n i → (L : ℕ → ℕ) → AtNode τ n L t i → Tried τ n L u (suc i) i (Err NoLegalPlacement)
    sink_over u o L a = cannot (pin_stuck eq pos a.sound a.within a.going k o)

    pub sink_in : pin n i ≤ τ.cu → (L : ℕ → ℕ) → AtNode τ n L t i → Tried τ n L (tables (set t.below i (pin n i)) t.tops t.on t.links) (suc i) i (Ok tt)
    sink_in l L a = can (pin_within eq pos a.sound a.within a.going k l)

  branch : (kind n i ≡ 1 → ⊥) → {L : ℕ → ℕ} → AtNode τ n L t i → kind n i ≡ 0
  branch k a = omega (arith, k, a.sound.kind_most i)

  -- what hangs there fits as it is
  pub node_fits : (kind n i ≡ 1 → ⊥) → get_or t.below i 0 ≤ τ.cu → (L : ℕ → ℕ) → AtNode τ n L t i → Tried τ n L t (suc i) i (Ok tt)
  node_fits k l L a =
      can (subst (λ (b : List ℕ). Going τ n L (tables b t.tops t.on t.links) (suc i) i) (set-get_or t.below i 0)
      (eased_within eq pos a.sound a.within a.going t.tops t.on (get_or t.below i 0) (branch k a)
      (record { easing = easing_start τ eq t.tops t.on (kids n (suc i) i) (get_or t.below i 0) (fresh_kids τ eq pos a.sound L t i a.going a.within); ended = within l }) l))

  -- or once its wires are eased
  module _ (k : kind n i ≡ 1 → ⊥) (u : Tables) (load : ℕ) (e : (js : List ℕ) → Chain (length t.tops) t.links (get_or t.links i 0) js → Eased τ t.tops t.on u.tops u.on js load) where
    pub node_over : τ.cu < load → (L : ℕ → ℕ) → AtNode τ n L t i → Tried τ n L u (suc i) i (Err NoLegalPlacement)
    node_over o L a = cannot (eased_stuck eq pos a.sound a.within a.going u.tops u.on load (branch k a) (e (kids n (suc i) i) (a.going.chains i (omega arith))) o)

    pub node_in : (u.below ≡ t.below) × (u.links ≡ t.links) → load ≤ τ.cu → (L : ℕ → ℕ) → AtNode τ n L t i → Tried τ n L (tables (set u.below i load) u.tops u.on u.links) (suc i) i (Ok tt)
    node_in same l L a = rw (same.0, same.1) (can (eased_within eq pos a.sound a.within a.going u.tops u.on load (branch k a) (e (kids n (suc i) i) (a.going.chains i (omega arith))) l))
