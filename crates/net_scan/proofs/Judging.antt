-- The judge of a file: its loop has come to node i at the place `at`. What is left of the fields decides the answer; the two arrays hold
-- the kinds of the nodes before i and the children that each node has among them.
use Rattle.std.specs.Prelude.{Result, Option, None, Ok, Err}
use Prim.Native.Nat.{ℕ, suc, ◌+◌, ◌-◌, ◌<◌, ◌≤◌}
use native.Mathlib.Omega.{arith}
use native.Mathlib.Decide.{ℕ_discrete, dec_lt}
use native.Mathlib.Numerals.{add-one}
use mathlib.Core.Path.{◌≡◌, refl, sym, ap, ◌∙◌}
use mathlib.Core.List.{List, ◌∷◌}
use lib.ListN.{length, get_or, set, drop, replicate, length-set, length-replicate}
use lib.Seq.{get_or-set_same, get_or-set_other}
use lib.Dec.{leb}
use borrow.Author.Tests.{le-ltb}
use Rattle.rules.specs.declared.Limits.{Limits}
use Rattle.rules.specs.declared.Node.{Node}
use Rattle.rules.specs.declared.Refusal.{Refusal}
use Rattle.rules.specs.declared.Refusal.TheVariants.{BytesAfterEnd}
use Rattle.rules.specs.Judged.{Judged}
use Rattle.rules.specs.Figures.{most_nodes, most_places}
use Rattle.rules.specs.Net.{Net, places, parent, kind, node}
use Rattle.rules.specs.Judge.{unless, then_judge, admitted, node_judged, has_child, children, childed_by, childed}
use Rattle.net.specs.Counted.{Tallied}
use Rattle.rules.proofs.Each.{each_same}
use Rattle.rules.proofs.SoundSays.{Fits, parent_fits_lem}
use Rattle.net.proofs.Judging.{tallied_start, tallied_after}
use Rattle.net_file.specs.declared.Taken.{Taken}
use Rattle.net_file.specs.NetFile.{one_node, read_as, taken_at, follow, fields_from, nodes_of, source, fields_judged, net_with, fields_of, net_from}
use Rattle.net_scan.specs.Kept.{tells}
use Rattle.net_file.proofs.FieldsJudged.{admitted_fits, admitted_anywhere}
use Rattle.net_file.proofs.Nodes.{node_is, places_are, Heads, heads, none_left}

-- ---- one node

-- a parent that is not lower is refused whatever its kind
admitted_as : (l : Limits) (d : Node) (i k k' c place : ℕ) → (d.parent < i → k ≡ k') → admitted l d i k c place ≡ admitted l d i k' c place
admitted_as l d i k k' c place h = elim (dec_lt d.parent i) [
  | yes lt ↦ ap (λ (x : ℕ). admitted l d i x c place) (h lt)
  | no ge ↦ rw (le-ltb d.parent i (omega arith))
]

-- ---- the loop
module _ (l : Limits) (s : List ℕ) where
  abbrev pub All : List Node
  All = source ∷ nodes_of (fields_of s)

  abbrev pub N : Net
  N = net_with l (fields_of s)

  abbrev pub Whole : Judged
  Whole = fields_judged N (length s) 1 (fields_of s)

  pub record Judging (kinds counts : List ℕ) (at i : ℕ) : Type 0 where
    pub k : ℕ
    pub fuel : k + i ≡ most_places
    pub some : 1 ≤ i
    pub within : i ≤ length All
    pub left : drop i All ≡ nodes_of (fields_from (suc k) s at)
    pub rest : Whole ≡ fields_judged N (length s) i (fields_from (suc k) s at)
    pub tallied : Tallied N counts i
    pub long : length kinds ≡ most_places
    pub kinds_are : (j : ℕ) → j < i → get_or kinds j 0 ≡ kind N j

  begin : Judging (replicate most_places 0) (replicate most_places 0) 12 1
  begin = record {
    k = most_nodes;
    fuel = refl;
    some = omega arith;
    within = omega arith;
    left = refl;
    rest = refl;
    tallied = tallied_start N;
    long = length-replicate {A = ℕ} most_places 0;
    kinds_are = λ j h. let z : j ≡ 0 = omega arith in rw z;
  }

  pub start : {kinds : List ℕ} → kinds ≡ replicate most_places 0 → Judging kinds (replicate most_places 0) 12 1
  start e = rw e begin

  told_unsound : (r : Refusal) → Whole ≡ Err r → Err r ≡ tells (net_from s l)
  unfolding net_from
  told_unsound r e = rw e

  told_sound : (n : ℕ) → Whole ≡ Ok tt → n ≡ length All → read_as l n ≡ tells (net_from s l)
  unfolding net_from
  told_sound n e h = rw (e, places_are l All, h)

  module _ {kinds counts : List ℕ} {at i : ℕ} (j : Judging kinds counts at i) where
    step : (t : Result (Option Taken) Refusal) → taken_at s at ≡ t → (Whole ≡ fields_judged N (length s) i (follow at t (fields_from j.k s))) × (drop i All ≡ nodes_of (follow at t (fields_from j.k s)))
    unfolding fields_from
    step t e = (
      j.rest ∙ ap (λ (x : Result (Option Taken) Refusal). fields_judged N (length s) i (follow at x (fields_from j.k s))) e,
      j.left ∙ ap (λ (x : Result (Option Taken) Refusal). nodes_of (follow at x (fields_from j.k s))) e,
    )

    -- what is neither a node nor the end
    pub stop_wrong : (r : Refusal) → taken_at s at ≡ Err r → Err r ≡ tells (net_from s l)
    unfolding fields_judged
    stop_wrong r e = told_unsound r (step (Err r) e).0

    -- the end
    module _ {r : Judged} (e : taken_at s at ≡ Ok None)
        (is : r ≡ then_judge (unless (leb (length s) (at + 3)) (BytesAfterEnd (at + 3))) (childed_by (λ v. get_or kinds v 0) (λ v. get_or counts v 0) i)) where
      all_seen : i ≡ length All
      unfolding nodes_of
      all_seen = let h : length All ≤ i = none_left All i (step (Ok None) e).1 in omega (arith, j.within)

      whole_is : Whole ≡ r
      unfolding fields_judged
      whole_is =
          let m : places N ≡ i = places_are l All ∙ sym all_seen in
          let same : childed_by (λ v. get_or kinds v 0) (λ v. get_or counts v 0) i ≡ childed N
          = each_same (λ v. has_child v (get_or kinds v 0) (get_or counts v 0)) (λ v. has_child v (kind N v) (children N (i - 1) v)) i 0 (λ v lo hi. rw (j.kinds_are v (omega arith), j.tallied.each v))
          ∙ ap (λ (x : ℕ). childed_by (kind N) (children N (x - 1)) x) (sym m) in
          (step (Ok None) e).0 ∙ sym (is ∙ rw same)

      pub stop_end : (x : Refusal) → r ≡ Err x → Err x ≡ tells (net_from s l)
      stop_end x h = told_unsound x (whole_is ∙ h)

      pub ends : r ≡ Ok tt → read_as l i ≡ tells (net_from s l)
      ends h = told_sound i (whole_is ∙ h) all_seen

    -- a node
    module _ {d : Node} {next : ℕ} {r : Judged} (e : taken_at s at ≡ one_node d next)
        (is : r ≡ admitted l d i (get_or kinds d.parent 0) (get_or counts d.parent 0) at) where
      head : Heads All i d (nodes_of (fields_from j.k s next))
      unfolding nodes_of
      head = heads i (step (one_node d next) e).1

      node_here : d ≡ node N i
      node_here = sym (node_is l All i ∙ head.first)

      -- the arrays say of the parent what the columns do
      admits : (place : ℕ) → admitted l d i (get_or kinds d.parent 0) (get_or counts d.parent 0) place ≡ admitted l d i (kind N d.parent) (get_or counts d.parent 0) place
      admits place = admitted_as l d i (get_or kinds d.parent 0) (kind N d.parent) (get_or counts d.parent 0) place (j.kinds_are d.parent)

      judged_here : r ≡ node_judged N i at
      judged_here = is ∙ admits at ∙ rw (node_here, j.tallied.each (parent N i))

      whole_here : Whole ≡ then_judge r (fields_judged N (length s) (suc i) (fields_from j.k s next))
      unfolding fields_judged
      whole_here = (step (one_node d next) e).0 ∙ rw (← judged_here)

      pub stop_node : (x : Refusal) → r ≡ Err x → Err x ≡ tells (net_from s l)
      stop_node x h = told_unsound x (whole_here ∙ rw h)

      module _ (sound : r ≡ Ok tt) where
        pub fits : Fits i d.parent (get_or kinds d.parent 0) (get_or counts d.parent 0)
        fits = parent_fits_lem i d.parent (get_or kinds d.parent 0) (get_or counts d.parent 0) (admitted_fits l d i (get_or kinds d.parent 0) (get_or counts d.parent 0) at (sym is ∙ sound)).1

        kinds_next : (v : ℕ) → v < i + 1 → get_or (set kinds i d.kind) v 0 ≡ kind N v
        kinds_next v h = elim (ℕ_discrete v i) [
          | yes q ↦ rw (q, get_or-set_same kinds i d.kind 0 (omega (arith, j.long, fits.few))) (ap (λ (x : Node). x.kind) node_here)
          | no q ↦ get_or-set_other kinds i v d.kind 0 q ∙ j.kinds_are v (omega arith)
        ]

        pub next_node : {kinds' more : List ℕ} → kinds' ≡ set kinds i d.kind → more ≡ set counts d.parent (get_or counts d.parent 0 + 1) → Judging kinds' more next (i + 1)
        next_node k q =
            let f : suc (j.k - 1) ≡ j.k = omega (arith, j.fuel, fits.few) in
            let ok : Ok tt ≡ admitted l d i (kind N d.parent) (get_or counts d.parent 0) i = sym (sym (admits i) ∙ admitted_anywhere l d i (get_or kinds d.parent 0) (get_or counts d.parent 0) at i (sym is ∙ sound)) in
            record {
              k = j.k - 1;
              fuel = omega (arith, j.fuel, fits.few);
              some = omega arith;
              within = omega (arith, head.inside);
              left = rw (f, add-one) head.others;
              rest = rw (f, add-one) (whole_here ∙ rw sound);
              tallied = tallied_after j.tallied node_here ok refl j.some (omega (arith, fits.few)) q;
              long = rw (k, length-set) j.long;
              kinds_are = rw k kinds_next;
            }
