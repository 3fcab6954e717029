-- The walk's invariant: what is settled so far makes the whole whatever comes after, the entries of the wires before i are written, and there is room for the rest.
use Prim.Native.Nat.{ℕ, suc, ◌+◌, ◌-◌, ◌*◌, ◌≤◌, ◌<◌, min}
use mathlib.Core.Path.{◌≡◌, refl, subst, ap, ◌∙◌}
use mathlib.Core.List.{List}
use native.Mathlib.Omega.{arith}
use lib.ListN.{length, get_or, set, replicate, length-set, length-append, length-replicate}
use lib.Seq.{sets, get_or-set_same, get_or-set_other}
use Rattle.rules.specs.Figures.{most_places}
use Rattle.rules.specs.Net.{Net, places, parent, wire, kind}
use Rattle.rules.specs.Tree.{under, tree}
use Rattle.rules.specs.Sound.{SoundNet}
use Rattle.frontier.specs.Cell.{Cell}
use Rattle.frontier.specs.Frontier.{has, Acc, fail, all, acc, close, width}
use Rattle.frontier.specs.Spaced.{steps}
use Rattle.columns.proofs.Spacing.{steps_length}
use Rattle.columns.proofs.Listing.{Listing, listing_none, listing_more, listing_all}
use Rattle.surplus.specs.Wires.{Alive}
use Rattle.surplus.specs.Dealt.{Dealt}
use Rattle.surplus.specs.Choice.{Budgeted, offsets}
use Rattle.surplus.specs.Walk.{Parts}
use Rattle.surplus.specs.Asks.{part_at, Out}
use Rattle.surplus.specs.Descent.{Decided, Begun, Written}
use Rattle.surplus.proofs.Dealing.{dealt_0}
use Rattle.surplus.proofs.Going.{upd, upd_same, upd_other}
use Rattle.surplus.proofs.Passing.{Pass, pass_start, pass_part, pass_sense, pass_fresh, pass_on, pass_end, hanging_each}
use Rattle.surplus.proofs.Meeting.{not_ours}
use Rattle.surplus.proofs.Spending.{Owing, Spent, spent_start, spent_room, spent_on}

abbrev pub sense_at : List ℕ → ℕ → ℕ
sense_at senses v = get_or senses v 0

pub record Descent (τ : Cell) (n : Net) (senses₀ : List ℕ) (e₀ N : ℕ) (ws₀ os₀ senses parts ws os : List ℕ) (i at : ℕ) : Type 0 where
  pub lo : 1 ≤ i
  pub senses_long : length senses ≡ most_places
  pub parts_long : length parts ≡ most_places
  pub left : ℕ → ℕ
  pub offs : ℕ → List ℕ
  pub pass : Pass τ n (sense_at senses₀) (λ v. e₀) (sense_at senses) left (part_at parts) offs i
  pub spent : Spent τ n (sense_at senses) left N i at
  pub listing : (O : ℕ → List ℕ) → ((j : ℕ) → j < i → O j ≡ offs j) → Listing (places n) O ws₀ ws os₀ os i at

pub offsets_length : (τ : Cell) (w h r k : ℕ) → length (offsets τ w h r k) ≡ r + k
offsets_length τ w h r k = length-append (steps w τ.D (min w (τ.cu - h)) r) (replicate k w) ∙ omega (arith, steps_length w τ.D (min w (τ.cu - h)) r, length-replicate {A = ℕ} k w)

-- ---- the start
has_alive : (τ : Cell) (last : ℕ) (y : Acc) (N h h₁ : ℕ) → close τ last y ≡ has N h h₁ → Alive y
unfolding close
has_alive τ last fail N h h₁ e = let z : ◌≡◌ {A = ℕ} 0 1 = cc in absurd (omega arith)
has_alive τ last (all m g) N h h₁ e = tt

budget_owing : (y : Acc) (e N h : ℕ) → Budgeted y e N h → Owing y e N
budget_owing fail e N h b = absurd b
budget_owing (all m g) e N h b = b.0

pub descent_start : (τ : Cell) {n : Net} → SoundNet n → {senses parts : List ℕ} {N : ℕ} {ws os : List ℕ} (b : Begun τ n senses parts N ws os) → Descent τ n senses b.left N ws os senses parts ws os 1 0
descent_start τ {n} sound {senses} {parts} {N} {ws} {os} b = record {
  lo = omega arith;
  senses_long = b.senses_long;
  parts_long = b.parts_long;
  left = λ v. b.left;
  offs = λ j. replicate 0 0;
  pass = pass_start τ n (sense_at senses) (λ v. b.left) (part_at parts) (λ j. replicate 0 0) sound.source b.sense
      (has_alive τ (2 * width (tree n)) (acc τ (tree n) (sense_at senses 0)) N b.load b.more b.is) b.dealt b.fresh;
  spent = spent_start τ n (sense_at senses) (λ v. b.left) N (budget_owing (acc τ (tree n) (sense_at senses 0)) b.left N b.load b.budget);
  listing = λ O q. listing_none (places n) O ws os;
}

-- ---- one wire
module _ (τ : Cell) {n : Net} (sound : SoundNet n) {senses₀ : List ℕ} {e₀ N : ℕ} {ws₀ os₀ senses parts ws os : List ℕ} {i at : ℕ} (d : Descent τ n senses₀ e₀ N ws₀ os₀ senses parts ws os i at) (h : i < places n) where
  pub lower : parent n i < i
  lower = sound.lower i d.lo h

  pub sense_low : sense_at senses (parent n i) ≤ 1
  sense_low = pass_sense τ sound d.pass d.lo h

  pub part_few : part_at parts i ≤ 2
  part_few = (pass_part τ sound d.pass d.lo h).most

  pub own_parts : Parts τ n (sense_at senses (parent n i)) i
  own_parts = (pass_part τ sound d.pass d.lo h).parts

  pub parts_clear : (j : ℕ) → parent n j ≡ i → part_at parts j ≡ 0
  parts_clear j q = pass_fresh τ sound d.pass d.lo h j q

  module _ {q e f r k : ℕ} (z : Decided τ n (sense_at senses (parent n i)) (part_at parts i) i own_parts q e f r k) where
    os' : List ℕ
    os' = offsets τ (wire n i) f r k

    left' : ℕ → ℕ
    left' = upd (upd d.left (parent n i) (d.left (parent n i) - part_at parts i)) i e

    here : left' i ≡ e
    unfolding left'
    here = upd_same (upd d.left (parent n i) (d.left (parent n i) - part_at parts i)) i e

    own : left' (parent n i) ≡ d.left (parent n i) - part_at parts i
    unfolding left'
    own = upd_other (upd d.left (parent n i) (d.left (parent n i) - part_at parts i)) i e (parent n i) (λ q. omega (arith, lower)) ∙ upd_same d.left (parent n i) (d.left (parent n i) - part_at parts i)

    others : (u : ℕ) → (u ≡ i → ⊥) → (u ≡ parent n i → ⊥) → left' u ≡ d.left u
    unfolding left'
    others u ne np = upd_other (upd d.left (parent n i) (d.left (parent n i) - part_at parts i)) i e u ne ∙ upd_other d.left (parent n i) (d.left (parent n i) - part_at parts i) u np

    own_sense : sense_at (set senses i q) i ≡ q
    own_sense = get_or-set_same senses i q 0 (omega (arith, d.senses_long, sound.few))

    sides : (u : ℕ) → (u ≡ i → ⊥) → sense_at (set senses i q) u ≡ sense_at senses u
    sides u ne = get_or-set_other senses i u q 0 ne

    spent_by : Spent τ n (sense_at (set senses i q)) left' N (suc i) (at + length os')
    unfolding os'
    spent_by =
        spent_on τ sound d.spent d.lo h (part_at parts i) e z.below z.load os' own_parts (pass_part τ sound d.pass d.lo h).few sides here own others
        (λ t eo ec et en eb. rw own_sense (z.ok t eo ec et en eb))

    -- there is room for its entries
    pub room : at + (r + k) ≤ N
    unfolding os'
    room = omega (
      arith,
      offsets_length τ (wire n i) f r k,
      spent_room τ sound d.spent d.lo h (part_at parts i) e z.below z.load os' own_parts (pass_part τ sound d.pass d.lo h).few sides here own others
          (λ t eo ec et en eb. rw own_sense (z.ok t eo ec et en eb)),
    )

    -- its node's surplus is dealt: no part is changed but those of its wires
    module _ (parts' ws' os'' : List ℕ) (at' : ℕ) (long : length parts' ≡ most_places) (kept : (j : ℕ) → (parent n j ≡ i → ⊥) → part_at parts' j ≡ part_at parts j) (dealt : kind n i ≡ 0 → Dealt τ (part_at parts') q e (under n i))
        (ea : at' ≡ at + (r + k)) (ew : ws' ≡ sets ws at (replicate (r + k) i)) (eo : os'' ≡ sets os at (offsets τ (wire n i) f r k)) where
      offs' : ℕ → List ℕ
      offs' = upd d.offs i os'

      own_offs : offs' i ≡ offsets τ (wire n i) f r k
      unfolding offs' os'
      own_offs = upd_same d.offs i os'

      older : (j : ℕ) → j < i → offs' j ≡ d.offs j
      unfolding offs'
      older j l = upd_other d.offs i os' j (λ y. omega arith)

      listed : (O : ℕ → List ℕ) → ((j : ℕ) → j < suc i → O j ≡ offs' j) → Listing (places n) O ws₀ ws' os₀ os'' (suc i) at'
      listed O y =
          let o : O i ≡ offsets τ (wire n i) f r k = y i (omega arith) ∙ own_offs in
          let l : length (O i) ≡ r + k = ap length o ∙ offsets_length τ (wire n i) f r k in
          let m : i + 1 ≡ suc i = omega arith in
          subst (λ (u : ℕ). Listing (places n) O ws₀ ws' os₀ os'' u at') m
          (listing_more (d.listing O (λ j x. y j (omega arith) ∙ older j x)) h at' (omega arith) (rw l ew) (rw o eo))

      long' : at + length os' ≡ at'
      unfolding os'
      long' = omega (arith, offsets_length τ (wire n i) f r k)

      pub descent_on : Descent τ n senses₀ e₀ N ws₀ os₀ (set senses i q) parts' ws' os'' (suc i) at'
      unfolding own_parts
      descent_on = record {
        lo = omega arith;
        senses_long = simp length-set d.senses_long;
        parts_long = long;
        left = left';
        offs = offs';
        pass =
            pass_on τ sound d.pass d.lo h e z.below z.load here own others sides older kept
            (λ t to tc tt tn tb. rw own_sense (z.ok t (to ∙ own_offs) tc tt tn tb)) (rw own_sense z.sense) (λ y. rw own_sense (z.live y)) (λ y. rw own_sense (dealt y));
        spent = subst (Spent τ n (sense_at (set senses i q)) left' N (suc i)) long' spent_by;
        listing = listed;
      }

    -- where it has no surplus, nothing is dealt
    pub dealt_none : e ≡ 0 → kind n i ≡ 0 → Dealt τ (part_at parts) q e (under n i)
    dealt_none y x = rw y (dealt_0 τ (part_at parts) q (under n i) (z.live x) (hanging_each sound i (λ j. part_at parts j ≡ 0) (λ j g u. parts_clear j u) (suc i)))

    pub dealt_kept : {parts' : List ℕ} → Out τ parts parts' q e (under n i) → (j : ℕ) → (parent n j ≡ i → ⊥) → part_at parts' j ≡ part_at parts j
    dealt_kept o j ne = o.kept j (not_ours sound i j ne)

-- ---- the end
pub descent_end : (τ : Cell) → τ.cu ≡ τ.cb + τ.D → 1 ≤ τ.D → {n : Net} {senses₀ parts₀ : List ℕ} {N : ℕ} {ws₀ os₀ senses parts ws os : List ℕ} {i at : ℕ} (b : Begun τ n senses₀ parts₀ N ws₀ os₀)
    → Descent τ n senses₀ b.left N ws₀ os₀ senses parts ws os i at → places n ≤ i → Written τ n senses₀ N ws₀ os₀ ws os
descent_end τ eq pos {n} {senses₀} {parts₀} {N} b d l =
    let x = pass_end τ eq pos d.pass l b.sense N b.load b.more b.is b.budget in
    let y = listing_all (d.listing d.offs (λ j l. refl)) l in
    record { offs = d.offs; settled = x.0; few = x.1; holds = record { wires = y.0; offsets = y.1 } }
