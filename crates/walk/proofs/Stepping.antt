-- One step of the walk: what it asks of each call, and what it comes to.
use Prim.Native.Nat.{ℕ, suc, ◌+◌, ◌≤◌, ◌<◌}
use mathlib.Core.Path.{◌≡◌, refl, subst, ap}
use mathlib.Core.List.{List}
use native.Mathlib.Omega.{arith}
use native.Mathlib.Decide.{ℕ_discrete}
use lib.ListN.{length, set, replicate}
use lib.Seq.{sets}
use Rattle.rules.specs.Net.{Net, places, parent, wire, kind}
use Rattle.rules.specs.Tree.{under}
use Rattle.rules.specs.Sound.{SoundNet}
use Rattle.frontier.specs.Cell as model
use Rattle.states.specs.declared.Cell.{Cell}
use Rattle.states.specs.States.{model_of, CellOk}
use Rattle.columns.proofs.Listing.{wires_long, offsets_long}
use Rattle.surplus.specs.declared.Slot.{Slot}
use Rattle.surplus.specs.declared.Closed.{Closed}
use Rattle.surplus.specs.Choice.{offsets}
use Rattle.surplus.specs.Tables.{head_at, WiresJoined, NodesClosed}
use Rattle.surplus.specs.Asks.{part_at, Asks, Out}
use Rattle.surplus.specs.Descent.{Cutting, Decided}
use Rattle.walk.specs.Steps.{Handed}
use Rattle.surplus.proofs.Meeting.{asks_under}
use Rattle.surplus.proofs.Filling.{own_first}
use Rattle.surplus.proofs.Descending.{sense_at, Descent, lower, sense_low, part_few, own_parts, parts_clear, room, descent_on, dealt_none, dealt_kept}

module _ {c : Cell} (ok : CellOk c) (one : c.repeater ≡ 1) {n : Net} (sound : SoundNet n) {links : List ℕ} {slots : List Slot} {near : List Closed}
    (w : WiresJoined (model_of c) n links slots 1) (cl : NodesClosed (model_of c) n near 0)
    {senses₀ : List ℕ} {e₀ N : ℕ} {ws₀ os₀ senses parts ws os : List ℕ} {i at : ℕ} (d : Descent (model_of c) n senses₀ e₀ N ws₀ os₀ senses parts ws os i at) (h : i < places n) where
  unfoldable pub cuts : {u : ℕ} → u ≡ wire n i → Cutting (model_of c) n u links slots near (sense_at senses (parent n i)) (part_at parts i) i
  cuts e = record {
    kind = ap model.kind_of one;
    sound = sound;
    lo = d.lo;
    here = h;
    size = e;
    low = sense_low (model_of c) sound d h;
    few = part_few (model_of c) sound d h;
    joined = w;
    closed = cl;
    parts = own_parts (model_of c) sound d h;
  }

  pub above : parent n i < i
  above = lower (model_of c) sound d h

  module _ {q e f r k : ℕ} (z : Decided (model_of c) n (sense_at senses (parent n i)) (part_at parts i) i (own_parts (model_of c) sound d h) q e f r k) where
    pub fits : at + (r + k) ≤ N
    fits = room (model_of c) sound d h z

    -- only a branch point has a surplus
    branch : (e ≡ 0 → ⊥) → kind n i ≡ 0
    branch ne = elim (ℕ_discrete (kind n i) 0) [ yes y ↦ y | no y ↦ absurd (ne (z.sink y)) ]

    pub asks : (e ≡ 0 → ⊥) → Asks (model_of c) links slots parts q (head_at links i) (under n i)
    asks ne =
        asks_under (model_of c) ok.eq ok.pos ok.small sound w z.sense parts i (omega (arith, d.lo)) h (own_first (model_of c) sound w (omega (arith, d.lo)) h) d.parts_long (z.live (branch ne)) (parts_clear (model_of c) sound d h)

    module _ {ws' os'' : List ℕ} {at' : ℕ} (ea : at' ≡ at + (r + k)) (ew : ws' ≡ sets ws at (replicate (r + k) i)) (eo : os'' ≡ sets os at (offsets (model_of c) (wire n i) f r k)) where
      next : {parts' : List ℕ} → Descent (model_of c) n senses₀ e₀ N ws₀ os₀ (set senses i q) parts' ws' os'' (suc i) at' → Descent (model_of c) n senses₀ e₀ N ws₀ os₀ (set senses i q) parts' ws' os'' (i + 1) at'
      next {parts'} x = let m : suc i ≡ i + 1 = omega arith in subst (λ (j : ℕ). Descent (model_of c) n senses₀ e₀ N ws₀ os₀ (set senses i q) parts' ws' os'' j at') m x

      pub step : (parts' : List ℕ) → Handed (model_of c) links slots parts q i e parts' → Descent (model_of c) n senses₀ e₀ N ws₀ os₀ (set senses i q) parts' ws' os'' (i + 1) at'
      step parts' y = elim (ℕ_discrete e 0) [
        | yes x ↦ rw (y.none x) (next (descent_on (model_of c) sound d h z parts ws' os'' at' d.parts_long (λ j ne. refl) (dealt_none (model_of c) sound d h z x) ea ew eo))
        | no ne ↦
            let o : Out (model_of c) parts parts' q e (under n i) = y.dealt ne (under n i) (asks ne) in
            next (descent_on (model_of c) sound d h z parts' ws' os'' at' o.long (dealt_kept (model_of c) sound d h z o) (λ y. o.dealt) ea ew eo)
      ]

pub still_long : {τ : model.Cell} {n : Net} {senses₀ : List ℕ} {e₀ N : ℕ} {ws₀ os₀ senses parts ws os : List ℕ} {i at : ℕ} → Descent τ n senses₀ e₀ N ws₀ os₀ senses parts ws os i at → (length ws ≡ length ws₀) × (length os ≡ length os₀)
still_long d = let l = d.listing d.offs (λ j y. refl) in (wires_long l, offsets_long l)
