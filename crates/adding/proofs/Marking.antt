-- What the way up says of the given entries: right marks are a least completion of them, and a node that cannot be brought within the limit says that there is none.
use Rattle.std.specs.Prelude.{Option}
use Prim.Native.Nat.{ℕ, suc, ◌-◌, ◌≤◌}
use mathlib.Core.Path.{◌≡◌, sym, subst, ap, ◌∙◌}
use mathlib.Core.List.{List, [], ◌∷◌}
use lib.ListN.{length}
use native.Mathlib.Omega.{arith}
use Rattle.rules.specs.declared.Entry.{Entry}
use Rattle.rules.specs.Net.{Net, places, wire}
use Rattle.rules.specs.Load.{entries, offsets_on}
use Rattle.rules.specs.Complete.{Completes, LeastAdded, NoneCompletes}
use Rattle.rules.specs.Sound.{SoundNet}
use Rattle.rules.proofs.Order.{Rising, in_order_rises}
use Rattle.frontier.specs.Cell.{Cell, cell_of}
use Rattle.frontier.specs.Placed.{on_wires, placed}
use Rattle.relief.specs.Pieces.{topmost, lead_of}
use Rattle.relief.specs.Marks.{Marks, added_at, Marked, Stuck}
use Rattle.relief.proofs.Runs.{in_order_sorted}
use Rattle.relief.proofs.Least.{completed, least_added, none_completes}
use Rattle.states.specs.declared.Cell as code
use Rattle.states.specs.States.{model_of, limits_of}
use Rattle.states.proofs.Leaves.{model_is, ok_of}
use Rattle.buffers.specs.declared.Tables.{Tables}
use Rattle.buffers.specs.Going.{leads_in, Led, marks_of, Lost, Going}
use Rattle.adding.specs.Given.{Stood, Leads}
use Rattle.adding.specs.Walks.{all_added, Ready}

lead_low : (w : ℕ) (gs : List ℕ) (lead : ℕ) → lead ≡ lead_of gs → Rising w 0 gs → lead ≤ suc w
unfolding topmost
lead_low w [] lead e r = omega arith
lead_low w (o ∷ os) lead e r = omega (arith, low o os r.1)
  where
    low : (at : ℕ) (gs : List ℕ) → Rising w at gs → topmost at gs ≤ w
    low at [] h = h
    low at (g ∷ gs) h = low g gs h.1

-- of a sound net of buffers, and given entries that stand on it
module _ (c : code.Cell) {n : Net} {ws os : List ℕ} {leads : List (Option ℕ)} (limits : limits_of c ≡ n.limits) (sound : SoundNet n) (buffers : n.limits.repeater ≡ 0) (stood : Stood n ws os) (led : Leads ws os leads) where
  abbrev g : List Entry
  g = entries ws os

  abbrev G : ℕ → List ℕ
  G = offsets_on (entries ws os)

  same_cell : model_of c ≡ cell_of n.limits
  same_cell = model_is (ok_of c) ∙ ap cell_of limits

  same_leads : leads_in leads ≡ (λ i. lead_of (G i))
  same_leads = λ ι i. led.is i ι

  pub led_low : Led n leads
  led_low = record { low = λ i. lead_low (wire n i) (G i) (leads_in leads i) (led.is i) (in_order_rises n g stood.order i) }

  -- 8
  pub lost_none : Lost (model_of c) n (leads_in leads) → NoneCompletes n (entries ws os)
  lost_none l =
      none_completes sound buffers g stood.order l.marks l.v l.low
      (λ_both (λ τ L. Marked τ n L l.marks (suc l.v)) l.marked)
      (λ_both (λ τ L. Stuck τ n L l.marks l.v) l.stuck)
    where
      λ_both : (P : Cell → (ℕ → ℕ) → Type 0) → P (model_of c) (leads_in leads) → P (cell_of n.limits) (λ i. lead_of (G i))
      λ_both P x = subst (λ (τ : Cell). P τ (λ i. lead_of (G i))) same_cell (subst (P (model_of c)) same_leads x)

  -- the marks of the way up, read by the walks that count and write
  module _ (t : Tables) (going : Going (model_of c) n (leads_in leads) t 1 0) where
    abbrev m : Marks
    m = marks_of t.below t.on

    pub ready : Ready (model_of c) n.wires t.below t.on ws os
    ready = record {
      same = stood.same;
      few = stood.few;
      wires = omega (arith, sound.few, sound.wires_long);
      in_below = omega (arith, sound.wires_long, going.long.enough, going.long.below);
      in_on = omega (arith, sound.wires_long, going.long.enough, going.long.on);
      size = sound.wire_most;
      fits = λ i lo hi. going.marked.fits i (omega arith) (omega (arith, sound.wires_long));
      sorted = in_order_sorted n g stood.order;
      rises = in_order_rises n g stood.order;
    }

    marked : Marked (cell_of n.limits) n (λ i. lead_of (G i)) m 0
    marked = subst (λ (τ : Cell). Marked τ n (λ i. lead_of (G i)) m 0) same_cell (subst (λ (L : ℕ → ℕ). Marked (model_of c) n L m 0) same_leads going.marked)

    all_is : placed n (added_at (cell_of n.limits) n G m) ≡ all_added (model_of c) n.wires t.below t.on (entries ws os)
    all_is = ap (λ (τ : Cell). on_wires (added_at τ n G m) (places n - 1) 1) (sym same_cell) ∙ ap (λ (N : ℕ). on_wires (added_at (model_of c) n G m) (N - 1) 1) (sym sound.wires_long)

    pub completes : Completes n (entries ws os) (all_added (model_of c) n.wires t.below t.on (entries ws os))
    completes = subst (Completes n g) all_is (completed sound buffers g stood.order m marked)

    pub least : LeastAdded n (entries ws os) (length (all_added (model_of c) n.wires t.below t.on (entries ws os)))
    least = subst (λ (l : List Entry). LeastAdded n g (length l)) all_is (least_added sound buffers g stood.order m marked)
