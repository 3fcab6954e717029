-- A surplus of more than 1 along the chain, by the rows of its tails.
use Prim.Native.Nat.{ℕ, ◌-◌, ◌*◌, ◌<◌, ◌≤◌, min}
use mathlib.Core.Path.{◌≡◌, sym, ap, ◌∙◌}
use mathlib.Core.List.{List}
use native.Mathlib.Omega.{arith}
use lib.ListN.{set}
use Rattle.rules.specs.Figures.{most_places}
use Rattle.rules.specs.Tree.{Hanging, none, sink, branch}
use Rattle.frontier.specs.Cell.{Cell}
use Rattle.frontier.specs.Frontier.{width}
use Rattle.surplus.specs.declared.Slot.{Slot}
use Rattle.surplus.specs.Rows.{load_at}
use Rattle.surplus.specs.Wires.{rest}
use Rattle.surplus.specs.Links.{Chain}
use Rattle.surplus.specs.Dealt.{Shared}
use Rattle.surplus.specs.Tables.{next_at, lo_at, hi_at}
use Rattle.surplus.specs.Asks.{Rows, Out, AsksMore, PartIs}
use Rattle.surplus.proofs.Chains.{width_rest}
use Rattle.surplus.proofs.Spreading.{spread_rest}
use Rattle.surplus.proofs.Tails.{rows_row, runs_low, runs_none, tail_runs, more, worth, own, wire_small, tail_small}
use Rattle.surplus.proofs.Dealing.{takes_row}
use Rattle.surplus.proofs.One.{Way, way_start, way_out, way_on, way_take}

-- under way, with m wires left
pub record WayMore (τ : Cell) (rows links : List ℕ) (slots : List Slot) (parts₀ parts : List ℕ) (p e : ℕ) (f : Hanging) (j left m : ℕ) : Type 0 where
  pub way : Way τ links slots parts₀ parts p e f j left
  pub made : Rows τ rows p m way.x

pub more_start : {τ : Cell} {rows links : List ℕ} {slots : List Slot} {parts : List ℕ} {p k n : ℕ} {f : Hanging} (e : ℕ) → AsksMore τ rows links slots parts p k n f → WayMore τ rows links slots parts parts p e f k e n
unfolding way_start
more_start e a = record { way = way_start e a.asks; made = a.made }

module _ {τ : Cell} {rows links : List ℕ} {slots : List Slot} {parts₀ parts : List ℕ} {p e : ℕ} {f : Hanging} {j left m : ℕ} (w : WayMore τ rows links slots parts₀ parts p e f j left m) where
  pub more_out : m ≡ 0 → Out τ parts₀ parts p e f
  more_out z = way_out w.way (go w.way.x w.way.runs.chain (w.made.wide ∙ z))
    where
      go : (x : Hanging) → Chain τ (next_at links) (lo_at slots p) (hi_at slots p) p j x → width x ≡ 0 → j ≡ 0
      go none c q = c
      go (sink i v q s r) c z = absurd (omega arith)
      go (branch i v g r) c z = absurd (omega arith)

  module _ (ne : m ≡ 0 → ⊥) where
    there : j ≡ 0 → ⊥
    there z = ne (sym w.made.wide ∙ ap width (runs_none w.way.runs z))

    rest_made : Rows τ rows p (m - 1) (rest w.way.x)
    rest_made =
        let h = more w.way.runs there in
        record { wide = omega (arith, w.made.wide, width_rest w.way.x h); spread = spread_rest τ rows p w.way.x h w.made.spread }

    pub part_asks : ((lo_at slots p j ≤ 1000000) × (hi_at slots p j ≤ 1000000)) × ((k : ℕ) → load_at rows ((m - 1) * (m - 1)) ((m - 1) * 2) k ≤ 2000000000)
    part_asks = (wire_small w.way.runs there, tail_small w.way.runs there rows (m - 1) rest_made)

    pub more_low : (l : ℕ) → l ≡ next_at links j → l < most_places
    more_low l q = runs_low (tail_runs w.way.runs there l q)

    pub more_take : (l : ℕ) → l ≡ next_at links j → (s : ℕ) → PartIs τ rows slots p j (m - 1) left s → WayMore τ rows links slots parts₀ (set parts j s) p e f l (left - s) (m - 1)
    unfolding way_on way_take
    more_take l q s d =
        let u = worth w.way.runs there in
        let o = own w.way.runs there in
        let g : ℕ → ℕ = load_at rows ((m - 1) * (m - 1)) ((m - 1) * 2) in
        let sh : Shared g left u.a u.b (min u.a τ.cb) s = rw (sym o.0, sym o.1) d in
        rw q (record { way = way_take w.way there s (takes_row τ g left u.m u.a u.b s _ _ u.own (rows_row τ rows p (m - 1) (rest w.way.x) rest_made) sh); made = rest_made })
