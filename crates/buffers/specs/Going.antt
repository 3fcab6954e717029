-- The tables on the way up: which wires are joined to their parents, and which nodes have their load.
use Rattle.std.specs.Prelude.{ℕ, suc, ◌-◌, ◌≤◌, ◌<◌, ◌≡◌, List, Option, Some, None, Ok, Err, length, get_or}
use Rattle.rules.specs.declared.Refusal.TheVariants.{NoLegalPlacement}
use Rattle.rules.specs.Figures.{most_places}
use Rattle.rules.specs.Judged.{Judged}
use Rattle.rules.specs.Net.{Net, places, wire}
use Rattle.rules.specs.Tree.{hanging}
use Rattle.rules.specs.Legal.{Each}
use Rattle.rules.specs.Sound.{SoundNet}
use Rattle.frontier.specs.Cell.{Cell}
use Rattle.relief.specs.Marks.{Marks, out, Marked, Stuck}
use Rattle.buffers.specs.declared.Tables.{Tables}
use Rattle.buffers.specs.Chain.{wires_of, sum_l, Chain}

-- the lead of a wire, by the topmost of its given offsets
abbrev pub lead_from : Option ℕ → ℕ
lead_from None = 0
lead_from (Some o) = suc o

abbrev pub leads_in : List (Option ℕ) → ℕ → ℕ
leads_in leads i = lead_from (get_or leads i None)

-- the leads of the wires: each at most one more than the wire's size
pub record Led (n : Net) (leads : List (Option ℕ)) : Type 0 where
  pub low : (i : ℕ) → leads_in leads i ≤ suc (wire n i)

abbrev pub tables : List ℕ → List ℕ → List ℕ → List ℕ → Tables
tables below tops on links = record { below = below; tops = tops; on = on; links = links }

abbrev pub marks_of : List ℕ → List ℕ → Marks
marks_of below on = record { load = λ i. get_or below i 0; on = λ i. get_or on i 0 }

-- the wires from b on under v
abbrev pub kids : Net → ℕ → ℕ → List ℕ
kids n b v = wires_of (hanging n (places n - b) v)

-- as long as the table of tops, which reaches as far as the net
pub record Long (n : Net) (t : Tables) : Type 0 where
  pub enough : places n ≤ length t.tops
  pub few : length t.tops ≤ most_places
  pub below : length t.below ≡ length t.tops
  pub on : length t.on ≡ length t.tops
  pub links : length t.links ≡ length t.tops

-- the wires from b on are joined, and the nodes from i on have their load
pub record Going (τ : Cell) (n : Net) (L : ℕ → ℕ) (t : Tables) (b i : ℕ) : Type 0 where
  pub long : Long n t
  pub chains : (v : ℕ) → v < i → Chain (length t.tops) t.links (get_or t.links v 0) (kids n b v)
  pub sums : (v : ℕ) → v < i → sum_l (λ j. get_or t.tops j 0) (kids n b v) ≡ get_or t.below v 0
  pub clear : (j : ℕ) → j < b → get_or t.on j 0 ≡ 0
  pub fresh : (v : ℕ) → v < i → Each (λ j. get_or t.on j 0 ≡ 0) (kids n b v)
  pub tops : (j : ℕ) → b ≤ j → j < places n → get_or t.tops j 0 ≡ out τ n L (marks_of t.below t.on) j
  pub marked : Marked τ n L (marks_of t.below t.on) i

-- node i cannot be brought within the limit
pub record Lost (τ : Cell) (n : Net) (L : ℕ → ℕ) : Type 0 where
  pub marks : Marks
  pub v : ℕ
  pub low : v < places n
  pub marked : Marked τ n L marks (suc v)
  pub stuck : Stuck τ n L marks v

-- node i has its load, or cannot be brought within the limit
pub data Tried (τ : Cell) (n : Net) (L : ℕ → ℕ) (t : Tables) (b i : ℕ) : Judged → Type 0 where
  can : Going τ n L t b i → Tried τ n L t b i (Ok tt)
  cannot : Lost τ n L → Tried τ n L t b i (Err NoLegalPlacement)

-- ---- what one step asks
pub record AtNode (τ : Cell) (n : Net) (L : ℕ → ℕ) (t : Tables) (i : ℕ) : Type 0 where
  pub sound : SoundNet n
  pub within : i < places n
  pub going : Going τ n L t (suc i) (suc i)

pub record AtWire (τ : Cell) (n : Net) (leads : List (Option ℕ)) (t : Tables) (i : ℕ) : Type 0 where
  pub sound : SoundNet n
  pub led : Led n leads
  pub above : 1 ≤ i
  pub within : i < places n
  pub going : Going τ n (leads_in leads) t (suc i) i
