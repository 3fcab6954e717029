-- The tables over nodes that the loads are told from: where the search for a node's children begins and ends, and what a wire hands up by itself.
use Rattle.std.specs.Prelude.{ℕ, suc, ◌+◌, ◌<◌, ◌≡◌, Bool, true, false, List, [], ◌∷◌, eqb, length, get_or}
use Rattle.rules.specs.Figures.{most_places}
use Rattle.rules.specs.Choose.{pick}
use Rattle.rules.specs.Net.{Net, wire, kind, pin}
use Rattle.rules.specs.Load.{hands_up}
use Rattle.rules.specs.Sound.{SoundNet}
use Rattle.load.specs.declared.Tables.{Tables}
use Rattle.load.specs.Next.{NoneFrom}

-- a table before it is filled
pub record Clear {A : Type 0} (blank : A) (table : List A) : Type 0 where
  pub long : length table ≡ most_places
  pub none : (i : ℕ) → get_or table i blank ≡ blank

-- all four
pub record ClearTables (t : Tables) : Type 0 where
  pub own : Clear 0 t.own
  pub shut : Clear false t.shut
  pub gap : Clear 0 t.gap
  pub reach : Clear 0 t.reach

-- among the nodes before `to` the first child of v is one more than `gap` past it, and the last `reach`; both are 0 where there is none
pub data Span (parents : List ℕ) (v to gap reach : ℕ) : Type 0 where
  childless : gap ≡ 0 → reach ≡ 0 → NoneFrom parents v (suc v) to → Span parents v to gap reach
  childed : gap < reach → v + reach < to → get_or parents (suc (v + gap)) 0 ≡ v → get_or parents (v + reach) 0 ≡ v
      → NoneFrom parents v (suc v) (suc (v + gap)) → NoneFrom parents v (suc (v + reach)) to → Span parents v to gap reach

-- the tables of all nodes, of which the first k have been looked at
pub record SpansTo (parents : List ℕ) (k : ℕ) (gap reach : List ℕ) : Type 0 where
  pub gap_long : length gap ≡ most_places
  pub reach_long : length reach ≡ most_places
  pub span : (v : ℕ) → Span parents v k (get_or gap v 0) (get_or reach v 0)

abbrev pub Spans : List ℕ → List ℕ → List ℕ → Type 0
Spans parents gap reach = SpansTo parents (length parents) gap reach

-- what wire i hands up by itself, where os are the offsets on it: its size with a sink's pin, or what is above its topmost entry
unfoldable pub own_part : Net → ℕ → List ℕ → ℕ
own_part n i [] = pick (eqb (kind n i) 1) (wire n i + pin n i) (wire n i)
own_part n i (o ∷ os) = hands_up n.limits.pin (wire n i) 0 0 (o ∷ os)

-- whether it asks no further down: at its lower end is a sink, or it has entries
unfoldable pub shut_by : Net → ℕ → List ℕ → Bool
shut_by n i [] = eqb (kind n i) 1
shut_by n i (o ∷ os) = true

pub record Parts (n : Net) (offs : ℕ → List ℕ) (own : List ℕ) (shut : List Bool) : Type 0 where
  pub own_long : length own ≡ most_places
  pub shut_long : length shut ≡ most_places
  pub own_is : (i : ℕ) → get_or own i 0 ≡ own_part n i (offs i)
  pub shut_is : (i : ℕ) → get_or shut i false ≡ shut_by n i (offs i)

-- all four are those of a sound net and its offsets
pub record TablesOf (n : Net) (offs : ℕ → List ℕ) (t : Tables) : Type 0 where
  pub sound : SoundNet n
  pub parts : Parts n offs t.own t.shut
  pub spans : Spans n.parents t.gap t.reach
