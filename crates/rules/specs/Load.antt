-- What lies below a node, what a wire hands up, what each repeater drives (RULES 2.6 to 2.11). Loads are natural numbers, so none is too large (RULES 2.19).
use Rattle.std.specs.Prelude.{ℕ, zero, suc, ◌+◌, ◌-◌, List, [], ◌∷◌, ◌++◌, get_or, eqb}
use Rattle.rules.specs.declared.Entry.{Entry}
use Rattle.rules.specs.Choose.{pick}
use Rattle.rules.specs.Net.{Net, places, wire, kind, pin}
use Rattle.rules.specs.Tree.{Hanging, none, sink, branch, under}

-- the entries that two columns hold (RULES 1.14)
unfoldable pub entries : List ℕ → List ℕ → List Entry
entries [] os = []
entries (v ∷ vs) [] = []
entries (v ∷ vs) (o ∷ os) = record { wire = v; offset = o } ∷ entries vs os

-- entry k of the columns
abbrev pub column_entry : List ℕ → List ℕ → ℕ → Entry
column_entry vs os k = record { wire = get_or vs k 0; offset = get_or os k 0 }

-- the offsets of wire i, in list order
unfoldable pub offsets_on : List Entry → ℕ → List ℕ
offsets_on [] i = []
offsets_on (e ∷ es) i = let others = offsets_on es i in pick (eqb e.wire i) (e.offset ∷ others) others

-- RULES 2.8: the wire from the last repeater, or the node, up to this one, and what stands there
unfoldable pub drives : ℕ → ℕ → ℕ → List ℕ → List ℕ
drives cb from load [] = []
drives cb from load (o ∷ os) = ((o - from) + load) ∷ drives cb o cb os

-- RULES 2.7, and RULES 2.9 above the topmost repeater
unfoldable pub hands_up : ℕ → ℕ → ℕ → ℕ → List ℕ → ℕ
hands_up cb w from load [] = (w - from) + load
hands_up cb w from load (o ∷ os) = hands_up cb w o cb os

-- RULES 2.6: the wires that hang at a node, added up; at a sink its pin
unfoldable pub handed_by : ℕ → (ℕ → List ℕ) → Hanging → ℕ
handed_by cb offs none = 0
handed_by cb offs (sink i w pin polarity rest) = hands_up cb w 0 pin (offs i) + handed_by cb offs rest
handed_by cb offs (branch i w below rest) = hands_up cb w 0 (handed_by cb offs below) (offs i) + handed_by cb offs rest

-- what lies below node v
unfoldable pub load_below : Net → (ℕ → List ℕ) → ℕ → ℕ
load_below n offs v = pick (eqb (kind n v) 1) (pin n v) (handed_by n.limits.pin offs (under n v))

-- what wire i hands up
unfoldable pub handed_up : Net → (ℕ → List ℕ) → ℕ → ℕ
handed_up n offs i = hands_up n.limits.pin (wire n i) 0 (load_below n offs i) (offs i)

-- what the entries of wire i drive
unfoldable pub driven_on : Net → (ℕ → List ℕ) → ℕ → List ℕ
driven_on n offs i = drives n.limits.pin 0 (load_below n offs i) (offs i)

-- k lists from i on, one after the other
unfoldable pub joined : (ℕ → List ℕ) → ℕ → ℕ → List ℕ
joined f zero i = []
joined f (suc k) i = f i ++ joined f k (suc i)

-- what each entry drives, in list order: the wires 1 to n one after the other
unfoldable pub driven : Net → (ℕ → List ℕ) → List ℕ
driven n offs = joined (driven_on n offs) (places n - 1) 1

-- what the source drives
abbrev pub source_drives : Net → (ℕ → List ℕ) → ℕ
source_drives n offs = load_below n offs 0

-- every driver's load: each entry's in list order, then the source's
abbrev pub drivers : Net → List Entry → List ℕ
drivers n p = driven n (offsets_on p) ++ (source_drives n (offsets_on p) ∷ [])
