-- What the bytes of a net file say, and the bytes of a net: RULES 3.6, 5.1 to 5.3.
use Rattle.std.specs.Prelude.{Some, replicate, Option, None, Ok, Err, Result, ℕ, zero, suc, ◌+◌, ◌-◌, min, ◌≡◌, Bool, true, List, [], ◌∷◌, ◌++◌, map, length, take, eqb, ltb, leb}
use Rattle.field.specs.declared.Field.{Field}
use Rattle.std.proofs.lemmas.List.Edits.{sets}
use Rattle.rules.specs.declared.Limits.{Limits}
use Rattle.rules.specs.declared.Node.{Node}
use Rattle.rules.specs.declared.Refusal.{Refusal}
use Rattle.rules.specs.declared.Refusal.TheVariants.{NotDue, OutOfRange, WrongParent, BytesAfterEnd, NoRoom}
use Rattle.rules.specs.Judged.{Judged}
use Rattle.rules.specs.Figures.{most_places}
use Rattle.rules.specs.Choose.{pick}
use Rattle.rules.specs.Refusal.{number_of, place_of}
use Rattle.rules.specs.Net.{Net, net, unlimited, places, node}
use Rattle.rules.specs.Judge.{unless, then_judge, limits_in_range, node_judged, childed, judged}
use Rattle.field.specs.declared.Value.{Value}
use Rattle.field.specs.declared.Value.TheVariants.{Limits as LimitsField, Branch, Sink, Count, Entry, End}
use Rattle.field.specs.declared.NoField.{NoField}
use Rattle.field.specs.declared.NoField.TheVariants.{Cut, Refused as Unfound}
use Rattle.field.specs.Format.{field_at, cut_at, due_at, bytes_of, laid}
use Rattle.net_file.specs.declared.Taken.{Taken}
use Rattle.net_file.specs.declared.NetRead.{NetRead}
use Rattle.net_file.specs.declared.Columns.{Columns}

-- ---- one field, where it is due or not

-- the front: the limits, and nothing else is due (RULES 5.2)
abbrev pub front_value : ℕ → Value → Result Limits Refusal
front_value at (LimitsField l) = pick (limits_in_range l) (Ok l) (Err (OutOfRange at))
front_value at (Branch p w) = Err (NotDue at)
front_value at (Sink p w c q) = Err (NotDue at)
front_value at (Count n) = Err (NotDue at)
front_value at (Entry e) = Err (NotDue at)
front_value at End = Err (NotDue at)

abbrev pub front_of : Result Field Refusal → Result Limits Refusal
front_of (Ok f) = front_value f.at f.value
front_of (Err r) = Err r

-- every later place: a branch point, a sink or the end (RULES 5.2)
abbrev pub node_due : ℕ → Bool
node_due t = pick (eqb t 2) true (pick (eqb t 3) true (eqb t 127))

-- a node, with the place after its field
abbrev pub one_node : Node → ℕ → Result (Option Taken) Refusal
one_node d next = Ok (Some (record { node = d; next = next }))

abbrev pub taken_value : ℕ → Value → Result (Option Taken) Refusal
taken_value at (LimitsField l) = Err (NotDue at)
taken_value at (Branch p w) = one_node (record { parent = p; wire = w; kind = 0; pin = 0; polarity = 0 }) (at + length (bytes_of (Branch p w)))
taken_value at (Sink p w c q) = one_node (record { parent = p; wire = w; kind = 1; pin = c; polarity = q }) (at + length (bytes_of (Sink p w c q)))
taken_value at (Count n) = Err (NotDue at)
taken_value at (Entry e) = Err (NotDue at)
taken_value at End = Ok None

abbrev pub taken_of : Result Field NoField → Result (Option Taken) Refusal
taken_of (Ok f) = taken_value f.at f.value
taken_of (Err (Cut t place)) = Err (cut_at (node_due t) place)
taken_of (Err (Unfound r)) = Err r

unfoldable pub taken_at : List ℕ → ℕ → Result (Option Taken) Refusal
taken_at s at = taken_of (field_at s at)

-- ---- a whole file

-- the fields after the limits: nodes with their places, up to the end, with the place after it, or to what is neither
pub data Fields : Type 0 where
  node_at : (at : ℕ) (d : Node) (more : Fields) → Fields
  end_at : (next : ℕ) → Fields
  wrong : Refusal → Fields

abbrev pub follow : ℕ → Result (Option Taken) Refusal → (ℕ → Fields) → Fields
follow at (Ok (Some t)) more = node_at at t.node (more t.next)
follow at (Ok None) more = end_at (at + length (bytes_of End))
follow at (Err r) more = wrong r

-- k fields from a place on. Node 1,025 is never admitted, so 1,025 are enough
unfoldable pub fields_from : ℕ → List ℕ → ℕ → Fields
fields_from zero s at = wrong (WrongParent at)
fields_from (suc k) s at = follow at (taken_at s at) (fields_from k s)

unfoldable pub nodes_of : Fields → List Node
nodes_of (node_at at d more) = d ∷ nodes_of more
nodes_of (end_at next) = []
nodes_of (wrong r) = []

-- the columns of some nodes
abbrev pub columns_of : Limits → List Node → Net
columns_of l ds = net l (map (λ (d : Node). d.parent) ds) (map (λ (d : Node). d.wire) ds) (map (λ (d : Node). d.kind) ds) (map (λ (d : Node). d.pin) ds) (map (λ (d : Node). d.polarity) ds)

-- node 0, which has no field: RULES 1.13, 3.6
abbrev pub source : Node
source = record { parent = 0; wire = 0; kind = 0; pin = 0; polarity = 0 }

-- from node i on each node is judged as in columns, and refused where its field begins (RULES 5.1); behind the end 6, and then 5 (RULES 5.3)
unfoldable pub fields_judged : Net → ℕ → ℕ → Fields → Judged
fields_judged n size i (node_at at d more) = then_judge (node_judged n i at) (fields_judged n size (suc i) more)
fields_judged n size i (end_at next) = then_judge (unless (leb size next) (BytesAfterEnd next)) (childed n)
fields_judged n size i (wrong r) = Err r

-- a net, or the first refusal
pub data Outcome : Type 0 where
  read : Net → Outcome
  refused : Refusal → Outcome

abbrev pub when_sound : Judged → Net → Outcome
when_sound (Ok _) n = read n
when_sound (Err r) n = refused r

-- the net of some limits and of the fields after them
abbrev pub net_with : Limits → Fields → Net
net_with l fields = columns_of l (source ∷ nodes_of fields)

-- a file's fields after the limits
abbrev pub fields_of : List ℕ → Fields
fields_of s = fields_from most_places s 12

unfoldable pub net_from : List ℕ → Limits → Outcome
net_from s l = let fields = fields_of s in let n = net_with l fields in when_sound (fields_judged n (length s) 1 fields) n

abbrev pub from_front : List ℕ → Result Limits Refusal → Outcome
from_front s (Ok l) = net_from s l
from_front s (Err r) = refused r

-- what the bytes of a net file say
unfoldable pub net_of : List ℕ → Outcome
net_of s = from_front s (front_of (due_at 1 s 0))

-- ---- what the reader answers, and leaves in the lent columns: RULES 6.6

-- the shortest of the lent columns: RULES 6.2
abbrev pub room : Net → ℕ
room lent = min (length lent.parents) (min (length lent.wires) (min (length lent.kinds) (min (length lent.pins) (length lent.polarities))))

-- the columns of n, laid over those lent from place i on
abbrev pub laid_over : Net → ℕ → Net → Net
laid_over lent i n = net lent.limits (sets lent.parents i n.parents) (sets lent.wires i n.wires) (sets lent.kinds i n.kinds) (sets lent.pins i n.pins) (sets lent.polarities i n.polarities)

-- a net of these limits and places
abbrev pub read_as : Limits → ℕ → Result NetRead Refusal
read_as l m = Ok (record { limits = l; places = m })

abbrev pub answered : ℕ → Outcome → Result NetRead Refusal
answered most (read n) = pick (ltb most (places n)) (Err (NoRoom (places n))) (read_as n.limits (places n))
answered most (refused r) = Err r

abbrev pub filled : Net → Outcome → Net
filled lent (read n) = pick (ltb (room lent) (places n)) lent (laid_over lent 0 n)
filled lent (refused r) = lent

pub record ReadNet (s : List ℕ) (lent left : Net) (r : Result NetRead Refusal) : Type 0 where
  pub answer : r ≡ answered (room lent) (net_of s)
  pub columns : left ≡ filled lent (net_of s)

-- ---- the reader's own columns

-- what they hold, said with no limits
abbrev pub kept_in : Columns → Net
kept_in c = net unlimited c.parent c.wire c.kind c.pin c.polarity

-- before anything is read
abbrev pub blank : Net
blank = net unlimited (replicate most_places 0) (replicate most_places 0) (replicate most_places 0) (replicate most_places 0) (replicate most_places 0)

-- the first m places of some columns, with limits: the net that a caller holds who lent longer ones
abbrev pub first_places : ℕ → Limits → Net → Net
first_places m l n = net l (take m n.parents) (take m n.wires) (take m n.kinds) (take m n.pins) (take m n.polarities)

-- ---- the bytes of a net

abbrev pub field_of : Node → Value
field_of d = pick (eqb d.kind 1) (Sink d.parent d.wire d.pin d.polarity) (Branch d.parent d.wire)

-- k nodes from node i on, and the end
unfoldable pub bytes_from : (ℕ → Node) → ℕ → ℕ → List ℕ
bytes_from nodes zero i = bytes_of End
bytes_from nodes (suc k) i = bytes_of (field_of (nodes i)) ++ bytes_from nodes k (suc i)

abbrev pub net_bytes : Net → List ℕ
net_bytes n = bytes_of (LimitsField n.limits) ++ bytes_from (node n) (places n - 1) 1

-- ---- what the writer answers, and leaves in the lent buffer: RULES 6.7

abbrev pub written : Judged → List ℕ → List ℕ → Result ℕ Refusal
written (Ok _) bytes out = pick (ltb (length out) (length bytes)) (Err (NoRoom (length bytes))) (Ok (length bytes))
written (Err r) bytes out = Err r

abbrev pub left_in : Judged → List ℕ → List ℕ → List ℕ
left_in (Ok _) bytes out = laid bytes out
left_in (Err r) bytes out = out

pub record WroteNet (n : Net) (out left : List ℕ) (r : Result ℕ Refusal) : Type 0 where
  pub answer : r ≡ written (judged n) (net_bytes n) out
  pub buffer : left ≡ left_in (judged n) (net_bytes n) out

-- ---- RULES 4.1, 4.5: 0 and the places filled or the bytes written, or a refusal's number and place

abbrev pub read_number : Result NetRead Refusal → ℕ
read_number (Ok r) = 0
read_number (Err r) = number_of r

abbrev pub read_places : Result NetRead Refusal → ℕ
read_places (Ok r) = r.places
read_places (Err r) = place_of r

abbrev pub wrote_number : Result ℕ Refusal → ℕ
wrote_number (Ok n) = 0
wrote_number (Err r) = number_of r

abbrev pub wrote_bytes : Result ℕ Refusal → ℕ
wrote_bytes (Ok n) = n
wrote_bytes (Err r) = place_of r
