-- The judgement of a net's columns: RULES 1.5 to 1.13 as tests, in the order of RULES 5.4.
use Rattle.std.specs.Prelude.{Ok, Err, ℕ, zero, suc, ◌+◌, ◌-◌, ◌*◌, Bool, true, false, length, eqb, ltb, leb}
use Rattle.rules.specs.declared.Limits.{Limits}
use Rattle.rules.specs.declared.Node.{Node}
use Rattle.rules.specs.declared.Refusal.{Refusal}
use Rattle.rules.specs.declared.Refusal.TheVariants.{OutOfRange, WrongParent, Childless, WrongColumns}
use Rattle.rules.specs.Judged.{Judged}
use Rattle.rules.specs.Figures.{most_limit, most_wire, most_pin, most_nodes, most_places, most_children}
use Rattle.rules.specs.Choose.{pick, both}
use Rattle.rules.specs.Net.{Net, places, parent, wire, kind, pin, polarity, node}

-- a refusal where a test fails, and the next judgement where there is none
abbrev pub unless : Bool → Refusal → Judged
unless true r = Ok tt
unless false r = Err r

abbrev pub then_judge : Judged → Judged → Judged
then_judge (Ok _) next = next
then_judge (Err r) next = Err r

-- f at k numbers from i on, up to the first refusal
unfoldable pub judge_each : (ℕ → Judged) → ℕ → ℕ → Judged
judge_each f zero i = Ok tt
judge_each f (suc k) i = then_judge (f i) (judge_each f k (suc i))

-- RULES 1.12, else 7
abbrev pub columns_fit : Net → Bool
columns_fit n =
    both (eqb (length n.wires) (places n))
    (both (eqb (length n.kinds) (places n))
    (both (eqb (length n.pins) (places n))
    (both (eqb (length n.polarities) (places n))
    (both (ltb 0 (places n)) (leb (places n) most_places)))))

-- RULES 1.9
abbrev pub limits_in_range : Limits → Bool
limits_in_range l = both (ltb 0 l.limit) (both (leb l.limit most_limit) (both (ltb (2 * l.pin) l.limit) (leb l.repeater 1)))

-- RULES 1.13: the source has no wire, no pin and no polarity
abbrev pub source_clear : Net → Bool
source_clear n = both (eqb (parent n 0) 0) (both (eqb (wire n 0) 0) (both (eqb (kind n 0) 0) (both (eqb (pin n 0) 0) (eqb (polarity n 0) 0))))

-- RULES 1.7, 1.10 and 1.13: a sink's polarity is at most the type; a branch point has neither pin nor polarity
abbrev pub end_in_range : Limits → Node → Bool
end_in_range l d =
    pick (eqb d.kind 1)
    (both (leb d.pin most_pin) (leb d.polarity l.repeater))
    (both (eqb d.kind 0) (both (eqb d.pin 0) (eqb d.polarity 0)))

-- RULES 1.4
abbrev pub node_in_range : Limits → Node → Bool
node_in_range l d = both (leb d.wire most_wire) (end_in_range l d)

-- how many of the nodes 1 to k have v for their parent
unfoldable pub children : Net → ℕ → ℕ → ℕ
children n zero v = 0
children n (suc k) v = pick (eqb (parent n (suc k)) v) 1 0 + children n k v

-- RULES 1.3, 1.5, 1.6, else 4: node i under p, which is of the kind k and has c children among the nodes before i (RULES 5.5)
abbrev pub parent_fits : ℕ → ℕ → ℕ → ℕ → Bool
parent_fits i p k c = both (leb i most_nodes) (both (ltb p i) (both (eqb k 0) (ltb c most_children)))

-- node i under a parent of the kind k with c children before it: 3 before 4, refused at a place
abbrev pub admitted : Limits → Node → ℕ → ℕ → ℕ → ℕ → Judged
admitted l d i k c place = then_judge (unless (node_in_range l d) (OutOfRange place)) (unless (parent_fits i d.parent k c) (WrongParent place))

abbrev pub node_judged : Net → ℕ → ℕ → Judged
node_judged n i place = admitted n.limits (node n i) i (kind n (parent n i)) (children n (i - 1) (parent n i)) place

-- nodes 1 to n
abbrev pub nodes_judged : Net → Judged
nodes_judged n = judge_each (λ i. node_judged n i i) (places n - 1) 1

-- RULES 1.6, else 5: by the kind of node i and the number of its children
abbrev pub has_child : ℕ → ℕ → ℕ → Judged
has_child i k c = unless (pick (eqb k 0) (ltb 0 c) true) (Childless i)

-- nodes 0 to m - 1
abbrev pub childed_by : (ℕ → ℕ) → (ℕ → ℕ) → ℕ → Judged
childed_by kinds counts m = judge_each (λ i. has_child i (kinds i) (counts i)) m 0

abbrev pub childed : Net → Judged
childed n = childed_by (kind n) (children n (places n - 1)) (places n)

unfoldable pub judged : Net → Judged
judged n =
    then_judge (unless (columns_fit n) WrongColumns)
    (then_judge (unless (limits_in_range n.limits) (OutOfRange 0))
    (then_judge (unless (source_clear n) (OutOfRange 0))
    (then_judge (nodes_judged n)
    (childed n))))
