-- What the passes over a net's columns ask, and what their yes says.
use Rattle.std.specs.Prelude.{Ok, ℕ, ◌-◌, ◌*◌, ◌≤◌, ◌<◌, ◌≡◌, Bool, true, ◌&&◌, List, length, get_or, eqb, ltb, leb}
use Rattle.std.specs.Bool.{beq}
use Rattle.rules.specs.Figures.{most_wire, most_pin, most_places, most_children}
use Rattle.rules.specs.Net.{Net, places, parent, wire, kind, pin, polarity}
use Rattle.rules.specs.Judge.{children, nodes_judged, childed}

-- the columns are equal, not empty, and not too long
pub record Level (n : Net) : Type 0 where
  pub some : 1 ≤ places n
  pub few : places n ≤ most_places
  pub wires : length n.wires ≡ places n
  pub kinds : length n.kinds ≡ places n
  pub pins : length n.pins ≡ places n
  pub polarities : length n.polarities ≡ places n

-- each place holds how many children its node has among the nodes before i
pub record Tallied (n : Net) (counts : List ℕ) (i : ℕ) : Type 0 where
  pub long : length counts ≡ most_places
  pub each : (v : ℕ) → get_or counts v 0 ≡ children n (i - 1) v

-- where r is a yes, f is met at each number from a up to m - 1
pub record Every (f : ℕ → Bool) (a m : ℕ) (r : Bool) : Type 0 where
  pub met : r ≡ true → (i : ℕ) → a ≤ i → i < m → f i ≡ true

-- node i is in its ranges and under a lower one: a branch point has no pin and no polarity, and a sink's polarity is at most 1 and the type
abbrev pub node_fits : Net → ℕ → Bool
node_fits n i =
    let k = kind n i in let q = polarity n i in
    leb (wire n i) most_wire && leb k 1 && (leb (pin n i) (most_pin * k) && leb q k && leb q n.limits.repeater) && ltb (parent n i) i

-- a node of the kind k may have c children: some exactly where it is no sink, and not too many
abbrev pub count_fits : ℕ → ℕ → Bool
count_fits k c = leb c most_children && beq (eqb k 0) (ltb 0 c)

-- where r is a yes, no node is refused, and none is childless
pub record Passed (n : Net) (r : Bool) : Type 0 where
  pub nodes : r ≡ true → nodes_judged n ≡ (Ok tt)
  pub children : r ≡ true → childed n ≡ (Ok tt)
