-- Nodes in a list and in columns: node i of the columns is element i of the list, and what is left of the list from i on begins with it.
use Prim.Native.Nat.{ℕ, suc, ◌-◌, ◌<◌, ◌≤◌}
use native.Mathlib.Omega.{arith}
use mathlib.Core.Path.{◌≡◌, sym, ap, ◌∙◌}
use mathlib.Core.List.{List, [], ◌∷◌}
use lib.ListN.{length, get_or, drop, length-drop, length-map, get_or-map}
use lib.Seq.{drop-cons}
use Rattle.rules.specs.declared.Limits.{Limits}
use Rattle.rules.specs.declared.Node.{Node}
use Rattle.rules.specs.Net.{places, node}
use Rattle.net_file.specs.NetFile.{columns_of, source}

pub node_is : (l : Limits) (ds : List Node) (i : ℕ) → node (columns_of l ds) i ≡ get_or ds i source
node_is l ds i = rw (
  get_or-map (λ (d : Node). d.parent) ds i source,
  get_or-map (λ (d : Node). d.wire) ds i source,
  get_or-map (λ (d : Node). d.kind) ds i source,
  get_or-map (λ (d : Node). d.pin) ds i source,
  get_or-map (λ (d : Node). d.polarity) ds i source,
)

pub places_are : (l : Limits) (ds : List Node) → places (columns_of l ds) ≡ length ds
places_are l ds = length-map ds (λ (d : Node). d.parent)

-- what is left from i on
pub record Heads (ds : List Node) (i : ℕ) (d : Node) (more : List Node) : Type 0 where
  pub inside : i < length ds
  pub first : get_or ds i source ≡ d
  pub others : drop (suc i) ds ≡ more

pub heads : {ds more : List Node} {d : Node} (i : ℕ) → drop i ds ≡ d ∷ more → Heads ds i d more
heads {ds} {more} {d} i e =
    let n : length ds - i ≡ suc (length more) = sym (length-drop i ds) ∙ ap length e in
    let h : i < length ds = omega arith in
    let q : get_or ds i source ∷ drop (suc i) ds ≡ d ∷ more = sym (drop-cons ds i source h) ∙ e in
    record { inside = h; first = cc; others = cc }

pub none_left : (ds : List Node) (i : ℕ) → drop i ds ≡ [] → length ds ≤ i
none_left ds i e = let n : length ds - i ≡ 0 = sym (length-drop i ds) ∙ ap length e in omega arith
