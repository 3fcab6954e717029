-- Offsets whose tables are ok settle the tree, with the count and the load that the tables add up to at most; at the root's count they are a least placement.
use Prim.Native.Nat.{ℕ, ◌≤◌}
use mathlib.Core.Path.{◌≡◌}
use lib.ListN.{length}
use native.Mathlib.Omega.{arith}
use Rattle.rules.specs.Net.{Net}
use Rattle.rules.specs.Tree.{Hanging, none, sink, branch, tree}
use Rattle.rules.specs.Legal.{Legal}
use Rattle.rules.specs.Sound.{SoundNet}
use Rattle.frontier.specs.Cell.{Cell, cell_of, turn}
use Rattle.frontier.specs.Plan.{plan_of, count, load, Good, Par}
use Rattle.frontier.specs.Frontier.{has, root}
use Rattle.frontier.specs.Placed.{placed}
use Rattle.frontier.specs.Cert.{Table, sum, Ok}
use Rattle.frontier.proofs.Attained.{GoodW-mono, top_w_mono}
use Rattle.frontier.proofs.LeastCount.{placed_is_least}

pub ok_good : (τ : Cell) (t : Table) (p : ℕ) (f : Hanging) → Ok τ t p f
    → Good τ f (plan_of t.offs f) × Par τ p f (plan_of t.offs f) × (count f (plan_of t.offs f) ≤ sum t.cnt f) × (load τ f (plan_of t.offs f) ≤ sum t.top f)
ok_good τ t p none k = (tt, tt, omega arith, omega arith)
ok_good τ t p (sink i w c s r) k =
    let (g, q, n, l) = ok_good τ t p r k.4 in
    ((k.1, g), (k.0, q), omega (arith, k.2), omega (arith, k.3))
ok_good τ t p (branch i w f r) k =
    let (g', q', n', l') = ok_good τ t (turn τ.kind p (length (t.offs i))) f k.5 in
    let (g, q, n, l) = ok_good τ t p r k.6 in
    let x : ℕ = load τ f (plan_of t.offs f) in
    let le : x ≤ t.b i = omega (arith, k.4) in
    ((GoodW-mono τ w 0 (t.b i) x (t.offs i) le k.0, g', g), (q', q), omega (arith, k.1, k.3), omega (arith, k.2, top_w_mono τ w 0 (t.b i) x (t.offs i) le))

pub ok_is_least : {n : Net} → SoundNet n → (k a b : ℕ) → root (cell_of n.limits) (tree n) ≡ has k a b → (t : Table) (p : ℕ) → p ≤ 1 → Ok (cell_of n.limits) t p (tree n)
    → sum t.cnt (tree n) ≤ k → sum t.top (tree n) ≤ n.limits.limit → Legal n (placed n t.offs) × (length (placed n t.offs) ≡ k)
ok_is_least {n} s k a b e t p pol o c l =
    let (g, q, c', l') = ok_good (cell_of n.limits) t p (tree n) o in
    placed_is_least s k a b e p t.offs (record { pol = pol; good = g; fits = omega arith; par = q }) (omega arith)
