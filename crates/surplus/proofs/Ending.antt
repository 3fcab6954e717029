-- Where the walk ends, and what it comes to.
use Prim.Native.Nat.{ℕ, ◌+◌, ◌*◌, ◌≤◌}
use mathlib.Core.Path.{◌≡◌, sym, subst}
use native.Mathlib.Omega.{arith}
use Rattle.rules.specs.Net.{Net, places}
use Rattle.rules.specs.Tree.{none, tree}
use Rattle.rules.proofs.Hanging.{hanging_end}
use Rattle.frontier.specs.Cell.{Cell}
use Rattle.frontier.specs.Plan.{plan_of, count, Settled}
use Rattle.frontier.specs.Frontier.{has, Acc, fail, all, acc, close, width}
use Rattle.frontier.specs.Cert.{Table, sum}
use Rattle.frontier.proofs.Lower.{Tidy, close_tidy}
use Rattle.frontier.proofs.Cert.{ok_good}
use Rattle.surplus.specs.Choice.{Budgeted}
use Rattle.surplus.specs.Walk.{Within}
use Rattle.surplus.proofs.Walking.{DoneF, Done}

none_within : (τ : Cell) (p e : ℕ) → Within (acc τ none p) 0 0 e
unfolding acc
none_within τ p e = (omega arith, omega arith)

-- past the last wire nothing is left to be shown
pub done_end : (τ : Cell) (n : Net) (t : Table) (side left : ℕ → ℕ) (i v : ℕ) → places n ≤ i → Done τ n t side left i v
done_end τ n t side left i v h = subst (DoneF τ t (side v) (left v)) (sym (hanging_end n i v h)) (nothing (side v) (left v))
  where
    nothing : (p e : ℕ) → DoneF τ t p e none
    nothing p e = (tt, none_within τ p e)

pub within_budget : (y : Acc) (e n h c l : ℕ) → Budgeted y e n h → Within y c l e → (c ≤ n) × (l ≤ h)
within_budget fail e n h c l b w = absurd w
within_budget (all m g) e n h c l b w = (omega arith, omega arith)

-- what was shown of the source: a legal placement with at most N repeaters
pub finish : (τ : Cell) → τ.cu ≡ τ.cb + τ.D → 1 ≤ τ.D → (n : Net) (t : Table) (side left : ℕ → ℕ) (p e N h h₁ : ℕ) → p ≤ 1 → side 0 ≡ p → left 0 ≡ e
    → close τ (2 * width (tree n)) (acc τ (tree n) p) ≡ has N h h₁ → Budgeted (acc τ (tree n) p) e N h → Done τ n t side left 1 0
    → Settled τ p (tree n) (plan_of t.offs (tree n)) × (count (tree n) (plan_of t.offs (tree n)) ≤ N)
finish τ eq pos n t side left p e N h h₁ l es el cl b d =
    let d' : DoneF τ t p e (tree n) = subst (λ (q : ℕ). DoneF τ t q e (tree n)) es (subst (λ (x : ℕ). DoneF τ t (side 0) x (tree n)) el d) in
    let (g, q, c, ld) = ok_good τ t p (tree n) d'.0 in
    let w = within_budget (acc τ (tree n) p) e N h (sum t.cnt (tree n)) (sum t.top (tree n)) b d'.1 in
    let y : Tidy τ (has N h h₁) = subst (Tidy τ) cl (close_tidy τ eq pos (2 * width (tree n)) (acc τ (tree n) p)) in
    (record { pol = l; good = g; fits = omega (arith, w.1, y.0); par = q }, omega (arith, w.0))
