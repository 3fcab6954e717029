-- Where the entries of each wire begin in a list that is in order of wire number: after those on lower wires.
use Prim.Native.Nat.{ℕ, zero, suc, ◌≤◌, ◌<◌}
use mathlib.Core.List.{List, [], ◌∷◌}
use native.Mathlib.Omega.{arith}
use native.Mathlib.Decide.{dec_lt}
use lib.Dec.{ltb}
use lib.ListN.{length, get_or}
use borrow.Author.Tests.{lt-ltb, le-ltb}
use Rattle.rules.specs.Choose.{pick}
use Rattle.load.proofs.Order.{Rising}

-- the entries before c are on wires before i, and no others are
pub record Begins (vs : List ℕ) (i c : ℕ) : Type 0 where
  pub within : c ≤ length vs
  pub before : (a : ℕ) → a < c → get_or vs a 0 < i
  pub from : (a : ℕ) → c ≤ a → a < length vs → i ≤ get_or vs a 0

unfoldable pub begin : List ℕ → ℕ → ℕ
begin [] i = 0
begin (v ∷ vs) i = pick (ltb v i) (suc (begin vs i)) 0

-- one entry more in front, on a lower wire
module _ {v : ℕ} {vs : List ℕ} {i c : ℕ} (h : v < i) (b : Begins vs i c) where
  before_more : (a : ℕ) → a < suc c → get_or (v ∷ vs) a 0 < i
  before_more zero l = h
  before_more (suc a) l = b.before a (omega arith)

  from_more : (a : ℕ) → suc c ≤ a → a < suc (length vs) → i ≤ get_or (v ∷ vs) a 0
  from_more zero l w = absurd (omega arith)
  from_more (suc a) l w = b.from a (omega arith) (omega arith)

  begins_more : Begins (v ∷ vs) i (suc c)
  begins_more = record { within = omega (arith, b.within); before = before_more; from = from_more }

pub begins : (vs : List ℕ) → Rising vs → (i : ℕ) → Begins vs i (begin vs i)
unfolding begin
begins [] r i = record { within = omega arith; before = λ a h. absurd (omega arith); from = λ a l h. absurd (omega arith) }
begins (v ∷ vs) r i = elim (dec_lt v i) [
  | yes h ↦ rw (lt-ltb v i h) (begins_more h (begins vs (λ a b l w. r (suc a) (suc b) (omega arith) (omega arith)) i))
  | no h ↦ rw (le-ltb v i (omega arith)) (record { within = omega arith; before = λ a l. absurd (omega arith); from = λ a l w. omega (arith, r 0 a (omega arith) w) })
]
