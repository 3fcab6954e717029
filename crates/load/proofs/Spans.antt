-- What a span says: where the search for a node's children begins and ends.
use Prim.Native.Nat.{ℕ, suc, ◌+◌, ◌≤◌, ◌<◌}
use mathlib.Core.List.{List}
use native.Mathlib.Omega.{arith}
use Rattle.load.specs.Next.{NoneFrom}
use Rattle.load.specs.Tables.{Span, childless, childed}

module _ {parents : List ℕ} {v to gap reach : ℕ} where
  pub none_before : Span parents v to gap reach → NoneFrom parents v (suc v) (suc (v + gap))
  none_before (childless g r f) = λ k lo hi. absurd (omega arith)
  none_before (childed l w a b f h) = f

  pub none_after : Span parents v to gap reach → NoneFrom parents v (suc (v + reach)) to
  none_after (childless g r f) = λ k lo hi. f k (omega arith) hi
  none_after (childed l w a b f h) = h

  pub span_within : Span parents v to gap reach → v < to → (gap ≤ reach) × (v + reach < to)
  span_within (childless g r f) h = (omega arith, omega arith)
  span_within (childed l w a b f k) h = (omega arith, w)
