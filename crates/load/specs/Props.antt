-- What a placement that stands and its tables keep has at most one proof each: no two cases of these definitions meet.
use Rattle.std.specs.Prelude.{ℕ, suc, ◌+◌, ◌≤◌, ◌<◌, ◌≡◌, List, [], ◌∷◌, get_or}
use Rattle.std.specs.Coded.{Unit-prop}
use Rattle.std.proofs.Props.{props}
use native.Mathlib.Omega.{arith}
use Rattle.rules.specs.declared.Entry.{Entry}
use Rattle.rules.specs.Net.{Net}
use Rattle.rules.specs.Legal.{After, higher, further, InOrder}
use Rattle.load.specs.Next.{NoneFrom}
use Rattle.load.specs.Tables.{Span, childless, childed}

After-prop : (d e : Entry) → IsProp (After d e)
After-prop d e (higher a) (higher b) = let p : IsProp (d.wire < e.wire) = hlevel props in λ i. higher (p a b i)
After-prop d e (higher a) (further q l) = absurd (omega arith)
After-prop d e (further q l) (higher a) = absurd (omega arith)
After-prop d e (further q l) (further r m) =
    let same : IsProp (d.wire ≡ e.wire) = hlevel props in
    let most : IsProp (d.offset ≤ e.offset) = hlevel props in
    λ i. further (same q r i) (most l m i)

pub InOrder-prop : (n : Net) (d : Entry) (es : List Entry) → IsProp (InOrder n d es)
InOrder-prop n d [] = Unit-prop
InOrder-prop n d (e ∷ es) = let rest : IsProp (InOrder n e es) = InOrder-prop n e es in hlevel (props, After-prop, rest)

pub Span-prop : (parents : List ℕ) (v to gap reach : ℕ) → IsProp (Span parents v to gap reach)
Span-prop parents v to gap reach (childless g r f) (childless g' r' f') =
    let no_gap : IsProp (gap ≡ 0) = hlevel props in
    let no_reach : IsProp (reach ≡ 0) = hlevel props in
    let none : IsProp (NoneFrom parents v (suc v) to) = hlevel props in
    λ i. childless (no_gap g g' i) (no_reach r r' i) (none f f' i)
Span-prop parents v to gap reach (childless g r f) (childed l w a b h k) = absurd (omega arith)
Span-prop parents v to gap reach (childed l w a b h k) (childless g r f) = absurd (omega arith)
Span-prop parents v to gap reach (childed l w a b h k) (childed l' w' a' b' h' k') =
    let before : IsProp (gap < reach) = hlevel props in
    let within : IsProp (v + reach < to) = hlevel props in
    let first : IsProp (get_or parents (suc (v + gap)) 0 ≡ v) = hlevel props in
    let last : IsProp (get_or parents (v + reach) 0 ≡ v) = hlevel props in
    let none_before : IsProp (NoneFrom parents v (suc v) (suc (v + gap))) = hlevel props in
    let none_after : IsProp (NoneFrom parents v (suc (v + reach)) to) = hlevel props in
    λ i. childed (before l l' i) (within w w' i) (first a a' i) (last b b' i) (none_before h h' i) (none_after k k' i)
