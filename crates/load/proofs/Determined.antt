-- Two answers that meet one contract are equal.
use Prim.Native.Nat.{ℕ, suc, ◌+◌, ◌≤◌, ◌<◌}
use mathlib.Core.Path.{◌≡◌, refl, sym, ap, ◌∙◌}
use mathlib.Core.Bool.{false}
use mathlib.Core.List.{List}
use native.Mathlib.Omega.{arith}
use native.Mathlib.Decide.{dec_lt}
use lib.ListN.{length, get_or}
use lib.Seq.{ext_get_or}
use Rattle.rules.specs.Net.{Net}
use Rattle.rules.specs.Load.{load_below, handed_up, driven}
use Rattle.std.specs.Prelude.{Option, Some, None}
use Rattle.load.specs.declared.Tables.{Tables}
use Rattle.rules.specs.Figures.{most_places}
use Rattle.load.specs.Next.{Next, NextIs}
use Rattle.load.specs.Tables.{Span, childless, childed, TablesOf}
use Rattle.load.specs.Asks.{AsksWire, AsksNode, AskedWire, AskedNode}

-- the lowest-numbered child is one
not_before : {parents : List ℕ} {v after i j : ℕ} → Next parents v after i → Next parents v after j → i < j → ⊥
not_before x y h = y.first _ x.later h x.mine

pub next_child_determined : (parents : List ℕ) (v after : ℕ) (r r' : Option ℕ) → NextIs parents v after r → NextIs parents v after r' → r ≡ r'
next_child_determined parents v after (Some i) (Some j) x y = ap Some (same i j (not_before x y) (not_before y x))
  where
    same : (i j : ℕ) → (i < j → ⊥) → (j < i → ⊥) → i ≡ j
    same i j a b = elim (dec_lt i j) [ yes h ↦ absurd (a h) | no h ↦ elim (dec_lt j i) [ yes l ↦ absurd (b l) | no l ↦ omega arith ] ]
next_child_determined parents v after (Some i) None x y = absurd (y i x.later x.within x.mine)
next_child_determined parents v after None (Some j) x y = absurd (x j y.later y.within y.mine)
next_child_determined parents v after None None x y = refl

-- the tables of a net and its offsets are one
module _ {parents : List ℕ} {v to : ℕ} where
  span_gap : (gap gap' reach reach' : ℕ) → Span parents v to gap reach → Span parents v to gap' reach' → gap ≤ gap'
  span_gap gap gap' reach reach' (childless g r f) y = omega arith
  span_gap gap gap' reach reach' (childed l w a b f h) (childless g r n) = absurd (n (suc (v + gap)) (omega arith) (omega arith) a)
  span_gap gap gap' reach reach' (childed l w a b f h) (childed l' w' a' b' f' h') = elim (dec_lt gap' gap) [
    | yes q ↦ absurd (f (suc (v + gap')) (omega arith) (omega arith) a')
    | no q ↦ omega arith
  ]

  span_reach : (gap gap' reach reach' : ℕ) → Span parents v to gap reach → Span parents v to gap' reach' → reach ≤ reach'
  span_reach gap gap' reach reach' (childless g r f) y = omega arith
  span_reach gap gap' reach reach' (childed l w a b f h) (childless g r n) = absurd (n (v + reach) (omega arith) w b)
  span_reach gap gap' reach reach' (childed l w a b f h) (childed l' w' a' b' f' h') = elim (dec_lt reach' reach) [
    | yes q ↦ absurd (h' (v + reach) (omega arith) w b)
    | no q ↦ omega arith
  ]

same_long : {A : Type 0} (none : A) (xs ys : List A) → length xs ≡ most_places → length ys ≡ most_places → ((i : ℕ) → get_or xs i none ≡ get_or ys i none) → xs ≡ ys
same_long none xs ys a b h = ext_get_or none xs ys (a ∙ sym b) (λ i l. h i)

both : {m k : ℕ} → m ≤ k → k ≤ m → m ≡ k
both a b = omega arith

module _ {n : Net} {offs : ℕ → List ℕ} (t t' : Tables) (x : TablesOf n offs t) (y : TablesOf n offs t') where
  pub make_tables_determined : (t.own ≡ t'.own) × (t.shut ≡ t'.shut) × (t.gap ≡ t'.gap) × (t.reach ≡ t'.reach)
  make_tables_determined = (
    same_long 0 t.own t'.own x.parts.own_long y.parts.own_long (λ i. x.parts.own_is i ∙ sym (y.parts.own_is i)),
    same_long false t.shut t'.shut x.parts.shut_long y.parts.shut_long (λ i. x.parts.shut_is i ∙ sym (y.parts.shut_is i)),
    same_long 0 t.gap t'.gap x.spans.gap_long y.spans.gap_long (λ v. both (span_gap _ _ _ _ (x.spans.span v) (y.spans.span v)) (span_gap _ _ _ _ (y.spans.span v) (x.spans.span v))),
    same_long 0 t.reach t'.reach x.spans.reach_long y.spans.reach_long (λ v. both (span_reach _ _ _ _ (x.spans.span v) (y.spans.span v)) (span_reach _ _ _ _ (y.spans.span v) (x.spans.span v))),
  )

-- what the loads answer for every net whose tables these are is one number, since there is such a net
module _ (parents : List ℕ) (t : Tables) (i : ℕ) {r r' : ℕ} where
  pub load_below_determined : AskedNode parents t i
      → ((n : Net) (offs : ℕ → List ℕ) → AsksNode n offs parents t i → r ≡ load_below n offs i)
      → ((n : Net) (offs : ℕ → List ℕ) → AsksNode n offs parents t i → r' ≡ load_below n offs i) → r ≡ r'
  load_below_determined a e f = e a.net a.offs a.asks ∙ sym (f a.net a.offs a.asks)

  pub handed_up_determined : AskedWire parents t i
      → ((n : Net) (offs : ℕ → List ℕ) → AsksWire n offs parents t i → r ≡ handed_up n offs i)
      → ((n : Net) (offs : ℕ → List ℕ) → AsksWire n offs parents t i → r' ≡ handed_up n offs i) → r ≡ r'
  handed_up_determined a e f = e a.net a.offs a.asks ∙ sym (f a.net a.offs a.asks)

pub drives_determined : (n : Net) (offs : ℕ → List ℕ) (k : ℕ) {r r' : ℕ} → r ≡ get_or (driven n offs) k 0 → r' ≡ get_or (driven n offs) k 0 → r ≡ r'
drives_determined n offs k e f = e ∙ sym f
