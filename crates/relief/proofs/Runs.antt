-- Entries in order, wire after wire: those of a wire come first among those that are left, and a list in order is placed by its own offsets.
use Prim.Native.Nat.{ℕ, zero, suc, ◌+◌, ◌-◌, ◌≤◌, ◌<◌}
use mathlib.Core.Path.{◌≡◌, refl, sym, subst, ap, ◌∙◌}
use mathlib.Core.List.{List, [], ◌∷◌, ◌++◌}
use native.Mathlib.Omega.{arith}
use native.Mathlib.Decide.{ℕ_discrete}
use borrow.Author.Tests.{eq-eqb, ne_eqb}
use Rattle.rules.specs.declared.Entry.{Entry}
use Rattle.rules.specs.Net.{Net, places}
use Rattle.rules.specs.Load.{offsets_on}
use Rattle.rules.specs.Legal.{After, higher, further, InOrder, start}
use Rattle.frontier.specs.Placed.{on_wire, on_wires, placed}
use Rattle.relief.specs.Runs.{Sorted, past}

pub sorted_on : {b c : ℕ} (es : List Entry) → b ≤ c → Sorted c es → Sorted b es
sorted_on [] h s = tt
sorted_on (e ∷ es) h s = (omega (arith, s.0), s.1)

sorted_by : (n : Net) (d : Entry) (es : List Entry) → InOrder n d es → Sorted d.wire es
sorted_by n d [] o = tt
sorted_by n d (e ∷ es) o = (go o.0, sorted_by n e es o.2)
  where
    go : After d e → d.wire ≤ e.wire
    go (higher x) = omega arith
    go (further x y) = omega arith

pub in_order_sorted : (n : Net) (es : List Entry) → InOrder n start es → Sorted 1 es
in_order_sorted n [] o = tt
in_order_sorted n (e ∷ es) o = (o.1.above, sorted_by n e es o.2)

pub here : (i : ℕ) (e : Entry) (es : List Entry) → e.wire ≡ i → offsets_on (e ∷ es) i ≡ e.offset ∷ offsets_on es i
unfolding offsets_on
here i e es q = rw (eq-eqb e.wire i q)

pub elsewhere : (i : ℕ) (e : Entry) (es : List Entry) → (e.wire ≡ i → ⊥) → offsets_on (e ∷ es) i ≡ offsets_on es i
unfolding offsets_on
elsewhere i e es ne = rw (ne_eqb e.wire i ne)

pub none_lower : (i b : ℕ) (es : List Entry) → i < b → Sorted b es → offsets_on es i ≡ []
unfolding offsets_on
none_lower i b [] h s = refl
none_lower i b (e ∷ es) h s = elsewhere i e es (λ q. omega (arith, s.0)) ∙ none_lower i e.wire es (omega (arith, s.0)) s.1

-- ---- past the entries of a wire
pub past_here : (i : ℕ) (e : Entry) (es : List Entry) → e.wire ≡ i → past i (e ∷ es) ≡ past i es
unfolding past
past_here i e es q = rw (eq-eqb e.wire i q)

pub past_other : (i : ℕ) (e : Entry) (es : List Entry) → (e.wire ≡ i → ⊥) → past i (e ∷ es) ≡ e ∷ es
unfolding past
past_other i e es ne = rw (ne_eqb e.wire i ne)

pub past_none : (i : ℕ) → past i [] ≡ []
unfolding past
past_none i = refl

pub past_sorted : (i : ℕ) (es : List Entry) → Sorted i es → Sorted (suc i) (past i es)
unfolding past
past_sorted i [] s = tt
past_sorted i (e ∷ es) s = elim (ℕ_discrete e.wire i) [
  | yes q ↦ rw (eq-eqb e.wire i q) (past_sorted i es (sorted_on es (omega (arith, s.0)) s.1))
  | no ne ↦ rw (ne_eqb e.wire i ne) (omega (arith, s.0), s.1)
]

pub past_offsets : (i j : ℕ) (es : List Entry) → (j ≡ i → ⊥) → offsets_on (past i es) j ≡ offsets_on es j
unfolding past offsets_on
past_offsets i j [] ne = refl
past_offsets i j (e ∷ es) ne = elim (ℕ_discrete e.wire i) [
  | yes q ↦ rw (eq-eqb e.wire i q, ne_eqb e.wire j (λ p. ne (sym p ∙ q))) (past_offsets i j es ne)
  | no other ↦ rw (ne_eqb e.wire i other)
]

past_is : (i : ℕ) (es : List Entry) → Sorted i es → on_wire i (offsets_on es i) ++ past i es ≡ es
unfolding past offsets_on on_wire
past_is i [] s = refl
past_is i (e ∷ es) s = elim (ℕ_discrete e.wire i) [
  | yes q ↦ rw (eq-eqb e.wire i q) (cc (same q, past_is i es (sorted_on es (omega (arith, s.0)) s.1)))
  | no ne ↦ rw (ne_eqb e.wire i ne, none_lower i e.wire es (omega (arith, s.0)) s.1)
]
  where
    same : e.wire ≡ i → record { wire = i; offset = e.offset } ≡ e
    same q = λ ι. record { wire = sym q ι; offset = e.offset }

-- ---- a list in order is placed by its own offsets
wires_same : (f g : ℕ → List ℕ) (k i : ℕ) → ((j : ℕ) → i ≤ j → f j ≡ g j) → on_wires f k i ≡ on_wires g k i
unfolding on_wires
wires_same f g zero i h = refl
wires_same f g (suc k) i h = cc (h i (omega arith), wires_same f g k (suc i) (λ j l. h j (omega arith)))

abbrev Low : ℕ → List Entry → Type 0
Low m [] = Unit {0}
Low m (e ∷ es) = (e.wire < m) × Low m es

past_low : (m i : ℕ) (es : List Entry) → Low m es → Low m (past i es)
unfolding past
past_low m i [] l = tt
past_low m i (e ∷ es) l = elim (ℕ_discrete e.wire i) [ yes q ↦ rw (eq-eqb e.wire i q) (past_low m i es l.1) | no ne ↦ rw (ne_eqb e.wire i ne) l ]

own : (k i : ℕ) (es : List Entry) → Sorted i es → Low (i + k) es → on_wires (offsets_on es) k i ≡ es
unfolding on_wires
own zero i [] s l = refl
own zero i (e ∷ es) s l = absurd (omega (arith, s.0, l.0))
own (suc k) i es s l =
    let q : i + suc k ≡ suc i + k = omega arith in
    ap (λ (p : List Entry). on_wire i (offsets_on es i) ++ p)
    (wires_same (offsets_on es) (offsets_on (past i es)) k (suc i) (λ j le. sym (past_offsets i j es (λ z. omega arith))) ∙ own k (suc i) (past i es) (past_sorted i es s) (rw q at (past_low (i + suc k) i es l)))
    ∙ past_is i es s

low_all : (n : Net) (d : Entry) (es : List Entry) → InOrder n d es → Low (places n) es
low_all n d [] o = tt
low_all n d (e ∷ es) o = (o.1.within, low_all n e es o.2)

pub placed_own : (n : Net) (g : List Entry) → 1 ≤ places n → InOrder n start g → placed n (offsets_on g) ≡ g
placed_own n g some o = let q : places n ≡ 1 + (places n - 1) = omega arith in own (places n - 1) 1 g (in_order_sorted n g o) (subst (λ (m : ℕ). Low m g) q (low_all n start g o))
