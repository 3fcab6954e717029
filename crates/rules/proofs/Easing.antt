-- Easing is reflexive and transitive; cutting twice is cutting once to the smaller wire; cutting to a net's own wires changes nothing.
use Prim.Native.Nat.{ℕ, ◌≤◌, min}
use mathlib.Core.Path.{◌≡◌, refl, ap, ◌∙◌}
use mathlib.Core.List.{List, [], ◌∷◌}
use native.Mathlib.Nat.{le_refl, le_trans}
use native.Mathlib.Omega.{arith}
use Rattle.rules.specs.declared.Entry.{Entry}
use Rattle.rules.specs.Net.{Net, wire, pin}
use Rattle.rules.specs.Legal.{InOrder}
use Rattle.rules.specs.Ease.{Eases, cut, carried}

pub eases_itself : (n : Net) → Eases n n
eases_itself n = record {
  limit = le_refl n.limits.limit;
  pin = le_refl n.limits.pin;
  repeater = refl;
  parents = refl;
  kinds = refl;
  polarities = refl;
  wires = λ i. le_refl (wire n i);
  pins = λ i. le_refl (pin n i);
}

pub eases_on : {a b c : Net} → Eases a b → Eases b c → Eases a c
eases_on x y = record {
  limit = le_trans x.limit y.limit;
  pin = le_trans y.pin x.pin;
  repeater = y.repeater ∙ x.repeater;
  parents = y.parents ∙ x.parents;
  kinds = y.kinds ∙ x.kinds;
  polarities = y.polarities ∙ x.polarities;
  wires = λ i. le_trans (y.wires i) (x.wires i);
  pins = λ i. le_trans (y.pins i) (x.pins i);
}

-- an entry at another offset
at : Entry → ℕ → Entry
at e o = record { wire = e.wire; offset = o }

pub cut_twice : (b c : Net) (e : Entry) → cut c (cut b e) ≡ record { wire = e.wire; offset = min e.offset (min (wire b e.wire) (wire c e.wire)) }
unfolding at
cut_twice b c e = ap (at e) (omega arith)

-- through a second net to a third with wires no longer: straight to the third
pub carried_twice : (b c : Net) → ((i : ℕ) → wire c i ≤ wire b i) → (p : List Entry) → carried c (carried b p) ≡ carried c p
unfolding at
carried_twice b c h [] = refl
carried_twice b c h (e ∷ es) =
    let less : wire c e.wire ≤ wire b e.wire = h e.wire in
    let once : cut c (cut b e) ≡ cut c e = ap (at e) (omega arith) in
    cc (once, carried_twice b c h es)

pub carried_home : (n : Net) (d : Entry) (p : List Entry) → InOrder n d p → carried n p ≡ p
unfolding at
carried_home n d [] h = refl
carried_home n d (e ∷ es) h =
    let within : e.offset ≤ wire n e.wire = h.1.offset in
    let same : cut n e ≡ e = ap (at e) (omega arith) in
    cc (same, carried_home n e es h.2)
