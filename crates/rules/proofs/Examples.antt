-- The definitions tried on nets of RULES 9: they compute, and a pin is not wire.
use Rattle.std.specs.Prelude.{Ok, Err}
use Prim.Native.Nat.{ℕ, ◌+◌, ◌≤◌}
use mathlib.Core.Path.{◌≡◌, refl}
use mathlib.Core.List.{List, [], ◌∷◌, ◌++◌}
use native.Mathlib.Omega.{arith}
use Rattle.rules.specs.declared.Entry.{Entry}
use Rattle.rules.specs.Judged.{Judged}
use Rattle.rules.specs.declared.Refusal.TheVariants.{Misplaced, Overloaded, WrongParity}
use Rattle.rules.specs.Net.{Net, net}
use Rattle.rules.specs.Tree.{hanging}
use Rattle.rules.specs.Load.{offsets_on, drives, hands_up, handed_by, load_below, driven_on, joined, driven}
use Rattle.rules.specs.Legal.{Each, on_the_way, inverters, NoneLegal}
use Rattle.rules.specs.Judge.{judge_each}
use Rattle.rules.specs.Checked.{placed_from, within_limit, first_sink, placement_judged}

-- one sink at the end of one wire, buffers
abbrev alone : ℕ → ℕ → ℕ → Net
alone limit wire pin = net (record { limit = limit; pin = 2; repeater = 0 }) (0 ∷ 0 ∷ []) (0 ∷ wire ∷ []) (0 ∷ 1 ∷ []) (0 ∷ pin ∷ []) (0 ∷ 0 ∷ [])

-- sinks at the source, all wires 0
abbrev star : ℕ → List ℕ → List ℕ → List ℕ → List ℕ → Net
star repeater zeros kinds pins polarities = net (record { limit = 10; pin = 2; repeater = repeater }) zeros zeros kinds pins polarities

abbrev on : ℕ → ℕ → Entry
on wire offset = record { wire = wire; offset = offset }

abbrev mixed : Net
mixed = star 1 (0 ∷ 0 ∷ 0 ∷ []) (0 ∷ 1 ∷ 1 ∷ []) (0 ∷ 1 ∷ 1 ∷ []) (0 ∷ 0 ∷ 1 ∷ [])

-- minus pin 10 and plus pin 9
abbrev heavy : Net
heavy = star 1 (0 ∷ 0 ∷ 0 ∷ []) (0 ∷ 1 ∷ 1 ∷ []) (0 ∷ 10 ∷ 9 ∷ []) (0 ∷ 1 ∷ 0 ∷ [])

abbrev tried : List Judged
tried =
    placement_judged (alone 10 6 4) []
    ∷ placement_judged (alone 10 7 4) []
    ∷ placement_judged (alone 10 7 4) (on 1 0 ∷ [])
    ∷ placement_judged (alone 10 7 4) (on 1 6 ∷ [])
    ∷ placement_judged (alone 10 7 4) (on 1 7 ∷ [])
    ∷ placement_judged (alone 10 14 4) (on 1 5 ∷ [])
    ∷ placement_judged (alone 10 14 4) (on 1 6 ∷ [])
    ∷ placement_judged (alone 10 14 4) (on 1 7 ∷ [])
    ∷ placement_judged (alone 10 15 4) (on 1 6 ∷ [])
    ∷ placement_judged (alone 10 15 4) (on 1 6 ∷ on 1 14 ∷ [])
    ∷ placement_judged (alone 10 15 4) (on 1 14 ∷ on 1 6 ∷ [])
    ∷ placement_judged (alone 11 15 4) (on 1 7 ∷ [])
    ∷ placement_judged (alone 10 0 10) []
    ∷ placement_judged (alone 10 0 11) []
    ∷ placement_judged (alone 10 0 11) (on 1 0 ∷ [])
    ∷ placement_judged (alone 10 0 11) (on 1 5 ∷ [])
    ∷ placement_judged mixed []
    ∷ placement_judged mixed (on 2 0 ∷ [])
    ∷ placement_judged heavy (on 1 0 ∷ on 2 0 ∷ [])
    ∷ placement_judged heavy (on 1 0 ∷ on 2 0 ∷ on 2 0 ∷ [])
    ∷ []

judged_so : tried
    ≡ (Ok tt)
    ∷ Err (Overloaded 0)
    ∷ (Ok tt)
    ∷ (Ok tt)
    ∷ Err (Overloaded 0)
    ∷ Err (Overloaded 1)
    ∷ (Ok tt)
    ∷ Err (Overloaded 0)
    ∷ Err (Overloaded 1)
    ∷ (Ok tt)
    ∷ Err (Misplaced 1)
    ∷ (Ok tt)
    ∷ (Ok tt)
    ∷ Err (Overloaded 0)
    ∷ Err (Overloaded 0)
    ∷ Err (Misplaced 0)
    ∷ Err (WrongParity 2)
    ∷ (Ok tt)
    ∷ Err (WrongParity 2)
    ∷ (Ok tt)
    ∷ []
unfolding placement_judged placed_from within_limit first_sink judge_each driven joined driven_on load_below handed_by hands_up drives offsets_on hanging on_the_way inverters
judged_so = refl

-- RULES 9.6, pin 11: whatever stands on the wire, the lowest driver sees the whole pin
pub pin_eleven : NoneLegal (alone 10 0 11)
unfolding driven joined driven_on load_below handed_by hands_up drives hanging
pin_eleven p l = go (offsets_on p 1) l.loads
  where
    go : (os : List ℕ) → Each (λ load. load ≤ 10) ((drives 2 0 11 os ++ []) ++ ((hands_up 2 0 0 11 os + 0) ∷ [])) → ⊥
    go [] e = omega (arith, e.0)
    go (o ∷ os) e = omega (arith, e.0)
