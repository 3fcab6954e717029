-- Half-buffered nets on both sides of each line, C_U 10 and C_b 2: the least number to add by marks that are right, and refusals in their order.
use Rattle.std.specs.Prelude.{Ok, Err}
use Prim.Native.Nat.{ℕ, zero, suc, ◌≤◌, ◌<◌}
use mathlib.Core.Path.{◌≡◌, refl}
use mathlib.Core.List.{List, [], ◌∷◌}
use lib.ListN.{length, get_or}
use native.Mathlib.Omega.{arith}
use Rattle.rules.specs.declared.Limits.{Limits}
use Rattle.rules.specs.declared.Entry.{Entry}
use Rattle.rules.specs.declared.Refusal.TheVariants.{OutOfRange, WrongColumns, Misplaced}
use Rattle.rules.specs.Net.{Net, kind}
use Rattle.rules.specs.Tree.{hanging, under}
use Rattle.rules.specs.Load.{offsets_on, entries}
use Rattle.rules.specs.Legal.{higher, further, InOrder, start}
use Rattle.rules.specs.Complete.{LeastAdded, NoneCompletes}
use Rattle.rules.specs.Judge.{judge_each, children, judged}
use Rattle.rules.specs.Checked.{placed_from}
use Rattle.rules.proofs.SoundSays.{sound_says}
use Rattle.frontier.specs.Cell.{Cell, cell_of}
use Rattle.frontier.specs.Frontier.{ceil}
use Rattle.frontier.specs.Placed.{on_wire, on_wires, placed}
use Rattle.frontier.specs.Spaced.{spread}
use Rattle.frontier.specs.Starred.{limits, plus, net_of, on}
use Rattle.relief.specs.Pieces.{topmost, lead_of, bare, added_from}
use Rattle.relief.specs.Marks.{light, heavy, Marks, hands, added_at, Relieved, Marked, pin_over}
use Rattle.relief.proofs.Pieces.{T-ceil}
use Rattle.relief.proofs.Least.{least_added, none_completes}
use Rattle.finish.specs.Answer.{half_judged}

abbrev ten : Limits
ten = limits 0 10 2

abbrev τ : Cell
τ = cell_of ten

-- ---- one sink under the source: nothing has to be topped
abbrev lone : ℕ → ℕ → Net
lone w c = net_of ten (plus 0 w c ∷ [])

abbrev lone_marks : ℕ → ℕ → List Entry → Marks
lone_marks w c g = record { load = loads; on = λ i. 0 }
  where
    loads : ℕ → ℕ
    loads zero = bare τ w (lead_of (offsets_on g 1)) c
    loads (suc i) = c

lone_marked : (w c : ℕ) (g : List Entry) → c ≤ 10 → Marked τ (lone w c) (λ i. lead_of (offsets_on g i)) (lone_marks w c g) 0
unfolding hanging
lone_marked w c g h = record { fits = fits; sinks = sinks; nodes = nodes }
  where
    low : bare τ w (lead_of (offsets_on g 1)) c ≤ 10
    low = T-ceil τ (omega arith) (omega arith) _

    fits : (i : ℕ) → 0 ≤ i → i < 2 → (lone_marks w c g).load i ≤ 10
    fits zero lo hi = low
    fits (suc i) lo hi = h

    sinks : (i : ℕ) → 0 ≤ i → i < 2 → kind (lone w c) i ≡ 1 → (lone_marks w c g).load i ≡ get_or (0 ∷ c ∷ []) i 0
    sinks zero lo hi k = absurd (omega arith)
    sinks (suc zero) lo hi k = refl
    sinks (suc (suc i)) lo hi k = absurd (omega arith)

    nodes : (v : ℕ) → 0 ≤ v → v < 2 → kind (lone w c) v ≡ 0 → Relieved τ (hands τ (lone w c) (λ i. lead_of (offsets_on g i)) (lone_marks w c g)) (λ i. 0) (under (lone w c) v) ((lone_marks w c g).load v)
    nodes zero lo hi k = record { x = 8; small = omega arith; each = (light (omega (arith, low)), tt); tight = λ z. absurd (omega arith); load = omega arith }
    nodes (suc zero) lo hi k = absurd (omega arith)
    nodes (suc (suc v)) lo hi k = absurd (omega arith)

adds : (w c : ℕ) (g : List Entry) → judged (lone w c) ≡ Ok tt → c ≤ 10 → InOrder (lone w c) start g → LeastAdded (lone w c) g (length (placed (lone w c) (added_at τ (lone w c) (offsets_on g) (lone_marks w c g))))
adds w c g s h o = least_added (sound_says (lone w c) s) refl g o (lone_marks w c g) (lone_marked w c g h)

legal_already : LeastAdded (lone 14 4) (on 1 6 ∷ []) 0
unfolding judged judge_each children offsets_on on_wire on_wires added_from spread ceil topmost
legal_already = adds 14 4 (on 1 6 ∷ []) refl (omega arith) (higher (omega arith), record { above = omega arith; within = omega arith; offset = omega arith }, tt)

source_over : LeastAdded (lone 14 4) (on 1 5 ∷ []) 1
unfolding judged judge_each children offsets_on on_wire on_wires added_from spread ceil topmost
source_over = adds 14 4 (on 1 5 ∷ []) refl (omega arith) (higher (omega arith), record { above = omega arith; within = omega arith; offset = omega arith }, tt)

entry_over : LeastAdded (lone 14 4) (on 1 7 ∷ []) 1
unfolding judged judge_each children offsets_on on_wire on_wires added_from spread ceil topmost
entry_over = adds 14 4 (on 1 7 ∷ []) refl (omega arith) (higher (omega arith), record { above = omega arith; within = omega arith; offset = omega arith }, tt)

-- three in all, where two alone would do
twice_the_same : LeastAdded (lone 15 4) (on 1 0 ∷ on 1 0 ∷ []) 1
unfolding judged judge_each children offsets_on on_wire on_wires added_from spread ceil topmost
twice_the_same =
    adds 15 4 (on 1 0 ∷ on 1 0 ∷ []) refl (omega arith)
    (higher (omega arith), record { above = omega arith; within = omega arith; offset = omega arith }, (further refl (omega arith), record { above = omega arith; within = omega arith; offset = omega arith }, tt))

-- a pin is no wire (RULES 10.1): no buffer relieves it
pin_eleven : NoneCompletes (lone 0 11) (on 1 0 ∷ [])
unfolding judged judge_each children offsets_on
pin_eleven =
    none_completes (sound_says (lone 0 11) refl) refl (on 1 0 ∷ []) (higher (omega arith), record { above = omega arith; within = omega arith; offset = omega arith }, tt) (lone_marks 0 11 (on 1 0 ∷ [])) 1 (omega arith)
    (record { fits = λ i lo hi. absurd (omega arith); sinks = λ i lo hi. absurd (omega arith); nodes = λ i lo hi. absurd (omega arith) }) (pin_over refl (omega arith))

-- ---- five sinks: the given one hands up 2, and each of the others takes a buffer
abbrev five : Net
five = net_of ten (plus 0 0 3 ∷ plus 0 0 3 ∷ plus 0 0 3 ∷ plus 0 0 3 ∷ plus 0 0 3 ∷ [])

abbrev five_loads : ℕ → ℕ
five_loads zero = 10
five_loads (suc i) = 3

abbrev five_tops : ℕ → ℕ
five_tops zero = 0
five_tops (suc zero) = 0
five_tops (suc (suc i)) = 1

five_sinks : LeastAdded five (on 1 0 ∷ []) 4
unfolding judged judge_each children hanging offsets_on on_wire on_wires added_from spread ceil topmost
five_sinks =
    least_added (sound_says five refl) refl (on 1 0 ∷ []) (higher (omega arith), record { above = omega arith; within = omega arith; offset = omega arith }, tt) (record { load = five_loads; on = five_tops })
    (record { fits = fits; sinks = sinks; nodes = nodes })
  where
    fits : (i : ℕ) → 0 ≤ i → i < 6 → five_loads i ≤ 10
    fits zero lo hi = omega arith
    fits (suc i) lo hi = omega arith

    sinks : (i : ℕ) → 0 ≤ i → i < 6 → kind five i ≡ 1 → five_loads i ≡ get_or (0 ∷ 3 ∷ 3 ∷ 3 ∷ 3 ∷ 3 ∷ []) i 0
    sinks zero lo hi k = absurd (omega arith)
    sinks (suc zero) lo hi k = refl
    sinks (suc (suc zero)) lo hi k = refl
    sinks (suc (suc (suc zero))) lo hi k = refl
    sinks (suc (suc (suc (suc zero)))) lo hi k = refl
    sinks (suc (suc (suc (suc (suc zero))))) lo hi k = refl
    sinks (suc (suc (suc (suc (suc (suc i)))))) lo hi k = absurd (omega arith)

    nodes : (v : ℕ) → 0 ≤ v → v < 6 → kind five v ≡ 0 → Relieved τ (hands τ five (λ i. lead_of (offsets_on (on 1 0 ∷ []) i)) (record { load = five_loads; on = five_tops })) five_tops (under five v) (five_loads v)
    nodes zero lo hi k = record {
      x = 1;
      small = omega arith;
      each = (light (omega arith), (heavy (omega arith), (heavy (omega arith), (heavy (omega arith), (heavy (omega arith), tt)))));
      tight = λ z. omega arith;
      load = refl;
    }
    nodes (suc zero) lo hi k = absurd (omega arith)
    nodes (suc (suc zero)) lo hi k = absurd (omega arith)
    nodes (suc (suc (suc zero))) lo hi k = absurd (omega arith)
    nodes (suc (suc (suc (suc zero)))) lo hi k = absurd (omega arith)
    nodes (suc (suc (suc (suc (suc zero))))) lo hi k = absurd (omega arith)
    nodes (suc (suc (suc (suc (suc (suc v)))))) lo hi k = absurd (omega arith)

-- ---- refusals in their order: type 1 before unequal columns, columns before entries
type_first : half_judged (net_of (limits 1 10 2) (plus 0 6 4 ∷ [])) (1 ∷ []) [] ≡ Err (OutOfRange 0)
unfolding half_judged judged judge_each children placed_from entries
type_first = refl

then_columns : half_judged (lone 6 4) (9 ∷ []) [] ≡ Err WrongColumns
unfolding half_judged judged judge_each children placed_from entries
then_columns = refl

then_order : half_judged (lone 6 4) (1 ∷ 1 ∷ []) (3 ∷ 2 ∷ []) ≡ Err (Misplaced 1)
unfolding half_judged judged judge_each children placed_from entries
then_order = refl
