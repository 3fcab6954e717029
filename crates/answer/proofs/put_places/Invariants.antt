-- `put_places` lays one line an entry: after k turns those of the first k entries stand, in at most 64 bytes each.
use mathlib.Core.Path.{◌≡◌}
use lib.ListN.{length, take}
use Prim.Native.Nat.{◌+◌, ◌*◌, ◌≤◌}
use Rattle.answer.specs.Text.{Laid, place_lines}
use Rattle.answer.proofs.put_places.Given as goal

abbrev pub invariant-loop-k : goal.invariant-loop-k
invariant-loop-k l = (l.next ≤ l.at + 64 * l.k) × (length l.out ≡ length l.initial.out) × Laid l.initial.out l.at (place_lines (take l.k l.placement.wires.now) (take l.k l.placement.offsets.now)) l.out l.next
