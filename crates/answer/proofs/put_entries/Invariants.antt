-- `put_entries` lays one line an entry: after k turns those of the first k entries stand, in at most 64 bytes each.
use Prim.Native.Nat.{◌+◌, ◌*◌, ◌≤◌}
use mathlib.Core.Path.{◌≡◌}
use lib.ListN.{length, take}
use Rattle.answer.specs.Text.{Laid, entry_lines}
use Rattle.answer.proofs.put_entries.Given as goal

abbrev pub invariant-loop-k : goal.invariant-loop-k
invariant-loop-k l =
    (l.next ≤ l.at + 64 * l.k)
    × (length l.out ≡ length l.initial.out)
    × Laid l.initial.out l.at (entry_lines (take l.k l.placement.wires.now) (take l.k l.placement.offsets.now) (take l.k l.loads)) l.out l.next
