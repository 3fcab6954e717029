-- `next` keeps the buffer's places.
use Rattle.std.proofs.Common.{◌≡◌, length}
use Rattle.names.proofs.NameReader.next.Given as goal

abbrev pub invariant-loop-n : goal.invariant-loop-n
invariant-loop-n g l = length l.name ≡ length l.initial.name
