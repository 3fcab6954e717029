-- One candidate, by its count and its load.
use native.Mathlib.Omega.{arith}
use Prim.Native.Nat.{◌+◌}
use Rattle.states.proofs.Leaves.{ok_of, req_le, req_room}
use Rattle.cuts.proofs.candidate.Goals as goal

pub overflow_add-n : goal.overflow_add-n
overflow_add-n c = record { fits = omega (arith, c.req-count.ensures, req_le (ok_of c.args.c) c.args.odd (c.args.w + c.args.h) (omega arith)) }

pub top-requires : goal.top-requires
top-requires c = req_room (ok_of c.args.c) _ _ _ (omega arith) c.req-count.ensures
