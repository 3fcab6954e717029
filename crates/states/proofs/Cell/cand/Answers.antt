-- A wire's candidate over one count and load: the number that `req` gives, and what it hands up.
use Rattle.std.proofs.Common.{arith}
use Rattle.frontier.specs.Frontier.{cand, second}
use Rattle.states.proofs.Leaves.{ok_of, req_le, req_room}
use Rattle.states.proofs.Cell.cand.Goals as goal

pub top-t-requires : goal.top-t-requires
top-t-requires c = req_room (ok_of c.args.self) _ _ _ c.requires.0 c.req-r.ensures

pub overflow_add-result : goal.overflow_add-result
overflow_add-result c = omega (arith, c.req-r.ensures, req_le (ok_of c.args.self) c.args.odd c.args.v c.requires.0)

pub returns : goal.returns
unfolding cand second
returns c = rw (c.top-t.ensures, c.req-r.ensures)
