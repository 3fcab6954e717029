-- One more where the parity asks it.
use Rattle.std.proofs.Common.{arith}
use Rattle.frontier.specs.Frontier.{req}
use Rattle.states.proofs.Leaves.{ok_of, ceil_le}
use Rattle.states.proofs.Cell.req.Goals as goal

pub overflow_add-result : goal.overflow_add-result
overflow_add-result c = omega (arith, c.ceil-r.ensures, ceil_le (ok_of c.args.self) c.args.v c.requires.0)

pub overflow_add-result-2 : goal.overflow_add-result-2
overflow_add-result-2 c = omega (arith, c.ceil-r.ensures, ceil_le (ok_of c.args.self) c.args.v c.requires.0)

pub returns : goal.returns
unfolding req
returns c = rw c.ceil-r.ensures
