-- As many as the model says.
use Rattle.std.proofs.Common.{arith}
use Rattle.states.specs.States.{model_of}
use Rattle.adding.proofs.Walking.{ceil_few}
use Rattle.adding.proofs.takes.Goals as goal

pub returns : goal.returns
returns c = (c.ceil.ensures, omega (arith, c.ceil.ensures, ceil_few (model_of c.args.c) c.args.c.limit_is c.args.c.some_span c.args.v c.requires))
