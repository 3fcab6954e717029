-- The least number of repeaters is one division, and none where the load fits: the code's is the frontier's.
use Rattle.std.proofs.Common.{rules, sym}
use Rattle.frontier.specs.Frontier.{ceil}
use Rattle.states.specs.States.{model_of}
use Rattle.states.proofs.Short.{ceil_0}
use Rattle.states.proofs.Cell.ceil.Goals as goal

pub returns-then-v-self : goal.returns-then-v-self
returns-then-v-self c = sym (ceil_0 (model_of c.args.self) c.args.self.limit_is c.args.self.some_span c.args.v c.if-v-self.true)

pub returns : goal.returns
unfolding ceil
returns c = search rules
