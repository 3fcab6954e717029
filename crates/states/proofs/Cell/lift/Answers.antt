-- A wire over its node's two states, where both are lost.
use Rattle.states.proofs.Short.{lift_none}
use Rattle.states.proofs.Cell.lift.Goals as goal

pub returns-in-None-None : goal.returns-in-None-None
returns-in-None-None c = lift_none c.args.self c.args.w c.in-None-None.is-0 c.in-None-None.is-1
