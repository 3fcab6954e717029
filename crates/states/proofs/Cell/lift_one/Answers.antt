-- A wire over one polarity alone, the short way.
use Rattle.states.proofs.Short.{lift_own}
use Rattle.states.proofs.Cell.lift_one.Goals as goal

pub returns : goal.returns
returns c = lift_own c.args.self c.args.w c.if-self-w.false c.requires.2 c.grown.ensures c.turned.ensures
