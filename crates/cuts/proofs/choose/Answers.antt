-- Some candidate meets the target, so one of the two tries finds it.
use Rattle.states.specs.States.{model_of, st}
use Rattle.cuts.proofs.Choosing.{try_none}
use Rattle.cuts.proofs.choose.Goals as goal

pub unreachable-requires : goal.unreachable-requires
unreachable-requires c = try_none (model_of c.args.c) c.args.w c.args.goal.count c.args.goal.load (st c.args.same) (st c.args.other) c.in_default.ensures c.requires.meets c.in_default-pick.ensures
