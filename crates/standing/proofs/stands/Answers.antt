-- `standing::stands` meets its contract: what the judgement says where it is passed (Begun.antt).
use mathlib.Core.Path.{refl}
use Rattle.standing.proofs.Begun.{begun_says}
use Rattle.standing.proofs.stands.Goals as goal

pub invariant_of-result : goal.invariant_of-result
invariant_of-result c = record { placed = begun_says _ c.args.placement.now.wires.now c.args.placement.now.offsets.now _ c.in_ok-judge.ensures refl }
