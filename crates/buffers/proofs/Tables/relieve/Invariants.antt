-- The loop keeps that the heaviest are topped and that one fewer would be too few.
use Rattle.std.proofs.Common.{◌≡◌}
use Rattle.states.specs.States.{model_of}
use Rattle.buffers.proofs.Relieving.{Progress}
use Rattle.buffers.proofs.Tables.relieve.Given as goal

abbrev pub invariant-loop-h : goal.invariant-loop-h
invariant-loop-h l =
    Progress (model_of l.c) l.self.links l.initial.self.tops l.initial.self.on l.first l.load l.self.tops l.self.on l.h ×
    (l.self.below ≡ l.initial.self.below) × (l.self.links ≡ l.initial.self.links)

abbrev pub decreases-loop-h : goal.decreases-loop-h
decreases-loop-h l = l.h
