use Rattle.inverted.proofs.solve.Goals as goal

pub fill-requires-clause-filled : goal.fill-requires-clause-filled
fill-requires-clause-filled c = c.blank-tables.ensures _ _ c.requires.0
