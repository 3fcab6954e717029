use Rattle.surplus.proofs.Tails.{close_runs, rows_close}
use Rattle.rows.proofs.close.Goals as goal

pub returns : goal.returns
returns c = λ f a. rows_close _ _ _ _ _ _ _ f (c.spread-m.ensures f (close_runs a c.if-slot-eq0.false)) c.close_row.ensures
