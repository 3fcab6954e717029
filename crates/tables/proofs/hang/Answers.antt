-- A wire before the wires after it: lost where either is, else their two loads with its own.
use native.Mathlib.Omega.{arith}
use mathlib.Core.Path.{refl, ap}
use Rattle.states.specs.States.{st}
use Rattle.surplus.proofs.Hanging.{hung_lost, hung_dead, hung_more}
use Rattle.tables.proofs.hang.Goals as goal

pub returns-in_default-clause-hung : goal.returns-in_default-clause-hung
returns-in_default-clause-hung c = hung_lost _ _ _ _ _ (omega arith) (ap st c.in_default.is) _ refl

pub returns-then-after-eq0-clause-hung : goal.returns-then-after-eq0-clause-hung
returns-then-after-eq0-clause-hung c = hung_dead _ _ _ _ _ (omega arith) _ _ _ (ap st c.in-Some.is) c.if-after-eq0.true _ refl refl refl

pub returns-clause-hung : goal.returns-clause-hung
returns-clause-hung c = rw c.min.ensures (hung_more _ _ _ _ _ (omega arith) _ _ _ (ap st c.in-Some.is) _ _ _ refl refl refl c.if-after-eq0.false)
