use mathlib.Core.Path.{refl}
use native.Mathlib.Omega.{arith}
use Rattle.std.proofs.lemmas.Result.{err_from_is_err_and}
use Rattle.rules.proofs.Each.{going_stop, going_next, going_end}
use Rattle.net.proofs.all_childed.Goals as goal

pub returns-in_err-has_child : goal.returns-in_err-has_child
returns-in_err-has_child c =
    let p = err_from_is_err_and c.from_residual.result c.from_residual.ensures.1 in
    rw (p.1, p.2) (going_stop c.loop-i.invariant (omega arith) _ _ refl c.in_err-has_child.ensures)

pub loop-i-preserved : goal.loop-i-preserved
loop-i-preserved c = going_next c.loop-i.invariant (omega arith) c.in_ok-has_child.ensures

pub returns : goal.returns
returns c = going_end c.loop-i.invariant (omega arith)
