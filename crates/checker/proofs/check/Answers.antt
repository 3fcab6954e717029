-- `checker::check` meets its contract: the net's refusals, 7 and 10, and then 11 and 12 (Weighing.antt).
use mathlib.Core.Path.{sym, ◌∙◌}
use Rattle.std.proofs.lemmas.Result.{err_from_is_err_and}
use Rattle.checker.proofs.Weighing.{begun_refused, weighed_last}
use Rattle.checker.proofs.check.Goals as goal

pub returns-in_err-on : goal.returns-in_err-on
returns-in_err-on c =
    let p = err_from_is_err_and c.from_residual.result c.from_residual.ensures.1 in
    rw (p.1, p.2) (begun_refused _ c.args.placement.now.wires.now c.args.placement.now.offsets.now _ (sym c.in_err-on.ensures))

pub returns : goal.returns
returns c =
    let (net, placement, begun) = c.in_ok-on.ensures in
    rw (← net, ← placement) c.weigh.ensures ∙ weighed_last _ c.args.placement.now.wires.now c.args.placement.now.offsets.now (sym begun)
