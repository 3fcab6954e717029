-- `checker::weigh` meets its contract: it makes the tables and lends them; 11 for the entries, and then what is left (Weighing.antt).
use mathlib.Core.Path.{◌∙◌}
use Rattle.std.proofs.lemmas.Result.{err_from_is_err_and}
use Rattle.checker.proofs.Weighing.{loads_over, loads_within}
use Rattle.checker.proofs.weigh.Goals as goal

pub returns-in_err-entries_within_limit : goal.returns-in_err-entries_within_limit
returns-in_err-entries_within_limit c =
    let p = err_from_is_err_and c.from_residual.result c.from_residual.ensures.1 in
    rw (p.1, p.2, ← c.of-loads.ensures) (loads_over c.of-loads.result.on.placed _ c.in_err-entries_within_limit.ensures)

pub returns : goal.returns
returns c = rw (← c.of-loads.ensures) (c.settle.ensures ∙ loads_within c.of-loads.result.on.placed c.in_ok-entries_within_limit.ensures)
