-- What was read fits the columns that it was read into.
use Rattle.std.proofs.Common.{ap, arith, length}
use Rattle.rules.specs.Net.{Net}
use Rattle.finish_runs.proofs.Reading.{kept_ok, net_fits, placement_fits}
use Rattle.finish_runs.proofs.finish_pair.Goals as goal

pub lent-requires : goal.lent-requires
lent-requires c =
    let fits = net_fits c.read.ensures (kept_ok _ c.read.result c.in_ok-read.ensures.cases) in
    omega (arith, fits, ap (λ (n : Net). length n.parents) c.blank-columns.ensures)

pub lent-requires-2 : goal.lent-requires-2
lent-requires-2 c = placement_fits _ c.read-2.ensures (kept_ok _ c.read-2.result c.in_ok-count.ensures.cases)
