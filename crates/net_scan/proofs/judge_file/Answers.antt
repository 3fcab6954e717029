-- `judge_file` tells `net_of`: what stands at the front decides whether the fields are judged.
use mathlib.Core.Path.{ap}
use Rattle.std.specs.Prelude.{Result}
use Rattle.std.proofs.lemmas.Result.{err_from_is_err_and}
use Rattle.rules.specs.declared.Limits.{Limits}
use Rattle.rules.specs.declared.Refusal.{Refusal}
use Rattle.net_file.specs.NetFile.{from_front, net_of}
use Rattle.net_scan.specs.Kept.{tells}
use Rattle.net_scan.proofs.Leaving.{refused_file, file_judged_lem}
use Rattle.net_scan.proofs.judge_file.Goals as goal

pub returns-in_err-limits : goal.returns-in_err-limits
unfolding net_of
returns-in_err-limits c =
    let p = err_from_is_err_and c.from_residual.result c.from_residual.ensures.1 in
    rw (p.1, p.2) (refused_file (ap (λ (f : Result Limits Refusal). tells (from_front c.args.s.now f)) c.in_err-limits.ensures))

pub returns : goal.returns
unfolding net_of
returns c = file_judged_lem (ap (from_front c.args.s.now) c.in_ok-limits.ensures) c.judge_fields.ensures
