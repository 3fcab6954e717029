-- Each judgement is passed on in its order.
use Rattle.std.proofs.Common.{sym}
use Rattle.std.proofs.lemmas.Result.{err_from_is_err_and}
use Rattle.rules.proofs.SoundSays.{sound_says}
use Rattle.standing.proofs.Begun.{has_wires}
use Rattle.finish.proofs.Judging.{half_own, half_type, half_rest}
use Rattle.finish.proofs.judge_half.Goals as goal

pub returns-in_err-judge : goal.returns-in_err-judge
returns-in_err-judge c =
    let p = err_from_is_err_and c.from_residual.result c.from_residual.ensures.1 in
    rw (p.1, p.2) (half_own _ _ _ (sym c.in_err-judge.ensures))

pub returns-then-net-ne0 : goal.returns-then-net-ne0
returns-then-net-ne0 c = half_type _ _ _ (sym c.in_ok-judge.ensures) c.if-net-ne0.true

pub returns : goal.returns
returns c =
    let sound = sym c.in_ok-judge.ensures in
    half_rest _ _ _ _ sound c.if-net-ne0.false (c.entries_stand.ensures _ (has_wires (sound_says _ sound)))
