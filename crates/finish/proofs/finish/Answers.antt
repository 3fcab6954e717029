-- A refusal of the judgement is handed on; else the answer is the inner one's.
use Rattle.std.proofs.Common.{sym}
use Rattle.std.proofs.lemmas.Result.{err_from_is_err_and}
use Rattle.finish.proofs.Judging.{half_sound, refused, answered}
use Rattle.finish.proofs.finish.Goals as goal

pub returns-in_err-judge_half : goal.returns-in_err-judge_half
returns-in_err-judge_half c =
    let p = err_from_is_err_and c.from_residual.result c.from_residual.ensures.1 in
    rw (p.1, p.2) (refused _ _ _ _ _ (sym c.in_err-judge_half.ensures))

pub finish_sound-requires : goal.finish_sound-requires
finish_sound-requires c = let r = half_sound _ _ _ (sym c.in_ok-judge_half.ensures) in (r.sound, r.buffers, r.stood)

pub returns : goal.returns
returns c = answered _ (sym c.in_ok-judge_half.ensures) c.finish_sound.ensures
