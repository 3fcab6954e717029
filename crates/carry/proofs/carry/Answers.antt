-- `carry::carry` meets its contract: what the refusals passed over say of both nets and of the entries (Carrying.antt).
use mathlib.Core.Path.{sym, ◌∙◌}
use Rattle.rules.proofs.SoundSays.{sound_says}
use Rattle.carry.proofs.Carrying.{mapped_ok, on_wires_lem}
use Rattle.carry.proofs.carry.Goals as goal

pub judge_ease-requires : goal.judge_ease-requires
judge_ease-requires c = record { sound = (sound_says _ (sym (mapped_ok _ _ c.in_ok-map_err.ensures.cases ∙ c.judge.ensures)), sound_says _ (sym (mapped_ok _ _ c.in_ok-map_err-2.ensures.cases ∙ c.judge-2.ensures))) }

pub cut_to-requires : goal.cut_to-requires
cut_to-requires c =
    on_wires_lem _ _ c.args.wires.now c.args.offsets.now
    (mapped_ok _ _ c.in_ok-map_err.ensures.cases ∙ c.judge.ensures) (mapped_ok _ _ c.in_ok-map_err-2.ensures.cases ∙ c.judge-2.ensures) (mapped_ok _ _ c.in_ok-map_err-3.ensures.cases ∙ c.judge_ease.ensures)
    _ (mapped_ok _ _ c.in_ok-map_err-4.ensures.cases ∙ c.check.ensures)
