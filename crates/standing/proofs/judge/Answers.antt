-- `standing::judge` meets its contract: the net's judgement, and then that of the entries (Begun.antt).
use mathlib.Core.Path.{sym}
use Rattle.rules.proofs.SoundSays.{sound_says}
use Rattle.standing.proofs.Begun.{then_stood, has_wires}
use Rattle.standing.proofs.judge.Goals as goal

pub returns : goal.returns
returns c = then_stood _ c.args.placement.now.wires.now c.args.placement.now.offsets.now c.in_ok-judge.ensures _ (c.entries_stand.ensures _ (has_wires (sound_says _ (sym c.in_ok-judge.ensures))))
