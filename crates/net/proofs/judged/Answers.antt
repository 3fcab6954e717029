use mathlib.Core.Path.{sym}
use Rattle.rules.proofs.SoundSays.{sound_says}
use Rattle.net.proofs.judged.Goals as goal

pub invariant_of-result : goal.invariant_of-result
invariant_of-result c = record { sound = sound_says _ (sym c.in_ok-judge.ensures) }
