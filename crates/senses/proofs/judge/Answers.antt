-- `senses::judge` meets its contract: the table of inverters, and nothing to judge where there are none (Inverters.antt).
use mathlib.Core.Path.{sym}
use mathlib.Core.Bool.{false}
use Rattle.load.proofs.Clear.{new_clear}
use Rattle.senses.proofs.Inverters.{buffers_agree}
use Rattle.senses.proofs.judge.Goals as goal

pub returns-then-on-eq0 : goal.returns-then-on-eq0
returns-then-on-eq0 c = sym (buffers_agree c.args.on.now.placed.sound c.if-on-eq0.true _)

pub count_turns-requires : goal.count_turns-requires
count_turns-requires c = new_clear false
