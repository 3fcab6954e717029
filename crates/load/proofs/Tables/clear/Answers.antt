use mathlib.Core.Bool.{false}
use Rattle.load.proofs.Clear.{new_clear}
use Rattle.load.proofs.Tables.clear.Goals as goal

pub returns : goal.returns
returns c = record { own = new_clear 0; shut = new_clear false; gap = new_clear 0; reach = new_clear 0 }
