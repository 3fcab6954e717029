use Rattle.tables.proofs.Starting.{filled_none}
use Rattle.tables.proofs.Tables.blank.Goals as goal

pub returns : goal.returns
returns c = λ τ n sound. filled_none τ sound
