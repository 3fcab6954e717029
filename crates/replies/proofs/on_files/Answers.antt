-- `on_files` says what the verb says, or which file is at fault.
use Rattle.replies.specs.Replies.{of_fault}
use Rattle.replies.proofs.on_files.Goals as goal

pub returns-in-Err : goal.returns-in-Err
returns-in-Err c = record { said = of_fault c.in-Err.fault; right = c.in-Err.ensures; replies = c.refuse.ensures _ }
