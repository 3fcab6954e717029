-- `carry_files` says what is carried, or which file is at fault.
use Rattle.replies.specs.Replies.{of_fault}
use Rattle.replies.proofs.carry_files.Goals as goal

pub returns-in-Err : goal.returns-in-Err
returns-in-Err c = record { said = of_fault c.in-Err.fault; right = c.in-Err.ensures; replies = c.refuse.ensures _ }
