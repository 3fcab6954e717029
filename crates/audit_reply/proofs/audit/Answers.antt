-- `audit` shows both counts, or what is refused.
use Rattle.audit_reply.proofs.audit.Goals as goal

pub returns-in-Ok : goal.returns-in-Ok
returns-in-Ok c = record { text = _; is = rw c.tell_legal.ensures.found c.in-Ok.ensures; shows = c.tell_legal.ensures.shows }

pub returns-in-Err : goal.returns-in-Err
returns-in-Err c = record { text = _; is = rw c.refuse.ensures.found c.in-Err.ensures; shows = c.refuse.ensures.shows }
