-- `least_count` is the least count: the solver refuses no net that has a legal placement of at most 4,096 entries.
use native.Mathlib.Omega.{arith}
use mathlib.Core.Path.{refl}
use Rattle.audit_reply.proofs.Auditing.{is_placed, least_placed}
use Rattle.audit_reply.proofs.least_count.Goals as goal

pub unwrap-requires : goal.unwrap-requires
unwrap-requires c = let (k, e) = is_placed _ _ _ _ _ c.requires c.solve.ensures (omega arith) (omega arith) in rw e refl

pub returns : goal.returns
returns c = least_placed _ _ _ _ _ c.requires c.solve.ensures (omega arith) (omega arith) _ c.unwrap.ensures
