-- `fill` copies a whole column: a part that is written is stores from its front on.
use Rattle.std.proofs.Common.{sym, arith}
use native.Mathlib.Nat.{zero-add}
use Rattle.std.proofs.lemmas.List.Edits.{sets-eq}
use Rattle.net_reader.proofs.fill.Goals as goal

pub returns : goal.returns
returns g c = rw c.copy_from_slice.ensures.after (sym (rw zero-add at (sets-eq c.args.own.now c.args.lent.now 0 (omega arith))))
