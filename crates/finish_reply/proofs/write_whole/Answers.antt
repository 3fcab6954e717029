-- `write_whole` shows the file of the whole: none where it has too many entries, else the columns are joined and written.
use native.Mathlib.Omega.{arith}
use Rattle.finish_reply.proofs.Whole.{too_many, fit, written}
use Rattle.finish_reply.proofs.write_whole.Goals as goal

pub returns-then-total-gt-ENTRIES : goal.returns-then-total-gt-ENTRIES
returns-then-total-gt-ENTRIES c = too_many c.args.given.now.wires.now c.args.given.now.offsets.now c.args.added.now.wires.now c.args.added.now.offsets.now c.requires.0.given c.requires.0.added (omega arith) _

pub write_file-requires-clause-fit : goal.write_file-requires-clause-fit
write_file-requires-clause-fit c =
    let p = c.requires.0 in
    rw (c.lent.ensures.0, c.lent.ensures.1) (fit _ _ _ _ p.given p.added _ _ (omega arith) (omega arith) (omega arith) c.join.ensures p.net p.sound p.completes).columns

pub write_file-requires-clause-few : goal.write_file-requires-clause-few
write_file-requires-clause-few c =
    let p = c.requires.0 in
    rw (c.lent.ensures.0, c.lent.ensures.1) (fit _ _ _ _ p.given p.added _ _ (omega arith) (omega arith) (omega arith) c.join.ensures p.net p.sound p.completes).few

pub returns : goal.returns
returns c =
    let p = c.requires.0 in
    let wrote = rw (c.lent.ensures.0, c.lent.ensures.1) at c.write_file.ensures in
    written _ _ _ _ p.given p.added _ _ (omega arith) (omega arith) (omega arith) c.join.ensures wrote
