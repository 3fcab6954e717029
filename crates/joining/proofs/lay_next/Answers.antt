-- `lay_next` lays one entry more.
use Rattle.std.proofs.Common.{arith}
use Rattle.joining.proofs.Joining.{given_left, added_left, lay_given, lay_added}
use Rattle.joining.proofs.lay_next.Goals.{then-is_given, else-is_given}
use Rattle.joining.proofs.lay_next.Goals as goal

pub entry-e-requires : goal.entry-e-requires
entry-e-requires c = omega (arith, given_left c.requires.left (rw c.if-is_given.true at c.given_is_next-is_given.ensures), c.requires.left.even.given)

pub entry-e-requires-else-is_given : goal.entry-e-requires-else-is_given
entry-e-requires-else-is_given c = omega (arith, added_left c.requires.left (rw c.if-is_given.false at c.given_is_next-is_given.ensures), c.requires.left.even.added)

pub returns : goal.returns
returns c = elim c.if-is_given.branch [
  | then-is_given w ↦ rw (w.e-is, w.entry-e.ensures, w.if-is_given.true) (lay_given c.requires.left c.args.wires.now c.args.offs.now (rw w.if-is_given.true at c.given_is_next-is_given.ensures))
  | else-is_given w ↦ rw (w.e-is, w.entry-e-else-is_given.ensures, w.if-is_given.false) (lay_added c.requires.left c.args.wires.now c.args.offs.now (rw w.if-is_given.false at c.given_is_next-is_given.ensures))
]
