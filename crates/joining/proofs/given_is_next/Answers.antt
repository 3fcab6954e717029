-- `given_is_next` compares the two that come first: the given one is next where it may stand before the added one.
use Rattle.std.proofs.Common.{arith}
use Rattle.joining.proofs.Ordered.{le_after}
use Rattle.joining.proofs.Joining.{none_given, none_added, by_first}
use Rattle.joining.proofs.given_is_next.Goals as goal

pub returns-then-i-given : goal.returns-then-i-given
returns-then-i-given c = none_given c.requires (omega arith)

pub returns-then-j-added : goal.returns-then-j-added
returns-then-j-added c = none_added c.requires (omega arith)

pub returns : goal.returns
returns c = by_first c.requires (omega arith) (omega arith) _ (rw (← c.entry-first.ensures, ← c.entry-other.ensures) (le_after _ _ c.le.ensures))
