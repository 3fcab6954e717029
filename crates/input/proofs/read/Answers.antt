-- What one more read took stands behind what was there.
use Rattle.std.proofs.Common.{rules, subst}
use Rattle.std.specs.Io.KnownBytes.{Consumes}
use Rattle.std.proofs.KnownBytes.{Consumes-trans}
use Rattle.input.proofs.Filling.{front_after}
use Rattle.input.proofs.read.Goals as goal

pub loop-count-preserved : goal.loop-count-preserved
loop-count-preserved g c =
    let after = front_after _ _ _ _ _ c.loop-count.invariant.1 c.in_ok-more.ensures.within in
    (search rules, search rules, subst (Consumes _ _) after (Consumes-trans _ _ _ _ _ c.loop-count.invariant.2 c.in_ok-more.ensures.bytes.0))
