use native.Mathlib.Omega.{arith}
use Rattle.load.proofs.Wire.{driven_length}
use Rattle.listing.proofs.Stored.{stored_more, stored_all}
use Rattle.listing.proofs.fill_drives.Goals as goal

pub loop-k-preserved : goal.loop-k-preserved
loop-k-preserved c = stored_more c.loop-k.invariant (omega (arith, c.requires)) (omega (arith, driven_length c.args.loads.now.on.placed)) _ c.drives.ensures

pub returns : goal.returns
returns c = let m = driven_length c.args.loads.now.on.placed in stored_all c.loop-k.invariant (omega (arith, m)) (omega (arith, m, c.requires))
