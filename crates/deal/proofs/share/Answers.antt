-- The part of the surplus that a wire takes: the least of three sums.
use Prim.Native.Nat.{◌*◌}
use Rattle.surplus.specs.Rows.{load_at}
use Rattle.deal.proofs.Sharing.{share_2}
use Rattle.deal.proofs.share.Goals as goal

pub returns : goal.returns
returns c =
    let g = load_at c.args.rows.now (c.args.m * c.args.m) (c.args.m * 2) in
    share_2 g c.args.l.least c.args.l.one c.args.l.two c.args.e _ c.if-e-eq0.false c.if-e-eq1.false c.least_of.ensures.0 (rw (c.load_at.ensures, c.load_at-2.ensures, c.load_at-3.ensures) at c.least_of.ensures.1)
