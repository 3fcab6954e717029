use mathlib.Core.Path.{refl}
use Rattle.surplus.proofs.Tails.{runs_low, tail_runs, tail_falls}
use Rattle.surplus.proofs.One.{way_start, way_out, one_on, one_out}
use Rattle.deal.proofs.deal_one.Goals as goal

pub loop-j-init : goal.loop-j-init
loop-j-init c = (runs_low c.requires.1.1.asks.runs, refl, λ τ f a. way_start 1 a)

pub gains-requires : goal.gains-requires
gains-requires c =
    let (τ, a) = c.requires.1 in
    (c.requires.0, c.loop-j.invariant.0, runs_low (tail_runs (c.loop-j.invariant.2 τ a.f a.asks).runs c.loop-j-test.true _ c.next-next.ensures))

pub returns-then-gains : goal.returns-then-gains
returns-then-gains c =
    λ τ f a. rw c.loop-j.invariant.1 (one_out a (c.loop-j.invariant.2 τ f a) c.loop-j-test.true _ c.next-next.ensures c.if-gains.ensures)

pub loop-j-smaller : goal.loop-j-smaller
loop-j-smaller c = let (τ, a) = c.requires.1 in tail_falls (c.loop-j.invariant.2 τ a.f a.asks).runs c.loop-j-test.true _ c.next-next.ensures

pub loop-j-preserved : goal.loop-j-preserved
loop-j-preserved c =
    let (τ, a) = c.requires.1 in
    (runs_low (tail_runs (c.loop-j.invariant.2 τ a.f a.asks).runs c.loop-j-test.true _ c.next-next.ensures), c.loop-j.invariant.1, λ τ f a. one_on a (c.loop-j.invariant.2 τ f a) c.loop-j-test.true _ c.next-next.ensures c.if-gains.ensures)

pub returns : goal.returns
returns c = λ τ f a. rw c.loop-j.invariant.1 (way_out (c.loop-j.invariant.2 τ f a) c.loop-j-test.false)
