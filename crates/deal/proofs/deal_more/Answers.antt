use native.Mathlib.Omega.{arith}
use mathlib.Core.Path.{sym}
use Rattle.surplus.proofs.Tails.{runs_low}
use Rattle.surplus.proofs.More.{more_start, more_out, part_asks, more_low, more_take}
use Rattle.deal.proofs.deal_more.Goals as goal

pub loop-m-init : goal.loop-m-init
loop-m-init c = (runs_low c.requires.asked_more.asks.asks.runs, λ f a. more_start _ a)

pub share-s-requires : goal.share-s-requires
share-s-requires c =
    let a = part_asks (c.loop-m.invariant.1 c.requires.asked_more.f c.requires.asked_more.asks) (λ z. omega arith) in
    record { m_bound = omega arith; loads_bound = omega (arith, a.0, c.loads.ensures); by_index = a.1 }

pub loop-m-preserved : goal.loop-m-preserved
loop-m-preserved c =
    let l = c.loads.ensures in
    (more_low (c.loop-m.invariant.1 c.requires.asked_more.f c.requires.asked_more.asks) (λ z. omega arith) _ c.next-j.ensures, λ f a. more_take (c.loop-m.invariant.1 f a) (λ z. omega arith) _ c.next-j.ensures _ (rw (sym l.2, sym l.0, sym l.1) c.share-s.ensures))

pub returns : goal.returns
returns c = λ f a. more_out (c.loop-m.invariant.1 f a) (omega arith)
