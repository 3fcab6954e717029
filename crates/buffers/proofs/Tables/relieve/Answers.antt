use Rattle.std.proofs.Common.{List, ℕ, ◌-◌, refl, sym, subst, arith, length, set}
use Rattle.states.specs.States.{model_of}
use Rattle.buffers.specs.Chain.{Chain}
use Rattle.buffers.proofs.Relieving.{Progress, progress_start, picked, progress_more, progress_fits, progress_stuck}
use Rattle.buffers.proofs.Tables.relieve.Goals as goal

pub loop-h-init : goal.loop-h-init
loop-h-init c = (progress_start c.args.c.limit_is c.requires, refl, refl)

pub returns-in_default-clause-eased : goal.returns-in_default-clause-eased
returns-in_default-clause-eased c js x =
    let (p, b, e) = c.loop-h.invariant in
    progress_stuck p c.heaviest.ensures c.in_default.is c.loop-h-test.true js (subst (λ (links : List ℕ). Chain (length c.args.self.now.tops) links c.args.first js) (sym e) x)

pub offset_bounds-self-j : goal.offset_bounds-self-j
offset_bounds-self-j c = let k = picked c.loop-h.invariant.0 c.heaviest.ensures c.in-Some.is in omega (arith, k.in_tops, k.few)

pub bounds-self-j : goal.bounds-self-j
bounds-self-j c = omega (arith, (picked c.loop-h.invariant.0 c.heaviest.ensures c.in-Some.is).in_tops)

pub overflow_sub-h : goal.overflow_sub-h
overflow_sub-h c = let k = picked c.loop-h.invariant.0 c.heaviest.ensures c.in-Some.is in omega (arith, k.over, k.enough, c.from-h.ensures)

pub loop-h-preserved : goal.loop-h-preserved
loop-h-preserved c =
    let (p, b, e) = c.loop-h.invariant in
    let j = c.in-Some.j in
    let k = picked p c.heaviest.ensures c.in-Some.is in
    let t = c.loop-h.self in
    let progress : ℕ → Type 0 = λ less. Progress (model_of c.args.c) t.links c.args.self.now.tops c.args.self.now.on c.args.first c.args.load (set t.tops j c.args.c.pin) (set t.on j 1) (c.loop-h.h - less) in
    (subst progress (sym c.from-h.ensures) (progress_more p c.args.c.limit_is j k c.loop-h-test.true), b, e)

pub returns-clause-eased : goal.returns-clause-eased
returns-clause-eased c js x =
    let (p, b, e) = c.loop-h.invariant in
    progress_fits p (omega arith) js (subst (λ (links : List ℕ). Chain (length c.args.self.now.tops) links c.args.first js) (sym e) x)
