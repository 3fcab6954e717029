-- A wire that takes no surplus and needs no inverter stays as it is; any other is cut by its target.
use native.Mathlib.Omega.{arith}
use Prim.Native.Nat.{ℕ, ◌-◌}
use mathlib.Core.Path.{ap, ◌∙◌}
use Rattle.states.proofs.Leaves.{ok_of}
use Rattle.surplus.specs.Tables.{count_at}
use Rattle.walk.proofs.Settling.{wire_low, head_low, counts, loads, count_few, head_count, targeted, aims, own_small, decided_bare}
use Rattle.walk.proofs.cut_wire.Goals as goal

pub overflow_sub-m : goal.overflow_sub-m
overflow_sub-m c = rw c.next.ensures (counts (ok_of c.args.c) c.requires.cutting.1).0

pub side-requires : goal.side-requires
side-requires c = let ok = ok_of c.args.c in let (n, t) = c.requires.cutting in (t.low, rw c.head-h.ensures (head_low ok t), wire_low ok t, rw c.head-h.ensures (head_count ok t c.args.p t.low))

pub stays-requires : goal.stays-requires
stays-requires c = (c.requires.wire_bound, own_small (ok_of c.args.c) c.requires.cutting.1 c.head-h.ensures c.side.ensures)

pub returns-then-stays : goal.returns-then-stays
returns-then-stays c =
    λ n t.
    let ok = ok_of c.args.c in
    let e = ap (λ (j : ℕ). count_at c.args.tables.now.chains.slots c.args.p c.args.i - count_at c.args.tables.now.chains.slots c.args.p j) c.next.ensures ∙ (counts ok t).1 in
    decided_bare ok t c.head-h.ensures e (loads ok t).0 c.if-s-eq0.true c.side.ensures c.if-stays.ensures _ c.owed.ensures

pub aim-goal-requires : goal.aim-goal-requires
aim-goal-requires c = let (n, t) = c.requires.cutting in (t.few, rw c.next.ensures (omega (arith, (counts (ok_of c.args.c) t).1, count_few (ok_of c.args.c) t)))

pub cut_over-requires-clause-by_index : goal.cut_over-requires-clause-by_index
cut_over-requires-clause-by_index c =
    let ok = ok_of c.args.c in
    let (n, t) = c.requires.cutting in
    let e = ap (λ (j : ℕ). count_at c.args.tables.now.chains.slots c.args.p c.args.i - count_at c.args.tables.now.chains.slots c.args.p j) c.next.ensures ∙ (counts ok t).1 in
    (n, c.args.s, targeted ok t c.head-h.ensures (aims ok t e (loads ok t).0 (loads ok t).1 c.aim-goal.ensures))

pub returns : goal.returns
unfolding targeted
returns c =
    λ n t.
    let ok = ok_of c.args.c in
    let e = ap (λ (j : ℕ). count_at c.args.tables.now.chains.slots c.args.p c.args.i - count_at c.args.tables.now.chains.slots c.args.p j) c.next.ensures ∙ (counts ok t).1 in
    c.cut_over.ensures n c.args.s (targeted ok t c.head-h.ensures (aims ok t e (loads ok t).0 (loads ok t).1 c.aim-goal.ensures))
