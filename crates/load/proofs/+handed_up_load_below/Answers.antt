use mathlib.Core.Path.{sym}
use native.Mathlib.Omega.{arith}
use Rattle.load.proofs.Bound.{load_most}
use Rattle.load.proofs.Parts.{handed_shut, handed_open, open_branch, own_most}
use Rattle.load.proofs.Spans.{none_before, none_after, span_within}
use Rattle.load.proofs.Scan.{scan_start, found_child, scan_next, scan_most, scan_over}
use Rattle.load.proofs.+handed_up_load_below.Goals as goal

pub handed_up-returns-then-tables-i : goal.handed_up-returns-then-tables-i
handed_up-returns-then-tables-i t c = λ n offs a. sym (handed_shut a.tables.parts c.args.i c.if-tables-i.true)

pub handed_up-load_below-requires : goal.handed_up-load_below-requires
handed_up-load_below-requires t c =
    let a = c.requires.asks in
    (omega arith, record { net = c.requires.net; offs = c.requires.offs; asks = record { asks = a; branch = open_branch a.tables.parts c.args.i c.if-tables-i.false } })

pub handed_up-overflow_add-result : goal.handed_up-overflow_add-result
handed_up-overflow_add-result t c =
    let a = c.requires.asks in
    omega (
      arith,
      own_most a.tables.parts c.args.i a.tables.sound,
      c.load_below.ensures c.requires.net c.requires.offs (record { asks = a; branch = open_branch a.tables.parts c.args.i c.if-tables-i.false }),
      load_most a.tables.sound c.requires.offs c.args.i a.within,
    )

pub handed_up-returns : goal.handed_up-returns
handed_up-returns t c = λ n offs a.
    omega (arith, c.load_below.ensures n offs (record { asks = a; branch = open_branch a.tables.parts c.args.i c.if-tables-i.false }), handed_open a.tables.parts c.args.i c.if-tables-i.false)

pub load_below-loop-after-init : goal.load_below-loop-after-init
load_below-loop-after-init t c = λ n offs a.
    let x = a.asks.tables.spans.span c.args.node in
    scan_start offs _ (omega arith) (omega (arith, span_within x a.asks.within)) (none_before x) a.branch

pub load_below-loop-after-preserved : goal.load_below-loop-after-preserved
load_below-loop-after-preserved t c = λ n offs a.
    let x = found_child n a.asks.column _ _ _ c.next_child.ensures _ c.in-Some.is in
    scan_next (c.loop-after.invariant n offs a) x c.handed_up-sum.result (c.handed_up-sum.ensures n offs (record { column = a.asks.column; tables = a.asks.tables; within = x.within }))

pub load_below-overflow_add-sum : goal.load_below-overflow_add-sum
load_below-overflow_add-sum t c =
    let p = c.requires in
    let a = p.asks in
    let x = found_child p.net a.asks.column _ _ _ c.next_child.ensures _ c.in-Some.is in
    omega (arith, scan_most (scan_next (c.loop-after.invariant p.net p.offs a) x c.handed_up-sum.result (c.handed_up-sum.ensures p.net p.offs (record { column = a.asks.column; tables = a.asks.tables; within = x.within }))) a.asks.tables.sound)

pub load_below-returns : goal.load_below-returns
load_below-returns t c = λ n offs a.
    let x = a.asks.tables.spans.span c.args.node in
    scan_over (c.loop-after.invariant n offs a) (λ k lo hi. none_after x k (omega (arith, c.loop-after-test.false)) hi)
