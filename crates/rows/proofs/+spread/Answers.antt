-- The rows from the chain's end on.
use native.Mathlib.Omega.{arith}
use mathlib.Core.Path.{sym}
use lib.Seq.{get_or-set_same}
use Rattle.surplus.specs.Wires.{rest}
use Rattle.surplus.proofs.Tails.{runs_low, rows_none, tail_runs, tail_falls, wire_small, tail_few, tail_small, rows_more}
use Rattle.rows.proofs.+spread.Goals as goal

pub returns-then-k-eq0 : goal.returns-then-k-eq0
returns-then-k-eq0 t c = λ f a. rows_none a _ c.if-k-eq0.true (get_or-set_same c.args.rows.now 0 0 0 (omega arith))

pub next-requires : goal.next-requires
next-requires t c = runs_low c.requires.running.runs

pub spread-m-requires : goal.spread-m-requires
spread-m-requires t c =
    let a = c.requires.running.runs in
    let ne = c.if-k-eq0.false in
    let q = c.next.ensures in
    (omega (arith, c.decreases, tail_falls a ne _ q), (c.requires.p_bound, record { f = rest c.requires.running.f; runs = tail_runs a ne _ q }))

pub loads-requires : goal.loads-requires
loads-requires t c = (c.requires.p_bound, runs_low c.requires.running.runs)

pub mix-requires : goal.mix-requires
mix-requires t c =
    let s = c.requires.running in
    let ne = c.if-k-eq0.false in
    let w = wire_small s.runs ne in
    let l = c.loads.ensures in
    let m = c.spread-m.ensures (rest s.f) (tail_runs s.runs ne _ c.next.ensures) in
    record {
      m_bound = tail_few s.runs ne _ _ m;
      loads_bound = (omega (arith, l.0, w), omega (arith, l.1, w), omega (arith, l.2, w));
      by_index = tail_small s.runs ne _ _ m;
    }

pub overflow_add-result : goal.overflow_add-result
overflow_add-result t c =
    let s = c.requires.running in
    let ne = c.if-k-eq0.false in
    record { fits = omega (arith, tail_few s.runs ne _ _ (c.spread-m.ensures (rest s.f) (tail_runs s.runs ne _ c.next.ensures))) }

pub returns : goal.returns
returns t c =
    let l = c.loads.ensures in
    let ne = c.if-k-eq0.false in
    λ f a. rows_more a ne _ _ (c.spread-m.ensures (rest f) (tail_runs a ne _ c.next.ensures)) _ (rw (sym l.2, sym l.0, sym l.1) c.mix.ensures)
