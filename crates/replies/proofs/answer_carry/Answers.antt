-- `answer_carry` gives what is said of both nets and of the placement that were read, or the file that is at fault.
use native.Mathlib.Omega.{arith}
use mathlib.Core.Path.{refl, sym}
use lib.ListN.{take}
use lib.Seq.{length-take-le}
use Rattle.std.proofs.lemmas.Result.{err_from_is_err_and}
use Rattle.rules.specs.Net.{net_of}
use Rattle.placement_file.proofs.Held.{placement_read, placement_refused}
use Rattle.carry_reply.specs.Carries.{carry_said}
use Rattle.replies.specs.declared.Fault.TheVariants as fault
use Rattle.replies.specs.Replies as say
use Rattle.replies.proofs.Reading.{passed_on, passed, net_held, net_unread}
use Rattle.replies.proofs.answer_carry.Goals as goal

pub returns-in_err-read : goal.returns-in_err-read
returns-in_err-read c =
    let p = err_from_is_err_and c.from_residual.result c.from_residual.ensures.1 in
    let m = passed_on fault.FirstNet c.read.result refl c.in_err-read.ensures.cases in
    rw (p.1, p.2, m.2) (say.OfNet.unread m.0 (net_unread (λ k. omega (arith, c.type_inv.first k)) c.blank-columns.ensures c.read.ensures m.0 m.1) refl)

pub returns-in_err-read2 : goal.returns-in_err-read2
returns-in_err-read2 c =
    let n = net_held (λ k. omega (arith, c.type_inv.first k)) c.blank-columns.ensures c.read.ensures c.in_ok-read.read (passed fault.FirstNet c.read.result refl c.in_ok-read.ensures.cases) in
    let p = err_from_is_err_and c.from_residual-in_err-read2.result c.from_residual-in_err-read2.ensures.1 in
    let m = passed_on fault.SecondNet c.read-2.result refl c.in_err-read2.ensures.cases in
    rw (p.1, p.2, m.2) (say.OfNet.read _ n.is (say.OfNet.unread m.0 (net_unread (λ k. omega (arith, c.type_inv.second k)) c.blank-columns2.ensures c.read-2.ensures m.0 m.1) refl))

pub returns-in_err-count : goal.returns-in_err-count
returns-in_err-count c =
    let n = net_held (λ k. omega (arith, c.type_inv.first k)) c.blank-columns.ensures c.read.ensures c.in_ok-read.read (passed fault.FirstNet c.read.result refl c.in_ok-read.ensures.cases) in
    let m = net_held (λ k. omega (arith, c.type_inv.second k)) c.blank-columns2.ensures c.read-2.ensures c.in_ok-read2.read2 (passed fault.SecondNet c.read-2.result refl c.in_ok-read2.ensures.cases) in
    let p = err_from_is_err_and c.from_residual-in_err-count.result c.from_residual-in_err-count.ensures.1 in
    let q = passed_on fault.Placement c.read_placement.result refl c.in_err-count.ensures.cases in
    rw (p.1, p.2, q.2) (say.OfNet.read _ n.is (say.OfNet.read _ m.is (say.OfPlacement.unread q.0 (placement_refused c.args.placement.now c.read_placement.ensures (omega arith) q.1) refl)))

pub lent-requires : goal.lent-requires
lent-requires c = (net_held (λ k. omega (arith, c.type_inv.first k)) c.blank-columns.ensures c.read.ensures c.in_ok-read.read (passed fault.FirstNet c.read.result refl c.in_ok-read.ensures.cases)).few

pub lent-requires-2 : goal.lent-requires-2
lent-requires-2 c = (net_held (λ k. omega (arith, c.type_inv.second k)) c.blank-columns2.ensures c.read-2.ensures c.in_ok-read2.read2 (passed fault.SecondNet c.read-2.result refl c.in_ok-read2.ensures.cases)).few

pub slice_bounds-wires-end : goal.slice_bounds-wires-end
slice_bounds-wires-end c = (placement_read c.args.placement.now c.read_placement.ensures (passed fault.Placement c.read_placement.result refl c.in_ok-count.ensures.cases)).in_wires

pub slice_bounds-carry-end : goal.slice_bounds-carry-end
slice_bounds-carry-end c = sym (length-take-le _ _ (placement_read c.args.placement.now c.read_placement.ensures (passed fault.Placement c.read_placement.result refl c.in_ok-count.ensures.cases)).in_wires)

pub slice_bounds-offsets-end : goal.slice_bounds-offsets-end
slice_bounds-offsets-end c = (placement_read c.args.placement.now c.read_placement.ensures (passed fault.Placement c.read_placement.result refl c.in_ok-count.ensures.cases)).in_offsets

pub slice_bounds-carry-end-2 : goal.slice_bounds-carry-end-2
slice_bounds-carry-end-2 c = sym (length-take-le _ _ (placement_read c.args.placement.now c.read_placement.ensures (passed fault.Placement c.read_placement.result refl c.in_ok-count.ensures.cases)).in_offsets)

pub carry-requires-clause-first_sound : goal.carry-requires-clause-first_sound
carry-requires-clause-first_sound c =
    let n = net_held (λ k. omega (arith, c.type_inv.first k)) c.blank-columns.ensures c.read.ensures c.in_ok-read.read (passed fault.FirstNet c.read.result refl c.in_ok-read.ensures.cases) in
    rw c.lent.ensures n.sound

pub carry-requires-clause-second_sound : goal.carry-requires-clause-second_sound
carry-requires-clause-second_sound c =
    let m = net_held (λ k. omega (arith, c.type_inv.second k)) c.blank-columns2.ensures c.read-2.ensures c.in_ok-read2.read2 (passed fault.SecondNet c.read-2.result refl c.in_ok-read2.ensures.cases) in
    rw c.lent-2.ensures m.sound

pub returns : goal.returns
returns c =
    let n = net_held (λ k. omega (arith, c.type_inv.first k)) c.blank-columns.ensures c.read.ensures c.in_ok-read.read (passed fault.FirstNet c.read.result refl c.in_ok-read.ensures.cases) in
    let m = net_held (λ k. omega (arith, c.type_inv.second k)) c.blank-columns2.ensures c.read-2.ensures c.in_ok-read2.read2 (passed fault.SecondNet c.read-2.result refl c.in_ok-read2.ensures.cases) in
    let e = placement_read c.args.placement.now c.read_placement.ensures (passed fault.Placement c.read_placement.result refl c.in_ok-count.ensures.cases) in
    record {
      said = carry_said (net_of c.lent.result) (net_of c.lent-2.result) (take c.in_ok-count.count c.read_placement.new.wires) (take c.in_ok-count.count c.read_placement.new.offsets);
      right = say.OfNet.read (net_of c.lent.result) (rw c.lent.ensures n.is) (say.OfNet.read (net_of c.lent-2.result) (rw c.lent-2.ensures m.is) (say.OfPlacement.read e.es e.is (rw (e.wires, e.offsets) refl)));
      replies = c.carry.ensures;
    }
