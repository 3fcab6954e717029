-- `check_files` answers what `routed` numbers: 9 is never given, since the columns have room for every net and for every placement.
use Rattle.std.proofs.lemmas.Result.{err_from_is_err_and}
use Rattle.std.proofs.Common.{arith, refl, ap, ◌∙◌}
use Rattle.field.proofs.Numbers.{AreBytes}
use Rattle.router.proofs.Reading.{no_net, net_read}
use Rattle.placement_file.proofs.Held.{placement_read, placement_refused}
use Rattle.checker.specs.Verdict.{verdict_number}
use Rattle.checker.proofs.Numbers.{verdict_number_lem}
use Rattle.router.specs.Routed.{routed}
use Rattle.router.proofs.check_files.Goals as goal

pub returns-in_err-read : goal.returns-in_err-read
unfolding routed
returns-in_err-read c =
    let bytes : AreBytes c.args.net.now = λ k. omega (arith, c.type_inv.net k) in
    let p = err_from_is_err_and c.from_residual.result c.from_residual.ensures.1 in
    rw (p.1, p.2, no_net bytes c.blank-columns.ensures c.in_err-read.ensures)

pub lent-requires : goal.lent-requires
lent-requires c =
    let bytes : AreBytes c.args.net.now = λ k. omega (arith, c.type_inv.net k) in
    (net_read bytes c.blank-columns.ensures c.in_ok-read.ensures).few

pub returns-in_err-count : goal.returns-in_err-count
unfolding routed
returns-in_err-count c =
    let bytes : AreBytes c.args.net.now = λ k. omega (arith, c.type_inv.net k) in
    let p = err_from_is_err_and c.from_residual-in_err-count.result c.from_residual-in_err-count.ensures.1 in
    let n = net_read bytes c.blank-columns.ensures c.in_ok-read.ensures in
    rw (p.1, p.2, n.is, placement_refused _ c.in_err-count.ensures (omega arith) refl)

pub returns : goal.returns
unfolding routed
returns c =
    let bytes : AreBytes c.args.net.now = λ k. omega (arith, c.type_inv.net k) in
    let n = net_read bytes c.blank-columns.ensures c.in_ok-read.ensures in
    let e = placement_read _ c.in_ok-count.ensures refl in
    rw (n.is, e.is, ← e.wires, ← e.offsets, ← c.lent.ensures, ← c.lent-2.ensures.0, ← c.lent-2.ensures.1) (ap verdict_number c.check.ensures ∙ verdict_number_lem _ _ _)
