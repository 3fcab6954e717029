-- `weigh` gives both counts, or the refusal of a file or of the checker.
use native.Mathlib.Omega.{arith}
use mathlib.Core.Path.{refl}
use Rattle.std.proofs.lemmas.Result.{err_from_is_err_and}
use Rattle.placement_file.proofs.Held.{placement_read, placement_refused}
use Rattle.audit_reply.specs.Audits.{no_net, no_placement}
use Rattle.audit_reply.specs.declared.Fault.TheVariants as fault
use Rattle.audit_reply.proofs.Auditing.{passed_on, passed, net_held, net_unread, few_read, both_read, refused_says, reached, legal_says}
use Rattle.audit_reply.proofs.weigh.Goals as goal

pub returns-in_err-read : goal.returns-in_err-read
returns-in_err-read c =
    let p = err_from_is_err_and c.from_residual.result c.from_residual.ensures.1 in
    let m = passed_on fault.Net c.read.result refl c.in_err-read.ensures.cases in
    rw (p.1, p.2, m.2) (no_net m.0 (net_unread (λ k. omega (arith, c.type_inv.net k)) c.blank-columns.ensures c.read.ensures m.0 m.1) refl refl)

pub returns-in_err-count : goal.returns-in_err-count
returns-in_err-count c =
    let n = net_held (λ k. omega (arith, c.type_inv.net k)) c.blank-columns.ensures c.read.ensures c.in_ok-read.read (passed fault.Net c.read.result refl c.in_ok-read.ensures.cases) in
    let p = err_from_is_err_and c.from_residual-in_err-count.result c.from_residual-in_err-count.ensures.1 in
    let m = passed_on fault.Placement c.read-2.result refl c.in_err-count.ensures.cases in
    rw (p.1, p.2, m.2) (no_placement _ m.0 n.is (placement_refused c.args.placement.now c.read-2.ensures (omega arith) m.1) refl refl)

pub lent-requires : goal.lent-requires
lent-requires c = few_read (placement_read c.args.placement.now c.read-2.ensures (passed fault.Placement c.read-2.result refl c.in_ok-count.ensures.cases))

pub returns-in_err-legal : goal.returns-in_err-legal
returns-in_err-legal c =
    let r = both_read c.in_ok-read.read c.in_ok-count.count (λ k. omega (arith, c.type_inv.net k)) c.blank-columns.ensures c.read.ensures (passed fault.Net c.read.result refl c.in_ok-read.ensures.cases) c.lent-net.ensures c.read-2.ensures (passed fault.Placement c.read-2.result refl c.in_ok-count.ensures.cases) c.lent.ensures in
    let p = err_from_is_err_and c.from_residual-in_err-legal.result c.from_residual-in_err-legal.ensures.1 in
    let m = passed_on fault.Checked c.check.result refl c.in_err-legal.ensures.cases in
    rw (p.1, p.2, m.2) (refused_says r c.check.ensures m.0 m.1)

pub least_count-requires : goal.least_count-requires
least_count-requires c =
    let r = both_read c.in_ok-read.read c.in_ok-count.count (λ k. omega (arith, c.type_inv.net k)) c.blank-columns.ensures c.read.ensures (passed fault.Net c.read.result refl c.in_ok-read.ensures.cases) c.lent-net.ensures c.read-2.ensures (passed fault.Placement c.read-2.result refl c.in_ok-count.ensures.cases) c.lent.ensures in
    reached r c.check.ensures _ _ (passed fault.Checked c.check.result refl c.in_ok-legal.ensures.cases)

pub returns : goal.returns
returns c =
    let r = both_read c.in_ok-read.read c.in_ok-count.count (λ k. omega (arith, c.type_inv.net k)) c.blank-columns.ensures c.read.ensures (passed fault.Net c.read.result refl c.in_ok-read.ensures.cases) c.lent-net.ensures c.read-2.ensures (passed fault.Placement c.read-2.result refl c.in_ok-count.ensures.cases) c.lent.ensures in
    legal_says r c.check.ensures _ _ (passed fault.Checked c.check.result refl c.in_ok-legal.ensures.cases) _ c.least_count.ensures
