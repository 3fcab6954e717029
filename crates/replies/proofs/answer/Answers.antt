-- `answer` gives what the verb says of the net and the placement that were read, or the file that is at fault.
use native.Mathlib.Omega.{arith}
use mathlib.Core.Path.{refl}
use Rattle.std.proofs.lemmas.Result.{err_from_is_err_and}
use Rattle.rules.specs.Net.{net_of}
use Rattle.placement_file.proofs.Held.{placement_read, placement_refused}
use Rattle.check_reply.specs.Checks.{check_said, loads_said}
use Rattle.replies.specs.declared.Fault.TheVariants as fault
use Rattle.replies.specs.declared.Verb.TheVariants as verb
use Rattle.replies.specs.Replies as say
use Rattle.replies.proofs.Reading.{passed_on, passed, net_held, net_unread, few_read, both_read, says}
use Rattle.replies.proofs.answer.Goals as goal

pub returns-in_err-read : goal.returns-in_err-read
returns-in_err-read c =
    let p = err_from_is_err_and c.from_residual.result c.from_residual.ensures.1 in
    let m = passed_on fault.Net c.read.result refl c.in_err-read.ensures.cases in
    rw (p.1, p.2, m.2) (say.OfNet.unread m.0 (net_unread (λ k. omega (arith, c.type_inv.net k)) c.blank-columns.ensures c.read.ensures m.0 m.1) refl)

pub returns-in_err-count : goal.returns-in_err-count
returns-in_err-count c =
    let n = net_held (λ k. omega (arith, c.type_inv.net k)) c.blank-columns.ensures c.read.ensures c.in_ok-read.read (passed fault.Net c.read.result refl c.in_ok-read.ensures.cases) in
    let p = err_from_is_err_and c.from_residual-in_err-count.result c.from_residual-in_err-count.ensures.1 in
    let m = passed_on fault.Placement c.read-2.result refl c.in_err-count.ensures.cases in
    rw (p.1, p.2, m.2) (say.OfNet.read _ n.is (say.OfPlacement.unread m.0 (placement_refused c.args.placement.now c.read-2.ensures (omega arith) m.1) refl))

pub lent-placement-requires : goal.lent-placement-requires
lent-placement-requires c = few_read (placement_read c.args.placement.now c.read-2.ensures (passed fault.Placement c.read-2.result refl c.in_ok-count.ensures.cases))

pub returns-in-Check : goal.returns-in-Check
returns-in-Check c =
    let r = both_read c.in_ok-read.read c.in_ok-count.count (λ k. omega (arith, c.type_inv.net k)) c.blank-columns.ensures c.read.ensures (passed fault.Net c.read.result refl c.in_ok-read.ensures.cases) c.lent-net.ensures c.read-2.ensures (passed fault.Placement c.read-2.result refl c.in_ok-count.ensures.cases) c.lent-placement.ensures in
    record {
      said = check_said (net_of c.lent-net.result) c.lent-placement.result.wires.now c.lent-placement.result.offsets.now;
      right = rw c.in-Check.is (says verb.Check r refl);
      replies = c.check.ensures _;
    }

pub returns-in-Loads : goal.returns-in-Loads
returns-in-Loads c =
    let r = both_read c.in_ok-read.read c.in_ok-count.count (λ k. omega (arith, c.type_inv.net k)) c.blank-columns.ensures c.read.ensures (passed fault.Net c.read.result refl c.in_ok-read.ensures.cases) c.lent-net.ensures c.read-2.ensures (passed fault.Placement c.read-2.result refl c.in_ok-count.ensures.cases) c.lent-placement.ensures in
    record {
      said = loads_said (net_of c.lent-net.result) c.lent-placement.result.wires.now c.lent-placement.result.offsets.now;
      right = rw c.in-Loads.is (says verb.Loads r refl);
      replies = c.list.ensures _;
    }

pub returns-in-Finish : goal.returns-in-Finish
returns-in-Finish c =
    let r = both_read c.in_ok-read.read c.in_ok-count.count (λ k. omega (arith, c.type_inv.net k)) c.blank-columns.ensures c.read.ensures (passed fault.Net c.read.result refl c.in_ok-read.ensures.cases) c.lent-net.ensures c.read-2.ensures (passed fault.Placement c.read-2.result refl c.in_ok-count.ensures.cases) c.lent-placement.ensures in
    record {
      said = c.finish.ensures.said;
      right = rw c.in-Finish.is (says verb.Finish r c.finish.ensures.right);
      replies = c.finish.ensures.replies;
    }
