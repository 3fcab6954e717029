-- `answer` gives the file's refusal, the solver's, or the placement that it gave as a text and as a file.
use native.Mathlib.Omega.{arith}
use mathlib.Core.Path.{refl}
use Rattle.std.proofs.lemmas.Result.{err_from_is_err_and}
use Rattle.rules.specs.Net.{net_of}
use Rattle.net_file.proofs.Held.{roomy, found, unread_says}
use Rattle.solve_reply.specs.Solves.{unread, net}
use Rattle.solve_reply.proofs.Solving.{was_read, placed_in, outcome, replies_placed, solves_refusal}
use Rattle.solve_reply.proofs.answer.Goals as goal

pub returns-in_err-read : goal.returns-in_err-read
returns-in_err-read c =
    let p = err_from_is_err_and c.from_residual.result c.from_residual.ensures.1 in
    rw (p.1, p.2) (unread _ (unread_says _ (found (λ k. omega (arith, c.type_inv.s k)) roomy (rw c.blank-columns.ensures at c.in_err-read.ensures)) refl) refl)

pub lent-net-requires : goal.lent-net-requires
lent-net-requires c =
    let n = was_read c.in_ok-read.read (λ k. omega (arith, c.type_inv.s k)) c.blank-columns.ensures c.in_ok-read.ensures in
    n.few

pub returns-in_err-count : goal.returns-in_err-count
returns-in_err-count c =
    let n = was_read c.in_ok-read.read (λ k. omega (arith, c.type_inv.s k)) c.blank-columns.ensures c.in_ok-read.ensures in
    let p = err_from_is_err_and c.from_residual-in_err-count.result c.from_residual-in_err-count.ensures.1 in
    let solved = rw c.lent-net.ensures at c.in_err-count.ensures in
    rw (p.1, p.2) (net _ n.is (solves_refusal _ (omega arith) (omega arith) (outcome n.sound solved) refl))

pub tell-text-requires-clause-given : goal.tell-text-requires-clause-given
tell-text-requires-clause-given c =
    let n = was_read c.in_ok-read.read (λ k. omega (arith, c.type_inv.s k)) c.blank-columns.ensures c.in_ok-read.ensures in
    rw (c.lent-placement.ensures.0, c.lent-placement.ensures.1) (placed_in _ _ n.sound c.lent-net.ensures c.in_ok-count.ensures).given

pub write_file-size-requires-clause-fit : goal.write_file-size-requires-clause-fit
write_file-size-requires-clause-fit c =
    let n = was_read c.in_ok-read.read (λ k. omega (arith, c.type_inv.s k)) c.blank-columns.ensures c.in_ok-read.ensures in
    rw (c.lent-placement.ensures.0, c.lent-placement.ensures.1) (placed_in _ _ n.sound c.lent-net.ensures c.in_ok-count.ensures).fit

pub write_file-size-requires-clause-few : goal.write_file-size-requires-clause-few
write_file-size-requires-clause-few c =
    let n = was_read c.in_ok-read.read (λ k. omega (arith, c.type_inv.s k)) c.blank-columns.ensures c.in_ok-read.ensures in
    rw (c.lent-placement.ensures.0, c.lent-placement.ensures.1) (placed_in _ _ n.sound c.lent-net.ensures c.in_ok-count.ensures).few

pub returns : goal.returns
returns c =
    let n = was_read c.in_ok-read.read (λ k. omega (arith, c.type_inv.s k)) c.blank-columns.ensures c.in_ok-read.ensures in
    let p = placed_in _ _ n.sound c.lent-net.ensures c.in_ok-count.ensures in
    let text = rw (c.lent-placement.ensures.0, c.lent-placement.ensures.1) at c.tell-text.ensures in
    let file = rw (c.lent-placement.ensures.0, c.lent-placement.ensures.1) at c.write_file-size.ensures in
    let r = replies_placed p text file in
    record { said = r.said; right = net (net_of c.lent-net.result) (rw c.lent-net.ensures n.is) r.right; replies = r.replies }
