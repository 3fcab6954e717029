use Rattle.std.specs.Prelude.{Ok}
use native.Mathlib.Omega.{arith}
use mathlib.Core.Path.{refl, sym, ap, ◌∙◌}
use Rattle.std.proofs.lemmas.Result.{err_from_is_err_and}
use borrow.Author.Tests.{le-leb, lt-leb}
use Rattle.rules.specs.Net.{Net}
use Rattle.net_scan.proofs.Judging.{start, stop_wrong, stop_end, ends, stop_node, next_node}
use Rattle.net_scan.proofs.Filling.{fill_start, fill_next, fill_last}
use Rattle.net_file.proofs.ReadWrite.{end_inside}
use Rattle.net_scan.proofs.Leaving.{refused_file, sound_file}
use Rattle.net_scan.proofs.judge_fields.Goals as goal

pub loop-taken-init : goal.loop-taken-init
loop-taken-init c = (start _ _ (ap (λ (n : Net). n.kinds) c.requires), fill_start _ _ _)

pub returns-in_err-taken : goal.returns-in_err-taken
returns-in_err-taken c =
    let p = err_from_is_err_and c.from_residual.result c.from_residual.ensures.1 in
    rw (p.1, p.2) (refused_file (stop_wrong _ _ c.loop-taken.invariant.0 _ (sym c.in_err-taken.ensures)))

pub returns-in_err-admit : goal.returns-in_err-admit
returns-in_err-admit c =
    let p = err_from_is_err_and c.from_residual-in_err-admit.result c.from_residual-in_err-admit.ensures.1 in
    rw (p.1, p.2) (refused_file (stop_node _ _ c.loop-taken.invariant.0 (sym c.in_ok-taken.ensures ∙ ap Ok c.in-Some.is) c.in_err-admit.ensures _ refl))

pub loop-taken-preserved : goal.loop-taken-preserved
loop-taken-preserved c =
    let e = sym c.in_ok-taken.ensures ∙ ap Ok c.in-Some.is in (
      next_node _ _ c.loop-taken.invariant.0 e c.in_ok-admit.ensures refl (ap (λ (n : Net). n.kinds) c.put.ensures) (rw c.from.ensures at c.tally.ensures),
      fill_next _ _ _ c.loop-taken.invariant.1 (omega (arith, c.loop-taken.invariant.0.fuel)) e c.put.ensures,
    )

pub overflow_add-next : goal.overflow_add-next
overflow_add-next c = omega (arith, end_inside c.args.s.now (λ k. (c.type_inv.s k).fits) c.loop-taken.at (sym c.in_ok-taken.ensures ∙ ap Ok c.in_default.is), c.well_formed)

pub returns-then-next-s : goal.returns-then-next-s
returns-then-next-s c =
    refused_file (stop_end _ _ c.loop-taken.invariant.0 (sym c.in_ok-taken.ensures ∙ ap Ok c.in_default.is) (simp (lt-leb _ _ c.if-next-s.true)) _ refl)

pub returns-in_err-all_childed : goal.returns-in_err-all_childed
returns-in_err-all_childed c =
    let p = err_from_is_err_and c.from_residual-in_err-all_childed.result c.from_residual-in_err-all_childed.ensures.1 in
    rw (p.1, p.2) (refused_file (stop_end _ _ c.loop-taken.invariant.0 (sym c.in_ok-taken.ensures ∙ ap Ok c.in_default.is) (rw (le-leb _ _ c.if-next-s.false) c.in_err-all_childed.ensures) _ refl))

pub returns : goal.returns
returns c =
    let e = sym c.in_ok-taken.ensures ∙ ap Ok c.in_default.is in
    sound_file (ends _ _ c.loop-taken.invariant.0 e (rw (le-leb _ _ c.if-next-s.false) c.in_ok-all_childed.ensures) refl) c.requires (fill_last _ _ _ c.loop-taken.invariant.1 (omega (arith, c.loop-taken.invariant.0.fuel)) e)
