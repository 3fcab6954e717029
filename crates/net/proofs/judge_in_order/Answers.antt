-- `judge_in_order` answers `tree_judged`: a refusal of the nodes, or what the last call finds of the childless.
use mathlib.Core.Path.{refl, sym, ◌∙◌}
use Rattle.std.proofs.lemmas.Result.{err_from_is_err_and}
use Rattle.screen.proofs.Tallying.{tallied_start, childed_is}
use Rattle.net.proofs.Judging.{tree_nodes, tree_last}
use Rattle.net.proofs.judge_in_order.Goals as goal

pub judge_nodes-requires : goal.judge_nodes-requires
judge_nodes-requires c = (c.requires, tallied_start _)

pub returns-in_err-judge_nodes : goal.returns-in_err-judge_nodes
returns-in_err-judge_nodes c =
    let p = err_from_is_err_and c.from_residual.result c.from_residual.ensures.1 in
    rw (p.1, p.2) (tree_nodes _ _ _ refl c.in_err-judge_nodes.ensures.is)

pub returns : goal.returns
returns c = tree_last _ _ (sym c.in_ok-judge_nodes.was ∙ c.judge_nodes.ensures.is) (c.all_childed.ensures ∙ childed_is (c.judge_nodes.ensures.counted c.in_ok-judge_nodes.was))
