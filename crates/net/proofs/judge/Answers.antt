-- `judge` answers `judged`: each early return is the refusal of the first test that fails, and the rest is a yes or judged in order.
use mathlib.Core.Path.{sym, ap, ◌∙◌}
use Rattle.net.specs.Counted.{node_clear}
use Rattle.net.proofs.Judging.{judged_columns, judged_limits, judged_source, judged_rest, tree_passed}
use Rattle.net.proofs.judge.Goals as goal

pub returns-then-not-columns_fit : goal.returns-then-not-columns_fit
returns-then-not-columns_fit c = judged_columns _ (sym c.columns_fit.ensures ∙ c.if-not-columns_fit.true)

pub returns-then-not-limits_in_range : goal.returns-then-not-limits_in_range
returns-then-not-limits_in_range c = judged_limits _ (sym c.columns_fit.ensures ∙ c.if-not-columns_fit.false) (sym c.limits_in_range.ensures ∙ c.if-not-limits_in_range.true)

pub returns-then-not-source_clear : goal.returns-then-not-source_clear
returns-then-not-source_clear c = judged_source _ (sym c.columns_fit.ensures ∙ c.if-not-columns_fit.false) (sym c.limits_in_range.ensures ∙ c.if-not-limits_in_range.false) (sym (c.source_clear.ensures ∙ ap node_clear c.node.ensures) ∙ c.if-not-source_clear.true)

pub returns-then-passes : goal.returns-then-passes
returns-then-passes c = judged_rest _ (sym c.columns_fit.ensures ∙ c.if-not-columns_fit.false) (sym c.limits_in_range.ensures ∙ c.if-not-limits_in_range.false) (sym (c.source_clear.ensures ∙ ap node_clear c.node.ensures) ∙ c.if-not-source_clear.false) (tree_passed _ c.passes.ensures c.if-passes.true)

pub returns : goal.returns
returns c = judged_rest _ (sym c.columns_fit.ensures ∙ c.if-not-columns_fit.false) (sym c.limits_in_range.ensures ∙ c.if-not-limits_in_range.false) (sym (c.source_clear.ensures ∙ ap node_clear c.node.ensures) ∙ c.if-not-source_clear.false) c.judge_in_order.ensures
