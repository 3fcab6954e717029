use native.Mathlib.Omega.{arith}
use mathlib.Core.Path.{ap, ◌∙◌}
use lib.ListN.{length}
use Rattle.field.specs.declared.Value.{Value}
use Rattle.field.specs.Format.{bytes_of}
use Rattle.net_file.specs.NetFile.{field_of}
use Rattle.net_writer.proofs.Writing.{count_next, count_end}
use Rattle.net_writer.proofs.net_size.Goals as goal

pub loop-i-preserved : goal.loop-i-preserved
loop-i-preserved c = count_next _ _ c.loop-i.invariant c.loop-i-test.true (c.size-size.ensures ∙ ap (λ (v : Value). length (bytes_of v)) (c.value_of.ensures ∙ ap field_of c.node.ensures))

pub returns : goal.returns
returns c = let e = count_end _ _ c.loop-i.invariant c.loop-i-test.false in omega arith
