use Rattle.std.proofs.Common.{refl, arith}
use Rattle.std.proofs.lemmas.Result.{err_from_is_err_and}
use Rattle.buffers.specs.Going.{leads_in, cannot}
use Rattle.buffers.proofs.Ascending.{tried_ok, tried_err, node_at}
use Rattle.buffers.proofs.Tables.ascend.Goals as goal

pub ease_node-requires : goal.ease_node-requires
ease_node-requires c = (leads_in c.args.leads.now, node_at c.requires.sound.0 c.loop-i.invariant.1 (omega arith) (omega arith))

pub returns-in_err-ease_node : goal.returns-in_err-ease_node
returns-in_err-ease_node c =
    let p = err_from_is_err_and c.from_residual.result c.from_residual.ensures.1 in
    let (lost, is) = tried_err (c.in_err-ease_node.ensures (leads_in c.args.leads.now) (node_at c.requires.sound.0 c.loop-i.invariant.1 (omega arith) (omega arith))) refl in
    rw (p.1, p.2, is) (cannot lost)

pub push_wire-requires : goal.push_wire-requires
push_wire-requires c = record {
  sound = c.requires.sound.0;
  led = c.requires.sound.1;
  above = omega arith;
  within = omega arith;
  going = tried_ok (c.in_ok-ease_node.ensures (leads_in c.args.leads.now) (node_at c.requires.sound.0 c.loop-i.invariant.1 (omega arith) (omega arith))) refl;
}

pub ease_node-requires-2 : goal.ease_node-requires-2
ease_node-requires-2 c = (leads_in c.args.leads.now, node_at c.requires.sound.0 c.loop-i.invariant.1 (omega arith) (omega arith))

pub returns : goal.returns
returns c = c.ease_node-2.ensures (leads_in c.args.leads.now) (node_at c.requires.sound.0 c.loop-i.invariant.1 (omega arith) (omega arith))
