use native.Mathlib.Omega.{arith}
use mathlib.Core.Path.{refl, ap, ◌∙◌}
use lib.ListN.{length}
use Rattle.rules.specs.Net.{net_of, node}
use Rattle.field.specs.declared.Value.TheVariants.{Limits, End}
use Rattle.field.specs.Format.{bytes_of}
use Rattle.field.proofs.Parts.{put_back, put_whole, put_length}
use Rattle.field.proofs.Writing.{laid_whole}
use Rattle.net_file.specs.NetFile.{field_of}
use Rattle.net_writer.proofs.Writing.{Left, room_next, put_next, room_end, put_end, put_all}
use Rattle.net_writer.proofs.put_fields.Goals as goal

pub unwrap-at-requires-in-loop-i : goal.unwrap-at-requires-in-loop-i
unwrap-at-requires-in-loop-i c =
    let r = room_next _ _ _ c.loop-i.invariant c.loop-i-test.true (c.value_of.ensures ∙ ap field_of c.node.ensures) in
    rw (put_whole c.loop-i.out (bytes_of c.value_of.result) c.loop-i.at r c.write_field-in-loop-i.ensures.0) refl

pub loop-i-preserved : goal.loop-i-preserved
loop-i-preserved c =
    let e = c.value_of.ensures ∙ ap field_of c.node.ensures in
    let r = room_next _ _ _ c.loop-i.invariant c.loop-i-test.true e in
    let bs = bytes_of c.value_of.result in
    put_next _ _ _ c.loop-i.invariant c.loop-i-test.true e
    (put_length c.loop-i.out bs c.loop-i.at r c.write_field-in-loop-i.ensures.0 c.unwrap-at-in-loop-i.ensures)
    (put_back c.loop-i.out bs c.loop-i.at r c.write_field-in-loop-i.ensures.1)

pub unwrap-requires : goal.unwrap-requires
unwrap-requires c =
    let r = room_end _ _ _ c.loop-i.invariant c.loop-i-test.false in
    rw (put_whole c.loop-i.out (bytes_of End) c.loop-i.at r c.write_field-2.ensures.0) refl

pub returns : goal.returns
returns c =
    let r = room_end _ _ _ c.loop-i.invariant c.loop-i-test.false in
    put_all c.args.out.now c.args.net.now.limits (Left (node (net_of c.args.net.now)) (length c.args.net.now.parent.now) 1)
    (c.write_field.ensures.1 ∙ laid_whole (bytes_of (Limits c.args.net.now.limits)) c.args.out.now (omega (arith, c.requires.1)))
    (put_end _ _ _ c.loop-i.invariant c.loop-i-test.false (put_back c.loop-i.out (bytes_of End) c.loop-i.at r c.write_field-2.ensures.1))
