use Rattle.std.proofs.Common.{arith, length, ◌∙◌}
use Rattle.field.specs.declared.Value.TheVariants.{Count, Entry, End}
use Rattle.field.specs.Format.{bytes_of}
use Rattle.field.proofs.Parts.{put_back}
use Rattle.field.proofs.Writing.{laid_whole}
use Rattle.placement_writer.proofs.Writing.{written_size, written_behind, putting_start, putting_next, putting_end}
use Rattle.placement_writer.proofs.write_fields.Goals as goal

pub loop-i-init : goal.loop-i-init
loop-i-init c = putting_start c.requires.0 (written_size (bytes_of (Count (length c.args.placement.now.wires.now))) c.args.out.now c.write_field.ensures.0 c.unwrap-at.ensures (omega (arith, c.requires.2)))

pub loop-i-preserved : goal.loop-i-preserved
loop-i-preserved c =
    putting_next c.loop-i.invariant c.loop-i-test.true c.entry.ensures (
      omega (arith, written_behind (bytes_of (Entry c.entry.result)) c.loop-i.out c.loop-i.at c.write_field-in-loop-i.ensures.0 c.unwrap-at-in-loop-i.ensures (omega (arith, c.loop-i.invariant.place, c.loop-i.invariant.kept, c.write_field.auto.out, c.loop-i-test.true))),
      put_back c.loop-i.out (bytes_of (Entry c.entry.result)) c.loop-i.at (omega (arith, c.loop-i.invariant.place, c.loop-i.invariant.kept, c.write_field.auto.out, c.loop-i-test.true)) c.write_field-in-loop-i.ensures.1,
    )

pub returns : goal.returns
returns c =
    putting_end c.loop-i.invariant c.requires.0 c.loop-i-test.false c.args.out.now
    (c.write_field.ensures.1 ∙ laid_whole (bytes_of (Count (length c.args.placement.now.wires.now))) c.args.out.now (omega (arith, c.requires.2)))
    (put_back c.loop-i.out (bytes_of End) c.loop-i.at (omega (arith, c.loop-i.invariant.place, c.loop-i.invariant.kept, c.loop-i.invariant.high)) c.write_field-2.ensures.1)
