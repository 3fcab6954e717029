-- `put4` lays four bytes: the library's bytes of a number are the format's, and a part that is written is stores from its front on.
use Rattle.std.proofs.Common.{◌≡◌, ◌/◌, ◌%◌, ◌+◌, ◌-◌, take, sym, ◌∙◌, arith, append_assoc}
use Rattle.std.proofs.lemmas.List.Edits.{sets-eq}
use lib.Seq.{drop-drop}
use Rattle.field.specs.Format.{bytes_in}
use Rattle.field_writer.proofs.put4.Goals as goal

pub returns : goal.returns
returns c =
    let x = c.args.x in
    let high : x / 16777216 % 256 ≡ x / 256 / 256 / 256 = omega (arith, c.ranges.x.fits) in
    let next : x / 65536 % 256 ≡ x / 256 / 256 % 256 = omega arith in
    let four : c.args.k + 4 - c.args.k ≡ 4 = omega arith in
    rw (four, c.copy_from_slice.ensures.after, c.to_be_bytes.ensures, high, next, drop-drop 4 c.args.k c.args.out.now)
    (sym (sets-eq (bytes_in 4 x) c.args.out.now c.args.k (omega arith) ∙ append_assoc (take c.args.k c.args.out.now) _ _))
