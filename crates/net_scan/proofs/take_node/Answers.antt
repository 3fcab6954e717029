-- `take_node` answers `taken_at`, by what the field reader found. A field that was got lies inside the file, so the place after it fits.
use Rattle.std.specs.Prelude.{Err}
use mathlib.Core.Path.{sym, ap, ◌∙◌}
use native.Mathlib.Omega.{arith}
use Rattle.field.proofs.RoundTrip.{Stands, written_read}
use Rattle.net_file.specs.NetFile.{taken_of, taken_at}
use Rattle.net_scan.proofs.take_node.Goals as goal

pub taken_of-requires : goal.taken_of-requires
taken_of-requires c =
    let w : Stands c.args.s.now c.args.at c.in-Ok.f = written_read c.args.s.now c.args.at c.in-Ok.f (λ k. (c.type_inv.s k).fits) (sym c.read_field.ensures ∙ c.in-Ok.is) in
    omega (arith, w.place, w.inside, c.well_formed)

pub returns-in-Ok : goal.returns-in-Ok
unfolding taken_at
returns-in-Ok c = c.taken_of.ensures ∙ sym (ap taken_of (sym c.read_field.ensures ∙ c.in-Ok.is))

pub returns-in-Err-Cut : goal.returns-in-Err-Cut
unfolding taken_at
returns-in-Err-Cut c = rw (c.cut.ensures, c.node_due.ensures) (sym (ap taken_of (sym c.read_field.ensures ∙ c.in-Err-Cut.is ∙ ap Err c.in-Err-Cut.field-0-is)))

pub returns-in-Err-Refused : goal.returns-in-Err-Refused
unfolding taken_at
returns-in-Err-Refused c = sym (ap taken_of (sym c.read_field.ensures ∙ c.in-Err-Refused.is ∙ ap Err c.in-Err-Refused.field-0-is))
