-- `field_in` finds no field where the tag is none of the table's.
use Rattle.std.proofs.Common.{rules}
use Rattle.field.proofs.Reading.{unknown}
use Rattle.field_reader.proofs.field_in.Goals as goal

pub returns-in_default : goal.returns-in_default
returns-in_default c = unknown c.args.at c.args.f.now (λ k. (c.type_inv.f k).fits) c.if-f-lt-HEADER.false (search rules)
