-- The count is the number of the added entries, and where there is room for them they are written.
use Rattle.std.proofs.Common.{ℕ, Ok, Err, refl, arith}
use mathlib.Core.Path.{ap}
use Rattle.rules.specs.declared.Refusal.TheVariants.{NoRoom}
use Rattle.finish.specs.Given.{short, fits}
use Rattle.finish.proofs.place.Goals as goal

pub returns-then-room-m : goal.returns-then-room-m
returns-then-room-m c = short (omega (arith, c.count_all-m.ensures, c.room.ensures)) (ap (λ (m : ℕ). Err (NoRoom m)) c.count_all-m.ensures) (record { wires = refl; offsets = refl })

pub returns : goal.returns
returns c = fits (omega (arith, c.count_all-m.ensures, c.room.ensures)) (ap Ok c.count_all-m.ensures) c.write_all.ensures
