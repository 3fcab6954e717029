-- What a buffer shows after one line was laid into it.
use Prim.Native.Nat.{ℕ, ◌≤◌}
use native.Mathlib.Omega.{arith}
use mathlib.Core.List.{List}
use lib.ListN.{length, take}
use Rattle.answer.specs.declared.Line.{Line}
use Rattle.answer.specs.Text.{IsLine, Laid}
use Rattle.answer.proofs.Laying.{laid_as, of_line}
use Rattle.reply.specs.Said.{Shows}
use Rattle.reply.proofs.Showing.{shown}
use Rattle.audit_line.specs.declared.Missing.{Missing}
use Rattle.audit_line.specs.declared.Missing.TheVariants.{NoNet, NetUnreadable, NoPlacement, PlacementUnreadable}
use Rattle.audit_line.specs.Lines.{missing_text, most_line}

pub shows_line : {bs before after : List ℕ} {line : Line} {r : ℕ} → IsLine bs line → Laid before 0 (take line.bytes line.text) after r → 64 ≤ length before → Shows bs after r
shows_line is a room = let p = laid_as (of_line _ is) a in shown p (omega (arith, p.ends, is.short))

pub missing_fits : (m : Missing) → length (missing_text m) ≤ most_line
missing_fits NoNet = omega arith
missing_fits NetUnreadable = omega arith
missing_fits NoPlacement = omega arith
missing_fits PlacementUnreadable = omega arith
