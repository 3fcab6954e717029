-- Every refusal's number is at least 1, so 0 is success and nothing else.
use Rattle.std.specs.Prelude.{Ok, Err}
use Prim.Native.Nat.{◌≤◌}
use mathlib.Core.Path.{◌≡◌, refl}
use native.Mathlib.Omega.{arith}
use Rattle.rules.specs.declared.Refusal.{Refusal}
use Rattle.rules.specs.declared.Refusal.TheVariants.{FileEnds, NotDue, OutOfRange, WrongParent, Childless, BytesAfterEnd, WrongColumns, NoLegalPlacement, NoRoom, Misplaced, Overloaded, WrongParity, NotEased}
use Rattle.rules.specs.Judged.{Judged}
use Rattle.rules.specs.Refusal.{number_of, judged_number}

pub numbered : (r : Refusal) → 1 ≤ number_of r
numbered (FileEnds p) = omega arith
numbered (NotDue p) = omega arith
numbered (OutOfRange p) = omega arith
numbered (WrongParent p) = omega arith
numbered (Childless p) = omega arith
numbered (BytesAfterEnd p) = omega arith
numbered WrongColumns = omega arith
numbered NoLegalPlacement = omega arith
numbered (NoRoom needed) = omega arith
numbered (Misplaced p) = omega arith
numbered (Overloaded p) = omega arith
numbered (WrongParity p) = omega arith
numbered (NotEased p) = omega arith

pub none_given : (j : Judged) → judged_number j ≡ 0 → j ≡ (Ok tt)
none_given (Ok _) e = refl
none_given (Err r) e = absurd (omega (arith, numbered r))
