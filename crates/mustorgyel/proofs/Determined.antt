-- Two texts that the program may print for the same bytes are equal, or both give the same least count: which least placement is printed is all that is left open.
use Prim.Native.Nat.{ℕ}
use mathlib.Core.List.{List}
use Rattle.solve_reply.proofs.Determined.{SameLeast}
use Rattle.solve_reply.proofs.Determined as said
use Rattle.mustorgyel.specs.Printed.{Prints}

pub agree : {s t t' : List ℕ} → Prints s t → Prints s t' → SameLeast t t'
agree p q = rw (p.is, q.is) (said.agree p.solves q.solves).text
