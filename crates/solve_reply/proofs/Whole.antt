-- What is said of the first bytes of an input is said of all of it.
use Prim.Native.Nat.{ℕ, ◌<◌}
use mathlib.Core.Path.{◌≡◌, sym, ◌∙◌}
use mathlib.Core.List.{List}
use lib.ListN.{take}
use Rattle.field.proofs.Numbers.{AreBytes}
use Rattle.net_file.proofs.FirstBytes.{most_bytes, first_bytes}
use Rattle.reply.specs.Said.{Said}
use Rattle.solve_reply.specs.Solves.{Solves, unread, net}

pub solves_whole : {s read : List ℕ} {said : Said} (n : ℕ) → AreBytes s → most_bytes < n → read ≡ take n s → Solves read said → Solves s said
solves_whole {s} n by h e (unread r o t) = unread r (sym (first_bytes s n by h) ∙ rw e at o) t
solves_whole {s} n by h e (net m o p) = net m (sym (first_bytes s n by h) ∙ rw e at o) p
