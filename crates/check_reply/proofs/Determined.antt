-- Two replies that meet the contract of `check`, or of `list`, are equal, and so are the texts that go with them.
use mathlib.Core.Path.{◌≡◌}
use mathlib.Core.List.{List, []}
use Prim.Native.Nat.{ℕ}
use lib.ListN.{take}
use Rattle.rules.specs.Net.{Net}
use Rattle.reply.specs.declared.Reply.{Reply}
use Rattle.reply.specs.Said.{Replies}
use Rattle.reply.proofs.Determined.{replies_determined}
use Rattle.check_reply.specs.Checks.{check_said, loads_said}

module _ (n : Net) (ws os : List ℕ) {a b : List ℕ} {r q : Reply} where
  pub check_determined : ((file : List ℕ) → Replies (check_said n ws os) a file r) → ((file : List ℕ) → Replies (check_said n ws os) b file q)
      → (r ≡ q) × (take r.text a ≡ take q.text b)
  check_determined x y = let (same, text, _) = replies_determined (x []) (y []) in (same, text)

  pub list_determined : ((file : List ℕ) → Replies (loads_said n ws os) a file r) → ((file : List ℕ) → Replies (loads_said n ws os) b file q)
      → (r ≡ q) × (take r.text a ≡ take q.text b)
  list_determined x y = let (same, text, _) = replies_determined (x []) (y []) in (same, text)
