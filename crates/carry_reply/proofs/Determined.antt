-- Two replies that meet the contract of `carry` are equal, and so are the texts and the files that go with them.
use Prim.Native.Nat.{ℕ}
use mathlib.Core.Path.{◌≡◌}
use mathlib.Core.List.{List}
use lib.ListN.{take}
use Rattle.rules.specs.Net.{Net}
use Rattle.reply.specs.declared.Reply.{Reply}
use Rattle.reply.specs.Said.{Replies}
use Rattle.reply.proofs.Determined.{replies_determined}
use Rattle.carry_reply.specs.Carries.{carry_said}

pub carry_determined : (n m : Net) (ws os : List ℕ) {a b f g : List ℕ} {r q : Reply}
    → Replies (carry_said n m ws os) a f r → Replies (carry_said n m ws os) b g q
    → (r ≡ q) × (take r.text a ≡ take q.text b) × (take r.file f ≡ take q.file g)
carry_determined n m ws os x y = replies_determined x y
