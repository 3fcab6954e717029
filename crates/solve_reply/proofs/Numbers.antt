-- What `solve` refuses with, and where it answers: the file's own numbers, 1 to 6, then 8 and 9, and no other; an answer exactly where the bytes are a net's and its
-- least count is at most 4,096.
use Prim.Native.Nat.{ℕ, ◌≤◌}
use native.Mathlib.Omega.{arith}
use mathlib.Core.Path.{◌≡◌, refl, ap}
use mathlib.Core.Logic.{◌↔◌, ◌⊎◌, inl, inr}
use mathlib.Core.List.{List, []}
use lib.ListN.{length}
use Rattle.rules.specs.declared.Refusal.{Refusal}
use Rattle.rules.specs.declared.Refusal.TheVariants.{NoLegalPlacement, NoRoom}
use Rattle.rules.specs.Refusal.{number_of}
use Rattle.rules.specs.Figures.{most_entries}
use Rattle.rules.specs.Net.{Net}
use Rattle.rules.specs.Legal.{Least}
use Rattle.frontier.proofs.LeastCount.{one_least}
use Rattle.net_file.specs.NetFile.{net_of, read}
use Rattle.net_file.proofs.FileNumbers.{file_number}
use Rattle.reply.specs.Said.{Said, refusal}
use Rattle.solve_reply.specs.Solves.{SolvesNet, none, full, placed, Solves, unread, net}

abbrev status : Said → ℕ
status s = s.status

module _ {bytes : List ℕ} {s : Said} where
  pub solve_only : Solves bytes s → s.status ≡ 49 → (r : Refusal) × (s ≡ refusal [] r) × (((1 ≤ number_of r) × (number_of r ≤ 6)) ⊎ ((number_of r ≡ 8) ⊎ (number_of r ≡ 9)))
  solve_only (unread r e f) q = (r, f, inl (file_number bytes r e))
  solve_only (net n e (none x f)) q = (NoLegalPlacement, f, inr (inl refl))
  solve_only (net n e (full k l m f)) q = (NoRoom k, f, inr (inr refl))
  solve_only (net n e (placed ws os a b c l f)) q = absurd (omega (arith, ap status f))

  pub solve_answers : Solves bytes s → (s.status ≡ 48) ↔ ((n : Net) × (k : ℕ) × (net_of bytes ≡ read n) × Least n k × (k ≤ most_entries))
  solve_answers p = (λ q. there p q, λ h. back p h.0 h.1 h.2 h.3 h.4)
    where
      there : Solves bytes s → s.status ≡ 48 → (n : Net) × (k : ℕ) × (net_of bytes ≡ read n) × Least n k × (k ≤ most_entries)
      there (unread r e f) q = absurd (omega (arith, ap status f))
      there (net n e (none x f)) q = absurd (omega (arith, ap status f))
      there (net n e (full k l m f)) q = absurd (omega (arith, ap status f))
      there (net n e (placed ws os a b c l f)) q = (n, length ws, e, l, b)

      on_net_lem : {n : Net} → SolvesNet n s → (k : ℕ) → Least n k → k ≤ most_entries → s.status ≡ 48
      on_net_lem (none x f) k l h = absurd (x l.placement l.legal)
      on_net_lem (full j i m f) k l h = absurd (omega (arith, one_least i l))
      on_net_lem (placed ws os a b c i f) k l h = ap status f

      same : (m n : Net) → net_of bytes ≡ read m → net_of bytes ≡ read n → m ≡ n
      same m n e g = cc

      back : Solves bytes s → (n : Net) (k : ℕ) → net_of bytes ≡ read n → Least n k → k ≤ most_entries → s.status ≡ 48
      back (unread r e f) n k g l h = absurd (let z : ◌≡◌ {A = ℕ} 0 1 = cc in omega arith)
      back (net m e p) n k g l h = on_net_lem (rw (same m n e g) at p) k l h
