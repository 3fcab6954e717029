-- The numbers of the reader and of the writer: for an answer that meets the contract each is given, with its places, bytes or place, exactly where its
-- row says, and no other is.
use Rattle.std.specs.Prelude.{Ok, Err, Result}
use Prim.Native.Nat.{ℕ, ◌<◌, ◌≤◌}
use native.Mathlib.Omega.{arith}
use mathlib.Core.Path.{◌≡◌, refl, sym, ap, subst, ◌∙◌}
use mathlib.Core.Logic.{◌↔◌}
use mathlib.Core.Bool.{Bool, true, false}
use mathlib.Core.List.{List}
use lib.ListN.{length}
use lib.Dec.{ltb}
use borrow.Author.Tests.{lt-ltb, le-ltb, ltb-true, ltb-false}
use Rattle.rules.specs.declared.Refusal.{Refusal}
use Rattle.rules.specs.Judged.{Judged}
use Rattle.rules.specs.Refusal.{number_of, place_of, judged_number, judged_place}
use Rattle.rules.specs.Net.{Net, places}
use Rattle.rules.specs.Judge.{judged}
use Rattle.rules.proofs.Refusals.{numbered}
use Rattle.rules.proofs.JudgedNumbers.{Row, row_is}
use Rattle.net_file.specs.declared.NetRead.{NetRead}
use Rattle.net_file.specs.NetFile.{Outcome, read, refused, net_of, room, answered, ReadNet, net_bytes, written, WroteNet, read_number, read_places, wrote_number, wrote_bytes}
use Rattle.net_file.proofs.FileNumbers.{file_number}

-- ---- reading: the number k, with the places filled or needed, or the file's refusal with its place

pub data ReadRow (s : List ℕ) (most k p : ℕ) : Type 0 where
  filled : (n : Net) → net_of s ≡ read n → places n ≤ most → k ≡ 0 → p ≡ places n → ReadRow s most k p
  no_places : (n : Net) → net_of s ≡ read n → most < places n → k ≡ 9 → p ≡ places n → ReadRow s most k p
  no_net : (x : Refusal) → net_of s ≡ refused x → k ≡ number_of x → 1 ≤ k → k ≤ 6 → p ≡ place_of x → ReadRow s most k p

module _ (s : List ℕ) (most : ℕ) where
  abbrev ReadSays : ℕ → ℕ → Type 0
  ReadSays k p = (read_number (answered most (net_of s)) ≡ k) × (read_places (answered most (net_of s)) ≡ p)

  read_given : {k p : ℕ} → ReadRow s most k p → ReadSays k p
  read_given (filled n e h q c) = rw (e, le-ltb most (places n) h) (sym q, sym c)
  read_given (no_places n e h q c) = rw (e, lt-ltb most (places n) h) (sym q, sym c)
  read_given (no_net x e q lo hi c) = rw e (sym q, sym c)

  read_some : (o : Outcome) → net_of s ≡ o → (k : ℕ) × (p : ℕ) × ReadRow s most k p
  read_some (refused x) e = let (lo, hi) = file_number s x e in (_, _, no_net x e refl lo hi refl)
  read_some (read n) e = by (ltb most (places n)) refl
    where
      by : (b : Bool) → ltb most (places n) ≡ b → (k : ℕ) × (p : ℕ) × ReadRow s most k p
      by true q = (_, _, no_places n e (ltb-true most (places n) q) refl refl)
      by false q = (_, _, filled n e (ltb-false most (places n) q) refl refl)

  read_exactly : (k p : ℕ) → ReadRow s most k p ↔ ReadSays k p
  read_exactly k p = (
    read_given,
    λ a. let (x, y, r) = read_some (net_of s) refl in let g = read_given r in subst (λ (z : ℕ). ReadRow s most z p) (sym g.0 ∙ a.0) (subst (ReadRow s most x) (sym g.1 ∙ a.1) r),
  )

pub read_net_numbers : {s : List ℕ} {lent left : Net} {r : Result NetRead Refusal} → ReadNet s lent left r → (k p : ℕ) → ReadRow s (room lent) k p ↔ ((read_number r ≡ k) × (read_places r ≡ p))
read_net_numbers {s} {lent} a k p = subst (λ (x : Result NetRead Refusal). ReadRow s (room lent) k p ↔ ((read_number x ≡ k) × (read_places x ≡ p))) (sym a.answer) (read_exactly s (room lent) k p)

-- ---- writing: the number k, with the bytes written or needed, or the refusal of the columns, which is the judge's

pub data WriteRow (n : Net) (out : List ℕ) (k p : ℕ) : Type 0 where
  written_whole : judged n ≡ Ok tt → length (net_bytes n) ≤ length out → k ≡ 0 → p ≡ length (net_bytes n) → WriteRow n out k p
  no_bytes : judged n ≡ Ok tt → length out < length (net_bytes n) → k ≡ 9 → p ≡ length (net_bytes n) → WriteRow n out k p
  unsound : Row n k p → 1 ≤ k → WriteRow n out k p

module _ (n : Net) (out : List ℕ) where
  abbrev WriteSays : ℕ → ℕ → Type 0
  WriteSays k p = (wrote_number (written (judged n) (net_bytes n) out) ≡ k) × (wrote_bytes (written (judged n) (net_bytes n) out) ≡ p)

  -- a number of 1 or more is a refusal's
  write_judged : (j : Judged) → judged n ≡ j → {k p : ℕ} → 1 ≤ k → (judged_number (judged n) ≡ k) × (judged_place (judged n) ≡ p) → WriteSays k p
  write_judged (Ok _) e h (a, b) = absurd (omega (arith, h, a, ap judged_number e))
  write_judged (Err x) e h ab = rw e (rw e at ab)

  write_given : {k p : ℕ} → WriteRow n out k p → WriteSays k p
  write_given (written_whole e h q c) = rw (e, le-ltb (length out) (length (net_bytes n)) h) (sym q, sym c)
  write_given (no_bytes e h q c) = rw (e, lt-ltb (length out) (length (net_bytes n)) h) (sym q, sym c)
  write_given {k} {p} (unsound w h) = write_judged (judged n) refl h ((row_is n k p).0 w)

  write_some : (j : Judged) → judged n ≡ j → (k : ℕ) × (p : ℕ) × WriteRow n out k p
  write_some (Err x) e = (number_of x, place_of x, unsound ((row_is n (number_of x) (place_of x)).1 (ap judged_number e, ap judged_place e)) (numbered x))
  write_some (Ok _) e = by (ltb (length out) (length (net_bytes n))) refl
    where
      by : (b : Bool) → ltb (length out) (length (net_bytes n)) ≡ b → (k : ℕ) × (p : ℕ) × WriteRow n out k p
      by true q = (_, _, no_bytes e (ltb-true (length out) (length (net_bytes n)) q) refl refl)
      by false q = (_, _, written_whole e (ltb-false (length out) (length (net_bytes n)) q) refl refl)

  write_exactly : (k p : ℕ) → WriteRow n out k p ↔ WriteSays k p
  write_exactly k p = (
    write_given,
    λ a. let (x, y, r) = write_some (judged n) refl in let g = write_given r in subst (λ (z : ℕ). WriteRow n out z p) (sym g.0 ∙ a.0) (subst (WriteRow n out x) (sym g.1 ∙ a.1) r),
  )

pub write_net_numbers : {n : Net} {out left : List ℕ} {r : Result ℕ Refusal} → WroteNet n out left r → (k p : ℕ) → WriteRow n out k p ↔ ((wrote_number r ≡ k) × (wrote_bytes r ≡ p))
write_net_numbers {n} {out} a k p = subst (λ (x : Result ℕ Refusal). WriteRow n out k p ↔ ((wrote_number x ≡ k) × (wrote_bytes x ≡ p))) (sym a.answer) (write_exactly n out k p)
