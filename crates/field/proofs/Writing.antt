-- What a writer answers and leaves, with too little room and with enough.
use Rattle.std.specs.Prelude.{Ok, Err, Result}
use Prim.Native.Nat.{ℕ, ◌<◌, ◌≤◌}
use native.Mathlib.Omega.{arith}
use mathlib.Core.Path.{◌≡◌, refl, sym, subst, ◌∙◌}
use mathlib.Core.Logic.{◌↔◌}
use mathlib.Core.List.{List}
use lib.ListN.{length}
use lib.Seq.{sets}
use lib.Dec.{ltb}
use mathlib.Core.Bool.{Bool, true, false}
use borrow.Author.Tests.{lt-ltb, le-ltb, ltb-true, ltb-false}
use Rattle.rules.specs.declared.Refusal.{Refusal}
use Rattle.rules.specs.declared.Refusal.TheVariants.{NoRoom}
use Rattle.field.specs.Format.{wrote, laid, wrote_number, wrote_count}

module _ (bs out : List ℕ) {n : ℕ} (h : n ≡ length bs) where
  pub too_little : length out < n → (Err (NoRoom n) ≡ wrote bs out) × (out ≡ laid bs out)
  too_little l = simp (h, lt-ltb (length out) (length bs) (omega arith)) (refl, refl)

  pub enough : {out' : List ℕ} → n ≤ length out → out' ≡ sets out 0 bs → (Ok n ≡ wrote bs out) × (out' ≡ laid bs out)
  enough l e = simp (h, e, le-ltb (length out) (length bs) (omega arith)) (refl, refl)

-- one row a reason: 0 with the bytes written, 9 with the bytes needed
pub data WroteRow (bs out : List ℕ) (k p : ℕ) : Type 0 where
  fit : length bs ≤ length out → k ≡ 0 → p ≡ length bs → WroteRow bs out k p
  no_room : length out < length bs → k ≡ 9 → p ≡ length bs → WroteRow bs out k p

module _ (bs out : List ℕ) where
  wrote_given : {k p : ℕ} → WroteRow bs out k p → (wrote_number (wrote bs out) ≡ k) × (wrote_count (wrote bs out) ≡ p)
  wrote_given (fit h q s) = rw (le-ltb (length out) (length bs) h) (sym q, sym s)
  wrote_given (no_room h q s) = rw (lt-ltb (length out) (length bs) h) (sym q, sym s)

  wrote_by : (b : Bool) → ltb (length out) (length bs) ≡ b → WroteRow bs out (wrote_number (wrote bs out)) (wrote_count (wrote bs out))
  wrote_by true e = rw e (no_room (ltb-true _ _ e) refl refl)
  wrote_by false e = rw e (fit (ltb-false _ _ e) refl refl)

  pub wrote_row : (k p : ℕ) → WroteRow bs out k p ↔ ((wrote_number (wrote bs out) ≡ k) × (wrote_count (wrote bs out) ≡ p))
  wrote_row k p = (wrote_given, λ h. subst (λ (x : ℕ). WroteRow bs out x p) h.0 (subst (WroteRow bs out (wrote_number (wrote bs out))) h.1 (wrote_by _ refl)))

-- with room for it a field is laid whole
pub laid_whole : (bs out : List ℕ) → length bs ≤ length out → laid bs out ≡ sets out 0 bs
laid_whole bs out h = rw (le-ltb (length out) (length bs) h)

-- and what is answered is its length
module _ (bs out : List ℕ) (h : length bs ≤ length out) {w : Result ℕ Refusal} (e : w ≡ wrote bs out) where
  pub wrote_whole : w ≡ Ok (length bs)
  wrote_whole = e ∙ rw (le-ltb (length out) (length bs) h)

  pub wrote_length : {n : ℕ} → w ≡ Ok n → n ≡ length bs
  wrote_length q = let z = wrote_whole in cc
