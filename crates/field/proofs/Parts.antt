-- RULES 3.14: a field is written to the rest of the buffer. A run of stores in that rest, said of the whole buffer.
use Prim.Native.Nat.{ℕ, zero, suc, ◌+◌, ◌-◌, ◌≤◌}
use native.Mathlib.Nat.{zero-add, suc-add, add-zero}
use native.Mathlib.Omega.{arith}
use mathlib.Core.Path.{◌≡◌, refl, sym, ap, ◌∙◌}
use mathlib.Core.List.{List, [], ◌∷◌, ◌++◌, append-nil}
use lib.ListN.{length, set, take, drop, length-drop, drop_of_length-le}
use lib.Seq.{sets, take_all}
use Rattle.std.specs.Prelude.{Ok, Result}
use Rattle.rules.specs.declared.Refusal.{Refusal}
use Rattle.field.specs.Format.{wrote, laid}
use Rattle.field.proofs.Writing.{laid_whole, wrote_whole, wrote_length}

sets_cons : (x : ℕ) (xs : List ℕ) (j : ℕ) (vs : List ℕ) → sets (x ∷ xs) (suc j) vs ≡ x ∷ sets xs j vs
sets_cons x xs j [] = refl
sets_cons x xs j (v ∷ vs) = sets_cons x (set xs j v) (suc j) vs

sets_drop : (at : ℕ) (l : List ℕ) (i : ℕ) (vs : List ℕ) → at ≤ length l → take at l ++ sets (drop at l) i vs ≡ sets l (at + i) vs
sets_drop zero l i vs h = ap (λ (k : ℕ). sets l k vs) (sym (zero-add i))
sets_drop (suc at) [] i vs h = absurd (omega arith)
sets_drop (suc at) (x ∷ xs) i vs h =
    ap (λ (r : List ℕ). x ∷ r) (sets_drop at xs i vs (omega arith))
    ∙ sym (sets_cons x xs (at + i) vs)
    ∙ ap (λ (k : ℕ). sets (x ∷ xs) k vs) (sym (suc-add at i))

-- a part from `at` to the end, with stores from its front on, put back into the whole
pub part_back : (l vs : List ℕ) (at : ℕ) → at ≤ length l
    → take at l ++ (sets (take (length l - at) (drop at l)) 0 vs ++ drop (length l - at) (drop at l)) ≡ sets l at vs
part_back l vs at h =
    let e : length (drop at l) ≡ length l - at = length-drop at l in
    ap (λ (r : List ℕ). take at l ++ (sets r 0 vs ++ drop (length l - at) (drop at l))) (take_all (length l - at) (drop at l) (omega arith))
    ∙ ap (λ (r : List ℕ). take at l ++ (sets (drop at l) 0 vs ++ r)) (drop_of_length-le (drop at l) {i = length l - at} (omega arith))
    ∙ ap (λ (r : List ℕ). take at l ++ r) (append-nil (sets (drop at l) 0 vs))
    ∙ sets_drop at l 0 vs h
    ∙ ap (λ (k : ℕ). sets l k vs) (add-zero at)

-- the part of a buffer from a place on
abbrev Part : List ℕ → ℕ → List ℕ
Part out at = take (length out - at) (drop at out)

part_long : (out : List ℕ) (at : ℕ) → length (Part out at) ≡ length out - at
part_long out at = ap length (take_all (length out - at) (drop at out) (rw length-drop (omega arith))) ∙ length-drop at out

-- a field written in that part, which has room for it: its bytes stand there, and its length is answered
module _ (out bs : List ℕ) (at : ℕ) (h : at + length bs ≤ length out) where
  part_room : length bs ≤ length (Part out at)
  part_room = omega (arith, part_long out at)

  pub put_back : {part : List ℕ} → part ≡ laid bs (Part out at) → take at out ++ (part ++ drop (length out - at) (drop at out)) ≡ sets out at bs
  put_back e = ap (λ (p : List ℕ). take at out ++ (p ++ drop (length out - at) (drop at out))) (e ∙ laid_whole bs (Part out at) part_room) ∙ part_back out bs at (omega arith)

  module _ {w : Result ℕ Refusal} (e : w ≡ wrote bs (Part out at)) where
    pub put_whole : w ≡ Ok (length bs)
    put_whole = wrote_whole bs (Part out at) part_room e

    pub put_length : {n : ℕ} → w ≡ Ok n → n ≡ length bs
    put_length = wrote_length bs (Part out at) part_room e
